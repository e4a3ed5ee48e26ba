-- What is fine of a volume makes its texts ones that can be read.
use Rattle.std.proofs.Common.{ℕ, ◌≡◌, ◌≤◌, List, [], ◌∷◌, Bool, true, false, Some, None, refl}
use Rattle.std.proofs.Common.{◌∙◌, ◌<◌, ◌^◌, ap, arith, subst, sym, not, ◌||◌, if◌then◌else◌, replicate, ◌+◌, ◌++◌, length, length-append}
use Rattle.std.specs.List.{All, AllByRecursion, list_all}
use Rattle.std.specs.Int.{is_in_range}
use Rattle.std.proofs.lemmas.Bool.{and_from, and_parts}
use Rattle.std.proofs.lemmas.List.Elements.{All-nil, All-cons}
use Rattle.std.proofs.Common.{nat_le, zero, suc}
use Rattle.std.specs.Str.{IsUtf8, chars}
use Rattle.index_model.specs.Values.{Tells}
use Rattle.ltfs_documents.specs.declared.doc_fields.starts.Attribute.TheVariants.{Version}
use Rattle.ltfs_documents.specs.declared.doc_fields.tags.Tag.TheVariants.{LtfsLabel, Creator, FormatTime, VolumeUuid, Location, Partition}
use Rattle.ltfs_documents.specs.declared.doc_fields.tags.Tag.TheVariants.{Partitions, IndexLetter, DataLetter, BlockSize, Compression}
use Rattle.ltfs_documents.specs.DocFields.Written.{end_text, start_text}
use Rattle.ltfs_documents.specs.declared.doc_fields.tags.Tag.{Tag}
use Rattle.ltfs_documents.specs.declared.doc_fields.starts.Attribute.TheVariants.{Absent}
use Rattle.tape_types.proofs.UuidLemmas.{length-uuid}
use Rattle.ltfs_label.specs.Canonical.{IsLabel, canonical, element, head, leaf_text}
use Rattle.ltfs_documents.specs.DocElements.Pieces.{letter as sign, number as size, time, truth, uuid, words}
use Rattle.ltfs_label.specs.Values.{label_of}
use Rattle.std.specs.Fmt.{decimal}
use Rattle.std.proofs.lemmas.Fmt.{length-decimal-le}
use Rattle.tape_types.specs.declared.times.Civil.{Civil}
use Rattle.tape_types.specs.Times.{civil_text}
use Rattle.tape_types.specs.Uuids.{uuid_text}
use Rattle.tape_types.specs.declared.cartridges.Part.{Part}
use Rattle.tape_types.specs.declared.cartridges.Part.TheVariants.{Ip, Dp}
use Rattle.vol_label.specs.Table.{IsVol1, is_printable}
use Rattle.format_volume.specs.declared.requests.FormatSpec.{FormatSpec}
use Rattle.format_volume.specs.declared.requests.Field.TheVariants as fields
use Rattle.format_volume.specs.Refusals.{HasTexts, IsSpec, is_capital, is_policy, is_volume_name, spec_fault}
use Rattle.format_volume.specs.Texts.{AreTextsOf}
use Rattle.format_volume.specs.Writes.{IsOneBlock}
use Rattle.format_volume.specs.declared.texts.Texts as kept
use Rattle.format_volume.specs.Volumes.{index_on, label_on, letter, record_for, told_on}

-- the fields of a volume of which nothing is refused
pub record IsFine (spec : FormatSpec) : Type 0 where
  pub volume : list_all is_capital spec.volume ≡ true
  pub block : is_in_range 4096 1048576 spec.block ≡ true
  pub name : is_volume_name spec.name ≡ true
  pub policy : is_policy spec.policy ≡ true

four : (a b c d : Bool)
    → (if not a then Some fields.Vol else if not b then Some fields.Block else if not c then Some fields.Name
    else if not d then Some fields.Policy else None) ≡ None
    → (a ≡ true) × (b ≡ true) × (c ≡ true) × (d ≡ true)
four true true true true e = (refl, refl, refl, refl)
four false b c d e = absurd (cc e)
four true false c d e = absurd (cc e)
four true true false d e = absurd (cc e)
four true true true false e = absurd (cc e)

-- what passes the check of a format is fine for texts that can be read
pub fine : (spec : FormatSpec) → spec_fault spec ≡ None → IsFine spec
fine spec none =
    let all = four (list_all is_capital spec.volume) (is_in_range 4096 1048576 spec.block) (is_volume_name spec.name)
    (is_policy spec.policy) none in
    record { volume = all.0; block = all.1; name = all.2; policy = all.3 }

-- the index of an empty volume tells the values that its text is written from
pub tells : (part : Part) (spec : FormatSpec) → Tells (index_on part spec) (told_on part spec)
tells part spec = record { volume = refl; nodes = refl }

abbrev width : Tag → ℕ
width tag = length (start_text tag Absent) + length (end_text tag)

cat : (a b : List ℕ) (m n : ℕ) → length a ≡ m → length b ≡ n → length (a ++ b) ≡ m + n
cat a b m n x y = length-append a b ∙ ap (λ (k : ℕ). k + length b) x ∙ ap (λ (k : ℕ). m + k) y

enclosed : (s c e : List ℕ) → length (s ++ c ++ e) ≡ length c + (length s + length e)
enclosed s c e = omega (arith, length-append s c, length-append (s ++ c) e)

-- an element with so many bytes in it, and so many in its tags
el : (tag : Tag) (content : List ℕ) (n w : ℕ) → width tag ≡ w → length content ≡ n → length (element tag content) ≡ n + w
el tag content n w is e =
    enclosed (start_text tag Absent) content (end_text tag) ∙ ap (λ (k : ℕ). k + width tag) e ∙ ap (λ (k : ℕ). n + k) is

civil_length : (c : Civil) → length (civil_text c) ≡ 30
unfolding civil_text
civil_length c = refl

-- a label's text has so many bytes, beside the digits of the size of a block
label_length : (part : Part) (spec : FormatSpec)
    → length (canonical (label_of (label_on part spec))) ≡ length (decimal spec.block) + 384
unfolding canonical
label_length part spec =
    let v = label_of (label_on part spec) in
    let a = leaf_text Creator (words v.creator) in
    let b = leaf_text FormatTime (time v.formatted) in
    let c = leaf_text VolumeUuid (uuid v.uuid) in
    let d = element Location (leaf_text Partition (sign v.location)) in
    let e = element Partitions (leaf_text IndexLetter (sign v.index) ++ leaf_text DataLetter (sign v.dpart)) in
    let f = leaf_text BlockSize (size v.block) in
    let g = leaf_text Compression (truth v.compression) in
    let front = head ++ start_text LtfsLabel Version in
    let ab = cat a b 36 55 refl (el FormatTime (civil_text v.formatted) 30 25 refl (civil_length v.formatted)) in
    let abc = cat (a ++ b) c _ 61 ab (el VolumeUuid (uuid_text v.uuid) 36 25 refl (length-uuid v.uuid)) in
    let abcd = cat (a ++ b ++ c) d _ 45 abc refl in
    let abcde = cat (a ++ b ++ c ++ d) e _ 55 abcd refl in
    let to_f = cat (a ++ b ++ c ++ d ++ e) f _ _ abcde (el BlockSize (decimal v.block) _ 23 refl refl) in
    let to_g = cat (a ++ b ++ c ++ d ++ e ++ f) g _ 32 to_f refl in
    let inner = cat front (a ++ b ++ c ++ d ++ e ++ f ++ g) 65 _ refl to_g in
    let whole = cat (front ++ (a ++ b ++ c ++ d ++ e ++ f ++ g)) (end_text LtfsLabel) _ 12 inner refl in
    whole ∙ omega arith

le_true : (a b : ℕ) → a ≤ b → nat_le a b ≡ true
le_true a b h = grind arith

true_le : (a b : ℕ) → nat_le a b ≡ true → a ≤ b
true_le a b h = grind arith

within : (lo hi n : ℕ) → is_in_range lo hi n ≡ true → (lo ≤ n) × (n ≤ hi)
within lo hi n is =
    let p = and_parts (nat_le lo n) (nat_le n hi) is in
    (true_le lo n p.0, true_le n hi p.1)

printable : (byte : ℕ) → is_capital byte ≡ true → is_printable byte ≡ true
printable byte is = either (is_in_range 65 90 byte) (is_in_range 48 57 byte) refl refl is
  where
    fits : (lo hi : ℕ) → 32 ≤ lo → hi ≤ 126 → is_in_range lo hi byte ≡ true → is_printable byte ≡ true
    fits lo hi low high e =
        let r = within lo hi byte e in
        let one : nat_le 32 byte ≡ true = le_true 32 byte (omega (arith, low, r.0)) in
        let two : nat_le byte 126 ≡ true = le_true byte 126 (omega (arith, high, r.1)) in
        and_from (nat_le 32 byte) (nat_le byte 126) one two

    either : (a b : Bool) → is_in_range 65 90 byte ≡ a → is_in_range 48 57 byte ≡ b → (a || b) ≡ true → is_printable byte ≡ true
    either true b e f is = fits 65 90 (omega arith) (omega arith) e
    either false true e f is = fits 48 57 (omega arith) (omega arith) f
    either false false e f is = absurd (cc is)

printables : (bytes : List ℕ) → list_all is_capital bytes ≡ true → All (λ byte. is_printable byte ≡ true) bytes
printables [] e = All-nil (λ byte. is_printable byte ≡ true)
printables (b ∷ bytes) e =
    let p = and_parts (is_capital b) (list_all is_capital bytes) e in
    All-cons (λ byte. is_printable byte ≡ true) b bytes (printable b p.0) (printables bytes p.1)

spaces : (n : ℕ) → All (λ byte. is_printable byte ≡ true) (replicate n 32)
spaces zero = All-nil (λ byte. is_printable byte ≡ true)
spaces (suc n) = All-cons (λ byte. is_printable byte ≡ true) 32 (replicate n 32) refl (spaces n)

pub record_fits : (spec : FormatSpec) → spec_fault spec ≡ None → IsVol1 (record_for spec)
record_fits spec none = record { volume = printables spec.volume (fine spec none).volume; owner = spaces 14 }

-- the letter of a partition is one from `a` to `z`
pub letter_fits : (part : Part) → (97 ≤ letter part) × (letter part ≤ 122)
letter_fits Ip = (omega arith, omega arith)
letter_fits Dp = (omega arith, omega arith)

-- the label of a checked format is a label as the standard has it
pub label_fits : (part : Part) (spec : FormatSpec) → spec_fault spec ≡ None → IsLabel (label_of (label_on part spec))
unfolding chars
label_fits part spec none = record {
  creator = refl;
  location = letter_fits part;
  index = letter_fits Ip;
  dpart = letter_fits Dp;
  block = (fine spec none).block;
}

label_size : (part : Part) (spec : FormatSpec) → spec_fault spec ≡ None
    → (1 ≤ length (canonical (label_of (label_on part spec)))) × (length (canonical (label_of (label_on part spec))) ≤ 1048576)
label_size part spec none =
    let range = within 4096 1048576 spec.block (fine spec none).block in
    let digits = length-decimal-le 7 spec.block (omega arith) (omega (arith, range.1)) (omega (arith, range.1)) in
    (omega (arith, label_length part spec), omega (arith, label_length part spec, digits))

-- the block size of a checked format is 4,096 to 1,048,576 bytes
pub some_block : (spec : FormatSpec) → spec_fault spec ≡ None → (4096 ≤ spec.block) × (spec.block ≤ 1048576)
some_block spec none = within 4096 1048576 spec.block (fine spec none).block

-- one more text that is good UTF-8 leaves all of them good
pub texts_more : (texts : List (List ℕ)) (text : List ℕ) → AllByRecursion IsUtf8 texts → IsUtf8 text
    → AllByRecursion IsUtf8 (texts ++ text ∷ [])
texts_more [] text all is = (is, tt)
texts_more (t ∷ texts) text all is = (all.0, texts_more texts text all.1 is)

-- the label of the index partition fits in one block
pub ip_one_block : (spec : FormatSpec) (texts : kept.Texts) → spec_fault spec ≡ None → AreTextsOf spec texts
    → IsOneBlock texts.ip_label
ip_one_block spec texts none are =
    let size = label_size Ip spec none in
    subst (λ (l : List ℕ). IsOneBlock l) (sym are.ip_label) (record { some = size.0; size = size.1 })

-- the label of the data partition fits in one block
pub dp_one_block : (spec : FormatSpec) (texts : kept.Texts) → spec_fault spec ≡ None → AreTextsOf spec texts
    → IsOneBlock texts.dp_label
dp_one_block spec texts none are =
    let size = label_size Dp spec none in
    subst (λ (l : List ℕ). IsOneBlock l) (sym are.dp_label) (record { some = size.0; size = size.1 })

-- a name, a policy and an identifier that are good make the values of a format good
pub values_of : (spec : FormatSpec) → spec.uuid < 2 ^ 128 → IsUtf8 spec.name → HasTexts spec.policy → IsSpec spec
values_of spec small text texts = record { uuid = small; name = text; patterns = texts }
