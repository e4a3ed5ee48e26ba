-- Base64 is decoded block by block: a block of 1,024 symbols in front of others stands for 768 bytes, or the whole for
-- nothing.
use Rattle.std.proofs.Common.{◌≡◌, ℕ, zero, suc, ◌+◌, ◌*◌, ◌<◌, ◌≤◌, ⊎_elim, eqb, Bool, true, false, not, cond, IfOk, if◌then◌else◌, List, [], ◌∷◌, ◌++◌, length, drop, get_or, replicate, Option, Some, None, Result, Ok, Err, refl, sym, ap, subst, ◌∙◌, arith}
use Rattle.std.specs.Result.{result_ok}
use Rattle.std.proofs.lemmas.Bool.Decides.{nat_tests}
use Rattle.std.specs.Io.KnownBytes.{prepend_known}
use Rattle.std.proofs.lemmas.List.{append-nil, append_assoc, length-append, take_at, drop_at, take_all, drop_all, drop_more, get_or-drop}
use Rattle.base64.specs.declared.decode.DecodeError.{DecodeError}
use Rattle.base64.specs.Decode.{IsDecodeTable, or_else, symbol_error, group_error, group_bytes, groups_error, groups_bytes, groups_before_last, decode_error, decode_outcome, lone_error}
use Rattle.base64.specs.Engines.{standard}
use Rattle.base64.specs.GeneralPurpose.{IsBytes, decode_of, decoded_of, encode_of, groups_error_of, groups_bytes_of}
use Rattle.base64.specs.Rfc4648.{encode_symbols, padding_len}
use Rattle.base64.proofs.Canonical.{take_groups}
use Rattle.base64.proofs.Decoding.{groups_error_first, length-groups_bytes}
use Rattle.base64.proofs.EngineFacts.{decode_of-encode_of, decode_of_strict}
use Rattle.base64.proofs.RoundTrip.{groups_encoded}
use Rattle.base64.proofs.Streams.{decoded_of-groups, decoded_of-ok}
use Rattle.ltfs_documents.specs.DocFields.Space.{is_space}
use Rattle.ltfs_documents.specs.DocElements.Blocks.{behind}
use Rattle.ltfs_documents.specs.DocElements.Pieces.{from_base64, without_space}
use Rattle.ltfs_documents.proofs.DocElements.Base64Lemmas.{from_ok, kept_bytes}
use Rattle.base64.proofs.Tables.{are_tables_inverse, IsDecodeTable_from}

-- 768 bytes are encoded without padding
unpadded : (bs : List ℕ) → length bs ≡ 768 → encode_of standard bs ≡ encode_symbols standard.encode_table bs
unpadded bs is =
    let none : padding_len (length bs) ≡ 0 = omega (arith, is) in
    ap (λ n. encode_symbols standard.encode_table bs ++ replicate n 61) none ∙ append-nil (encode_symbols standard.encode_table bs)

-- a block that stands for 768 bytes
block_read : (block rest bs : List ℕ) → length block ≡ 1024 → 0 < length rest → length bs ≡ 768 → IsBytes bs → block ≡ encode_of standard bs
    → decoded_of standard (block ++ rest) ≡ prepend_known bs (decoded_of standard rest)
block_read block rest bs size some many are is =
    let whole : encode_symbols standard.encode_table bs ++ rest ≡ block ++ rest = ap (λ (l : List ℕ). l ++ rest) (sym (is ∙ unpadded bs many)) in
    let groups = groups_encoded standard.encode_table standard.decode_table bs rest 61 256 standard.tables are (omega (arith, many)) in
    let none : groups_error_of standard (block ++ rest) 256 ≡ None = subst (λ s. groups_error_of standard s 256 ≡ None) whole groups.0 in
    let told : groups_bytes_of standard (block ++ rest) 256 ≡ bs =
    subst (λ s. groups_bytes_of standard s 256 ≡ bs) whole (groups.1 ∙ take_all 768 bs (omega (arith, many))) in
    let left : drop 1024 (block ++ rest) ++ [] ≡ rest = append-nil (drop 1024 (block ++ rest)) ∙ drop_at block rest 1024 size in
    ap (decoded_of standard) (sym (append-nil (block ++ rest)))
    ∙ decoded_of-groups standard (block ++ rest) [] 256 (omega (arith, length-append block rest, size, some)) none
    ∙ ap (λ bs. prepend_known bs (decoded_of standard (drop 1024 (block ++ rest) ++ []))) told
    ∙ ap (λ s. prepend_known bs (decoded_of standard s)) left

-- ---- what is decoded is bytes

-- bytes behind bytes are bytes
pub joined : (a b : List ℕ) → IsBytes a → IsBytes b → IsBytes (a ++ b)
joined [] b front back i = back i
joined (x ∷ a) b front back zero = front 0
joined (x ∷ a) b front back (suc i) = joined a b (λ k. front (suc k)) back i

-- three numbers below 256 are bytes
pub three : (x y z : ℕ) → x < 256 → y < 256 → z < 256 → IsBytes (x ∷ y ∷ z ∷ [])
three x y z first second third zero = first
three x y z first second third (suc zero) = second
three x y z first second third (suc (suc zero)) = third
three x y z first second third (suc (suc (suc i))) = omega arith

-- where the first error of two is none, neither is one
pub neither : (x y : Option DecodeError) → or_else x y ≡ None → (x ≡ None) × (y ≡ None)
neither None y e = (refl, e)
neither (Some x) y e = absurd (let bad : ◌≡◌ {A = Option DecodeError} (Some x) None = e in cc)

value : (dec s : List ℕ) (i : ℕ) → IsDecodeTable dec → IsBytes s → symbol_error dec s i ≡ None → get_or dec (get_or s i 0) 0 < 64
value dec s i table bytes none = ⊎_elim
    (λ (is : get_or dec (get_or s i 0) 0 ≡ 255). let same : eqb (get_or dec (get_or s i 0) 0) 255 ≡ true = grind (arith, nat_tests) in absurd (cc (rw same at none)))
    (λ lt. lt)
    (table (get_or s i 0) (bytes i))

group : (dec s : List ℕ) (i : ℕ) → IsDecodeTable dec → IsBytes s → group_error dec s i ≡ None → IsBytes (group_bytes dec s i)
group dec s i table bytes none =
    let p0 = neither (symbol_error dec s i) _ none in
    let p1 = neither (symbol_error dec s (i + 1)) _ p0.1 in
    let p2 = neither (symbol_error dec s (i + 2)) (symbol_error dec s (i + 3)) p1.1 in
    let a = value dec s i table bytes p0.0 in
    let b = value dec s (i + 1) table bytes p1.0 in
    let c = value dec s (i + 2) table bytes p2.0 in
    let d = value dec s (i + 3) table bytes p2.1 in
    three _ _ _ (omega (arith, a, b)) (omega (arith, b, c)) (omega (arith, c, d))

-- groups of symbols without an error stand for bytes
pub groups : (dec s : List ℕ) (q : ℕ) → IsDecodeTable dec → IsBytes s → groups_error dec s q ≡ None → IsBytes (groups_bytes dec s q)
unfolding groups_error groups_bytes
groups dec s zero table bytes none i = omega arith
groups dec s (suc q) table bytes none i =
    let parts = neither (groups_error dec s q) (group_error dec s (4 * q)) none in
    joined (groups_bytes dec s q) (group_bytes dec s (4 * q)) (groups dec s q table bytes parts.0) (group dec s (4 * q) table bytes parts.1) i

-- ---- a block that stands for no 768 bytes

-- a decoding that succeeds has no error
pub outcome : (x : Option DecodeError) (d b : List ℕ) → decode_outcome x d ≡ Ok b → x ≡ None
outcome None d b e = refl
outcome (Some x) d b e = cc e

fewer : (dec s : List ℕ) (q n : ℕ) → q ≤ n → groups_error dec s n ≡ None → groups_error dec s q ≡ None
fewer dec s q n le none = cases (groups_error dec s q) refl
  where
    cases : (o : Option DecodeError) → groups_error dec s q ≡ o → groups_error dec s q ≡ None
    cases None is = is
    cases (Some e) is = absurd (let bad : ◌≡◌ {A = Option DecodeError} (Some e) None = sym (groups_error_first dec s q n e is le) ∙ none in cc)

-- where the whole stands for bytes, so does the block
block_whole : (block rest bs : List ℕ) → length block ≡ 1024 → 0 < length rest → IsBytes (block ++ rest) → decode_of standard (block ++ rest) ≡ Ok bs
    → (ds : List ℕ) × (decode_of standard block ≡ Ok ds) × (length ds ≡ 768)
block_whole block rest bs size some bytes is =
    let enc = standard.encode_table in
    let dec = standard.decode_table in
    let s = block ++ rest in
    let inv = are_tables_inverse enc dec standard.padding.value standard.tables in
    let error = outcome (decode_error dec standard.padding.value standard.config.decode_allow_trailing_bits standard.config.decode_padding_mode s) _ bs is in
    let p0 = neither (lone_error dec standard.padding.value s) _ error in
    let p1 = neither (groups_error dec s (groups_before_last (length s))) _ p0.1 in
    let none = fewer dec s 256 (groups_before_last (length s)) (omega (arith, length-append block rest, size, some)) p1.0 in
    let ds = groups_bytes dec s 256 in
    let many : length ds ≡ 768 = length-groups_bytes dec s 256 in
    let same : block ≡ encode_symbols enc ds = sym (take_at block rest 1024 size) ∙ take_groups enc dec s 256 inv bytes (omega (arith, length-append block rest, size)) none in
    let text : encode_of standard ds ≡ block = unpadded ds many ∙ sym same in
    (ds, subst (λ t. decode_of standard t ≡ Ok ds) text (decode_of-encode_of standard ds refl (groups dec s 256 (IsDecodeTable_from enc dec inv) bytes none)), many)

-- symbols whose decoding fails stand for nothing
pub decoded_none : (s : List ℕ) (e : DecodeError) → decode_of standard s ≡ Err e → decoded_of standard s ≡ None
unfolding decoded_of
decoded_none s e is = ap result_ok is

-- ---- what is left to decode, behind bytes that were

joined_known : (out bs : List ℕ) (o : Option (List ℕ)) → prepend_known out (prepend_known bs o) ≡ prepend_known (out ++ bs) o
joined_known out bs None = refl
joined_known out bs (Some xs) = ap (λ (l : List ℕ). Some l) (sym (append_assoc out bs xs))

-- a whole block in front of more symbols is decoded to 768 bytes, and the rest follows
pub block_taken : (out block rest bs : List ℕ) → length block ≡ 1024 → 0 < length rest → length bs ≡ 768 → IsBytes block → IsBytes bs → decoded_of standard block ≡ Some bs
    → behind out (block ++ rest) ≡ behind (out ++ bs) rest
unfolding decoded_of
block_taken out block rest bs size some many bytes are is =
    let text = decode_of_strict standard block bs (refl, refl) bytes (from_ok (decode_of standard block) bs is) in
    ap (prepend_known out) (block_read block rest bs size some many are text) ∙ joined_known out bs (decoded_of standard rest)

-- where a block in front of more symbols stands for no 768 bytes, the whole stands for none
pub block_refused : (out block rest : List ℕ) → length block ≡ 1024 → 0 < length rest → IsBytes (block ++ rest) → ((bs : List ℕ) → decoded_of standard block ≡ Some bs → length bs ≡ 768 → ⊥)
    → behind out (block ++ rest) ≡ None
block_refused out block rest size some bytes other = cases (decode_of standard (block ++ rest)) refl
  where
    cases : (r : Result (List ℕ) DecodeError) → decode_of standard (block ++ rest) ≡ r → behind out (block ++ rest) ≡ None
    cases (Err e) is = ap (prepend_known out) (decoded_none (block ++ rest) e is)
    cases (Ok bs) is = let whole = block_whole block rest bs size some bytes is in absurd (other whole.0 (decoded_of-ok standard block whole.0 whole.1) whole.2)

-- ---- byte by byte

-- nothing stands in front of what is left
pub nothing_in_front : (o : Option (List ℕ)) → prepend_known [] o ≡ o
nothing_in_front None = refl
nothing_in_front (Some xs) = refl

-- a step with the next byte of a text
abbrev pub Takes : List ℕ → List ℕ → ℕ → List ℕ → List ℕ → Bool → Type 0
Takes out block byte next more taken = (rest : List ℕ) → IsBytes rest → behind out (block ++ without_space (byte ∷ rest)) ≡ (if taken then behind next (more ++ without_space rest) else None)

-- what is left of bytes is bytes
pub dropped : (n : ℕ) (text : List ℕ) → IsBytes text → IsBytes (drop n text)
dropped n text bytes i = subst (λ b. b < 256) (sym (get_or-drop n text i 0)) (bytes (n + i))

-- some bytes of a text were taken, and the others are to be
abbrev pub IsLeft : List ℕ → List ℕ → List ℕ → ℕ → List ℕ → List ℕ → Type 0
IsLeft first begun bytes i out block =
    (rest : List ℕ) → IsBytes rest → behind out (block ++ without_space (drop i bytes ++ rest)) ≡ behind first (begun ++ without_space (bytes ++ rest))

-- one byte more is taken
pub goes_on : (first begun bytes out block next more : List ℕ) (i : ℕ) (taken : Bool) → IsLeft first begun bytes i out block → i < length bytes → IsBytes bytes → Takes out block (get_or bytes i 0) next more taken → taken ≡ true
    → IsLeft first begun bytes (i + 1) next more
goes_on first begun bytes out block next more i taken kept lt are step is rest others =
    sym (ap (λ b. if b then behind next (more ++ without_space (drop (i + 1) bytes ++ rest)) else None) is) ∙ sym (step (drop (i + 1) bytes ++ rest) (joined (drop (i + 1) bytes) rest (dropped (i + 1) bytes are) others))
    ∙ ap (λ l. behind out (block ++ without_space (l ++ rest))) (sym (drop_more bytes i 0 lt)) ∙ kept rest others

-- a byte is refused, and so the whole stands for none
pub stops : (first begun bytes out block next more : List ℕ) (i : ℕ) (taken : Bool) → IsLeft first begun bytes i out block → i < length bytes → IsBytes bytes → Takes out block (get_or bytes i 0) next more taken → taken ≡ false
    → (rest : List ℕ) → IsBytes rest → behind first (begun ++ without_space (bytes ++ rest)) ≡ None
stops first begun bytes out block next more i taken kept lt are step is rest others =
    sym (kept rest others) ∙ ap (λ l. behind out (block ++ without_space (l ++ rest))) (drop_more bytes i 0 lt)
    ∙ step (drop (i + 1) bytes ++ rest) (joined (drop (i + 1) bytes) rest (dropped (i + 1) bytes are) others)
    ∙ ap (λ b. if b then behind next (more ++ without_space (drop (i + 1) bytes ++ rest)) else None) is

-- all bytes are taken
pub taken_all : (first begun bytes out block : List ℕ) (i : ℕ) → IsLeft first begun bytes i out block → length bytes ≤ i
    → (rest : List ℕ) → IsBytes rest → behind first (begun ++ without_space (bytes ++ rest)) ≡ behind out (block ++ without_space rest)
taken_all first begun bytes out block i kept le rest others =
    sym (kept rest others) ∙ ap (λ l. behind out (block ++ without_space (l ++ rest))) (drop_all i bytes le)

-- what taking these bytes says
abbrev pub TakesAll : List ℕ → List ℕ → List ℕ → List ℕ → List ℕ → Bool → Type 0
TakesAll out block bytes next more taken =
    (rest : List ℕ) → IsBytes rest → behind out (block ++ without_space (bytes ++ rest)) ≡ (if taken then behind next (more ++ without_space rest) else None)

none_are : IsBytes []
none_are i = omega arith

whole : (text out block : List ℕ) → out ≡ [] → block ≡ [] → behind out (block ++ without_space (text ++ [])) ≡ from_base64 text
unfolding from_base64
whole text out block none also = rw (none, also, append-nil text) (nothing_in_front (decoded_of standard (without_space text)))

-- a text that was refused stands for no bytes
pub decodes_none : (text out block next more : List ℕ) (taken : Bool) → out ≡ [] → block ≡ [] → TakesAll out block text next more taken → taken ≡ false → None ≡ from_base64 text
decodes_none text out block next more taken none also all is =
    sym (ap (λ b. if b then behind next (more ++ without_space []) else None) is) ∙ sym (all [] none_are) ∙ whole text out block none also

-- a text that was taken stands for what its last symbols make of what stands in front of them
pub decodes_all : (text out block next more : List ℕ) (taken : Bool) → out ≡ [] → block ≡ [] → TakesAll out block text next more taken → taken ≡ true → behind next more ≡ from_base64 text
decodes_all text out block next more taken none also all is =
    ap (behind next) (sym (append-nil more)) ∙ sym (ap (λ b. if b then behind next (more ++ without_space []) else None) is) ∙ sym (all [] none_are) ∙ whole text out block none also

-- a block that stands for none, or for another count of bytes
pub no_bytes : (block : List ℕ) → None ≡ decoded_of standard block → (bs : List ℕ) → decoded_of standard block ≡ Some bs → length bs ≡ 768 → ⊥
no_bytes block none bs is many = let bad : ◌≡◌ {A = Option (List ℕ)} None (Some bs) = none ∙ is in cc bad

-- a block that stands for another count of bytes than 768 stands for no 768
pub other_count : (block ds : List ℕ) → Some ds ≡ decoded_of standard block → (length ds ≡ 768 → ⊥) → (bs : List ℕ) → decoded_of standard block ≡ Some bs → length bs ≡ 768 → ⊥
other_count block ds some other bs is many =
    let same : ◌≡◌ {A = Option (List ℕ)} (Some ds) (Some bs) = some ∙ is in
    let one : ds ≡ bs = cc in
    other (ap length one ∙ many)

-- a step with a symbol
abbrev pub TakesSymbol : List ℕ → List ℕ → ℕ → List ℕ → List ℕ → Bool → Type 0
TakesSymbol out block symbol next more taken = (rest : List ℕ) → IsBytes rest → behind out (block ++ symbol ∷ rest) ≡ (if taken then behind next (more ++ rest) else None)

-- a step that takes a symbol takes a byte that is no white space
pub symbol_taken : (out block : List ℕ) (byte : ℕ) (next more : List ℕ) → is_space byte ≡ false → (taken : Bool) → TakesSymbol out block byte next more taken → Takes out block byte next more taken
symbol_taken out block byte next more other taken step rest are =
    ap (λ b. behind out (block ++ cond (not b) (byte ∷ without_space rest) (without_space rest))) other ∙ step (without_space rest) (kept_bytes (λ b. not (is_space b)) rest are)

-- what holds of an answer carries over to what follows from it
pub if_ok : {E : Type 0} (r : Result Bool E) (P Q : Bool → Type 0) → ((b : Bool) → P b → Q b) → IfOk r P → IfOk r Q
if_ok (Ok b) P Q each h = each b h
if_ok (Err e) P Q each h = tt
