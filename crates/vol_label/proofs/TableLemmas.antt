-- The table of the record, byte by byte.
use Rattle.std.proofs.Common.{◌≡◌, ℕ, ◌+◌, ◌-◌, ◌<◌, ◌≤◌, nat_lt, true, false, ◌==◌, List, ◌++◌, length, get_or, take, drop, map, replicate, codes, refl, sym, ap, ◌∙◌, subst, arith, inl, inr, length-take, length-drop}
use Rattle.std.specs.List.{All, slice_range, range_with_len}
use Rattle.std.proofs.lemmas.Bool.{cases_order, lt-ltb, eqb-true, eq-eqb}
use Rattle.std.proofs.lemmas.Grind.{same_number_lists}
use Rattle.std.proofs.lemmas.List.Edits.{get_or-between}
use Rattle.std.proofs.lemmas.List.Elements.{All-get_or, All-from_get_or}
use Rattle.std.proofs.lemmas.List.FromFn.{length-map-range_with_len, get_or-map-range_with_len}
use Rattle.vol_label.specs.declared.Vol1.{Vol1}
use Rattle.vol_label.specs.Table.{IsRecord, IsVol1, is_printable, may_stand, record_of}

-- each of the 80 bytes may stand where it stands
abbrev pub AllStand : List ℕ → Type 0
AllStand bytes = (k : ℕ) → k < 80 → may_stand k (get_or bytes k 0) ≡ true

length-field : (bytes : List ℕ) (from end : ℕ) → length bytes ≡ 80 → from ≤ end → end ≤ 80 → length (slice_range bytes from end) ≡ end - from
length-field bytes from end long low high = simp (length-take, length-drop) (omega arith)

-- a byte of a field
in_field : (bytes field : List ℕ) (from end at : ℕ) → slice_range bytes from end ≡ field → from ≤ at → at < end → get_or bytes at 0 ≡ get_or field (at - from) 0
in_field bytes field from end at e low high =
    let back : from + (at - from) ≡ at = omega arith in
    let here : get_or (slice_range bytes from end) (at - from) 0 ≡ get_or bytes (from + (at - from)) 0 = get_or-between bytes from end (at - from) 0 (omega arith) in
    ap (λ (k : ℕ). get_or bytes k 0) (sym back) ∙ sym here ∙ ap (λ (xs : List ℕ). get_or xs (at - from) 0) e

-- a field with these bytes
is_field : (bytes field : List ℕ) (from end : ℕ) → length bytes ≡ 80 → from ≤ end → end ≤ 80 → length field ≡ end - from → ((k : ℕ) → k < end - from → get_or bytes (from + k) 0 ≡ get_or field k 0) → slice_range bytes from end ≡ field
is_field bytes field from end long low high size same =
    let measured = length-field bytes from end long low high in
    same_number_lists (slice_range bytes from end) field (measured ∙ sym size)
    (λ k lt. get_or-between bytes from end k 0 (omega arith) ∙ same k (omega arith))

not_lt : (a b : ℕ) → b ≤ a → nat_lt a b ≡ false
not_lt a b h = grind arith

not_eq : (a b : ℕ) → b < a → (a == b) ≡ false
not_eq a b h = grind arith

-- a byte that equals the text's at its place
same_byte : (text : List ℕ) (i byte : ℕ) → (byte == get_or text i 0) ≡ true → byte ≡ get_or text i 0
same_byte text i byte e = eqb-true byte (get_or text i 0) e

label_stands : (at byte : ℕ) → at < 4 → may_stand at byte ≡ true → byte ≡ get_or (codes "VOL1") at 0
label_stands at byte h e =
    let below4 = lt-ltb at 4 h in
    same_byte (codes "VOL1") at byte (rw below4 at e)

volume_stands : (at byte : ℕ) → 4 ≤ at → at < 10 → may_stand at byte ≡ true → is_printable byte ≡ true
volume_stands at byte h k e =
    let not4 = not_lt at 4 h in
    let below10 = lt-ltb at 10 k in
    rw (not4, below10) at e

letter_stands : (byte : ℕ) → may_stand 10 byte ≡ true → byte ≡ 76
letter_stands byte e = eqb-true byte 76 e

implementation_stands : (at byte : ℕ) → 24 ≤ at → at < 37 → may_stand at byte ≡ true → byte ≡ get_or (codes "LTFS         ") (at - 24) 0
implementation_stands at byte h k e =
    let not4 = not_lt at 4 (omega arith) in
    let not10 = not_lt at 10 (omega arith) in
    let other = not_eq at 10 (omega arith) in
    let not24 = not_lt at 24 h in
    let below37 = lt-ltb at 37 k in
    same_byte (codes "LTFS         ") (at - 24) byte (rw (not4, not10, other, not24, below37) at e)

owner_stands : (at byte : ℕ) → 37 ≤ at → at < 51 → may_stand at byte ≡ true → is_printable byte ≡ true
owner_stands at byte h k e =
    let not4 = not_lt at 4 (omega arith) in
    let not10 = not_lt at 10 (omega arith) in
    let other = not_eq at 10 (omega arith) in
    let not24 = not_lt at 24 (omega arith) in
    let not37 = not_lt at 37 h in
    let below51 = lt-ltb at 51 k in
    rw (not4, not10, other, not24, not37, below51) at e

version_stands : (byte : ℕ) → may_stand 79 byte ≡ true → byte ≡ 52
version_stands byte e = eqb-true byte 52 e

printable_in : (xs : List ℕ) (k : ℕ) → k < length xs → All (λ byte. is_printable byte ≡ true) xs → is_printable (get_or xs k 0) ≡ true
printable_in xs k lt all = All-get_or (λ byte. is_printable byte ≡ true) xs k 0 lt all

by_lt : {P : Type 0} (a b : ℕ) → (a < b → P) → (b ≤ a → P) → P
by_lt a b below from =
    elim (cases_order a b) [
      | inl same ↦ from (omega arith)
      | inr (inl lt) ↦ below lt
      | inr (inr gt) ↦ from (omega arith)
    ]

-- a field of printable bytes
all_printable : (bytes field : List ℕ) (from end : ℕ) → length bytes ≡ 80 → from ≤ end → end ≤ 80 → field ≡ slice_range bytes from end → ((k : ℕ) → from ≤ k → k < end → is_printable (get_or bytes k 0) ≡ true) → All (λ byte. is_printable byte ≡ true) field
all_printable bytes field from end long low high e each =
    let measured = length-field bytes from end long low high in
    let slice = All-from_get_or (λ byte. is_printable byte ≡ true) (slice_range bytes from end) 0
    (λ k lt. let here = get_or-between bytes from end k 0 (omega arith) in rw here (each (from + k) (omega arith) (omega arith))) in
    subst (λ (xs : List ℕ). All (λ byte. is_printable byte ≡ true) xs) (sym e) slice

-- in a record each byte may stand where it does
pub record_stands : (bytes : List ℕ) (label : Vol1) → IsRecord bytes label → AllStand bytes
record_stands bytes label h at last =
    let long = h.size in
    by_lt at 4
    (λ lt. let below = lt-ltb at 4 lt in
    let back : at - 0 ≡ at = omega arith in
    let here = in_field bytes (codes "VOL1") 0 4 at h.label_identifier (omega arith) lt in
    rw below (eq-eqb (get_or bytes at 0) (get_or (codes "VOL1") at 0) (rw back at here)))
    (λ ge4. let not4 = not_lt at 4 ge4 in by_lt at 10
    (λ lt. let below = lt-ltb at 10 lt in
    let here = in_field bytes label.volume 4 10 at h.volume_identifier ge4 lt in
    let size : length label.volume ≡ 6 = sym (ap length h.volume_identifier) ∙ length-field bytes 4 10 long (omega arith) (omega arith) in
    rw (not4, below, here) (printable_in label.volume (at - 4) (omega arith) h.printable.volume))
    (λ ge10. let not10 = not_lt at 10 ge10 in by_lt at 11
    (λ lt. let ten : at ≡ 10 = omega arith in
    let here : get_or bytes 10 0 ≡ 76 = in_field bytes (codes "L") 10 11 10 h.accessibility (omega arith) (omega arith) in
    rw (ten, here) refl)
    (λ ge11. let not_ten = not_eq at 10 ge11 in by_lt at 24
    (λ lt. let below = lt-ltb at 24 lt in rw (not4, not10, not_ten, below) refl)
    (λ ge24. let not24 = not_lt at 24 ge24 in by_lt at 37
    (λ lt. let below = lt-ltb at 37 lt in
    let here = in_field bytes (codes "LTFS         ") 24 37 at h.implementation_identifier ge24 lt in
    rw (not4, not10, not_ten, not24, below) (eq-eqb (get_or bytes at 0) (get_or (codes "LTFS         ") (at - 24) 0) here))
    (λ ge37. let not37 = not_lt at 37 ge37 in by_lt at 51
    (λ lt. let below = lt-ltb at 51 lt in
    let here = in_field bytes label.owner 37 51 at h.owner_identifier ge37 lt in
    let size : length label.owner ≡ 14 = sym (ap length h.owner_identifier) ∙ length-field bytes 37 51 long (omega arith) (omega arith) in
    rw (not4, not10, not_ten, not24, not37, below, here) (printable_in label.owner (at - 37) (omega arith) h.printable.owner))
    (λ ge51. let not51 = not_lt at 51 ge51 in by_lt at 79
    (λ lt. let below = lt-ltb at 79 lt in rw (not4, not10, not_ten, not24, not37, not51, below) refl)
    (λ ge79. let end : at ≡ 79 = omega arith in
    let here : get_or bytes 79 0 ≡ 52 = in_field bytes (codes "4") 79 80 79 h.standard_version (omega arith) (omega arith) in
    rw (end, here) refl)))))))

-- and where each may stand, these are a record
pub all_stand-record : (bytes : List ℕ) (label : Vol1) → length bytes ≡ 80 → AllStand bytes → label.volume ≡ slice_range bytes 4 10 → label.owner ≡ slice_range bytes 37 51 → IsRecord bytes label
all_stand-record bytes label long all volume owner = record {
  size = long;
  label_identifier = is_field bytes (codes "VOL1") 0 4 long (omega arith) (omega arith) refl
      (λ k lt. let back : 0 + k ≡ k = omega arith in rw back (label_stands k (get_or bytes k 0) lt (all k (omega arith))));
  volume_identifier = sym volume;
  accessibility = is_field bytes (codes "L") 10 11 long (omega arith) (omega arith) refl
      (λ k lt. let none : k ≡ 0 = omega arith in rw none (letter_stands (get_or bytes 10 0) (all 10 (omega arith))));
  implementation_identifier = is_field bytes (codes "LTFS         ") 24 37 long (omega arith) (omega arith) refl
      (λ k lt. let back : 24 + k - 24 ≡ k = omega arith in rw back at (implementation_stands (24 + k) (get_or bytes (24 + k) 0) (omega arith) (omega arith) (all (24 + k) (omega arith))));
  owner_identifier = sym owner;
  standard_version = is_field bytes (codes "4") 79 80 long (omega arith) (omega arith) refl
      (λ k lt. let none : k ≡ 0 = omega arith in rw none (version_stands (get_or bytes 79 0) (all 79 (omega arith))));
  printable = record {
    volume = all_printable bytes label.volume 4 10 long (omega arith) (omega arith) volume (λ k low high. volume_stands k (get_or bytes k 0) low high (all k (omega arith)));
    owner = all_printable bytes label.owner 37 51 long (omega arith) (omega arith) owner (λ k low high. owner_stands k (get_or bytes k 0) low high (all k (omega arith)));
  };
}

-- a list of n numbers, one by one
listed : (n : ℕ) (xs : List ℕ) → length xs ≡ n → xs ≡ map (λ k. get_or xs k 0) (range_with_len 0 n)
listed n xs long =
    same_number_lists xs (map (λ k. get_or xs k 0) (range_with_len 0 n)) (long ∙ sym (length-map-range_with_len (λ k. get_or xs k 0) 0 n))
    (λ k lt. sym (get_or-map-range_with_len (λ j. get_or xs j 0) 0 n k k 0 (omega arith) (omega arith)))

-- what is kept of a list when a field is written into it
abbrev pub put_field : ℕ → List ℕ → List ℕ → List ℕ
put_field at field bytes = take at bytes ++ field ++ drop (at + length field) bytes

abbrev text_of : List ℕ → List ℕ → List ℕ
text_of volume owner =
    codes "VOL1" ++ volume ++ codes "L" ++ replicate 13 32 ++ codes "LTFS" ++ replicate 9 32 ++ owner ++ replicate 28 32 ++ codes "4"

fields_in_order : (volume owner : List ℕ) → length volume ≡ 6 → length owner ≡ 14 → put_field 79 (codes "4") (put_field 37 owner (put_field 24 (codes "LTFS") (put_field 10 (codes "L") (put_field 4 volume (put_field 0 (codes "VOL1") (replicate 80 32)))))) ≡ text_of volume owner
fields_in_order volume owner six fourteen = rw (listed 6 volume six, listed 14 owner fourteen) refl

record Parts (v o : List ℕ) : Type 0 where
  size : length (text_of v o) ≡ 80
  volume : slice_range (text_of v o) 4 10 ≡ v
  accessibility : slice_range (text_of v o) 10 11 ≡ codes "L"
  implementation : slice_range (text_of v o) 24 37 ≡ codes "LTFS         "
  owner : slice_range (text_of v o) 37 51 ≡ o
  version : slice_range (text_of v o) 79 80 ≡ codes "4"

record_parts : (volume owner : List ℕ) → length volume ≡ 6 → length owner ≡ 14 → Parts volume owner
record_parts volume owner six fourteen =
    let v = listed 6 volume six in
    let o = listed 14 owner fourteen in
    record {
      size = rw (v, o) refl;
      volume = rw v refl;
      accessibility = rw v refl;
      implementation = rw v refl;
      owner = rw (v, o) refl;
      version = rw (v, o) refl;
    }

-- the fields, written one after the other over spaces
pub written : (b₁ b₂ b₃ b₄ b₅ b₆ : List ℕ) (label : Vol1) → length label.volume ≡ 6 → length label.owner ≡ 14
    → b₁ ≡ put_field 0 (codes "VOL1") (replicate 80 32) → b₂ ≡ put_field 4 label.volume b₁ → b₃ ≡ put_field 10 (codes "L") b₂ → b₄ ≡ put_field 24 (codes "LTFS") b₃ → b₅ ≡ put_field 37 label.owner b₄ → b₆ ≡ put_field 79 (codes "4") b₅
    → b₆ ≡ record_of label
written b₁ b₂ b₃ b₄ b₅ b₆ label volume owner e₁ e₂ e₃ e₄ e₅ e₆ =
    e₆ ∙ rw (e₅, e₄, e₃, e₂, e₁) (fields_in_order label.volume label.owner volume owner)

pub record_of-record : (label : Vol1) → length label.volume ≡ 6 → length label.owner ≡ 14 → IsVol1 label → IsRecord (record_of label) label
record_of-record label volume owner printable =
    let in_order = record_parts label.volume label.owner volume owner in
    record {
      size = in_order.size;
      label_identifier = refl;
      volume_identifier = in_order.volume;
      accessibility = in_order.accessibility;
      implementation_identifier = in_order.implementation;
      owner_identifier = in_order.owner;
      standard_version = in_order.version;
      printable = printable;
    }
