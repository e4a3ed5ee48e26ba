-- The fields of a note.
use Rattle.std.proofs.Common.{◌≡◌, ℕ, ◌+◌, ◌<◌, ◌≤◌, ◌^◌, nat_le, true, ◌==◌, List, [], ◌∷◌, ◌++◌, length, get_or, take, drop, map, replicate, codes, refl, sym, ap, ◌∙◌, arith, Some, None}
use Rattle.std.specs.Cmp.Derive.{both_true}
use Rattle.std.specs.List.{slice_range, range_with_len}
use Rattle.std.specs.Int.{w64, from_be_bytes, to_be_bytes}
use Rattle.std.specs.Str.{bytes_eq}
use Rattle.std.proofs.lemmas.Bool.{eq-eqb, eqb-true, and_parts}
use Rattle.std.proofs.lemmas.Grind.{same_number_lists}
use Rattle.std.proofs.lemmas.List.FromFn.{length-map-range_with_len, get_or-map-range_with_len}
use Rattle.std.proofs.lemmas.Nat.{from_be_bytes-to_be_bytes_8}
use Rattle.std.proofs.lemmas.Slice.Eq.{bytes_eq-Decides}
use Rattle.tape_types.specs.declared.cartridges.Note.{Note}
use Rattle.tape_types.specs.declared.cartridges.Note.TheVariants.{Kept}
use Rattle.coherency.specs.declared.Coherency.{Coherency}
use Rattle.coherency.specs.Frame.{has_frame}
use Rattle.coherency.specs.Notes.{HasValues, IsCurrent, IsNote}
use Rattle.tape_types.specs.Uuids.{uuid_in}

-- a note without values is not current
pub not_current : (note : Note) (bytes : List ℕ) (vcr uuid : ℕ) → note ≡ Kept bytes → ((c : Coherency) → IsNote bytes c → None ≡ Some c) → IsCurrent note vcr uuid → ⊥
not_current note bytes vcr uuid e none current =
    let found : HasValues (Kept bytes) current.0 = rw e at current.1 in
    let bad = none current.0 found in
    absurd (cc bad)

same_bytes : (xs ys : List ℕ) → xs ≡ ys → bytes_eq xs ys ≡ true
same_bytes xs ys e = (bytes_eq-Decides xs ys).1 e

bytes_same : (xs ys : List ℕ) → bytes_eq xs ys ≡ true → xs ≡ ys
bytes_same xs ys e = (bytes_eq-Decides xs ys).0 e

le_true : (a b : ℕ) → a ≤ b → nat_le a b ≡ true
le_true a b h = grind arith

true_le : (a b : ℕ) → nat_le a b ≡ true → a ≤ b
true_le a b h = grind arith

-- a note has the bytes that every note has
pub note-frame : (note : List ℕ) (c : Coherency) → IsNote note c → has_frame note ≡ true
note-frame note c h =
    both_true (both_true (both_true (both_true (eq-eqb (get_or note 0 0) 8 h.reference_length) (same_bytes (slice_range note 25 27) (0 ∷ 43 ∷ []) h.information_length)) (same_bytes (slice_range note 27 32) (codes "LTFS" ++ 0 ∷ []) h.signature)) (eq-eqb (get_or note 68 0) 0 h.uuid_end)) (le_true (get_or note 69 0) 1 h.version)

-- 70 bytes with those of every note and the values at their places are that note
pub frame-note : (note : List ℕ) (c : Coherency) → length note ≡ 70 → has_frame note ≡ true → c.vcr ≡ from_be_bytes w64 (slice_range note 1 9) → c.generation ≡ from_be_bytes w64 (slice_range note 9 17) → c.block ≡ from_be_bytes w64 (slice_range note 17 25) → uuid_in (slice_range note 32 68) ≡ Some c.uuid → IsNote note c
frame-note note c long frame vcr generation block uuid =
    let version = and_parts _ (nat_le (get_or note 69 0) 1) frame in
    let uuid_end = and_parts _ (get_or note 68 0 == 0) version.0 in
    let signature = and_parts _ (bytes_eq (slice_range note 27 32) (codes "LTFS" ++ 0 ∷ [])) uuid_end.0 in
    let lengths = and_parts (get_or note 0 0 == 8) (bytes_eq (slice_range note 25 27) (0 ∷ 43 ∷ [])) signature.0 in
    record {
      size = long;
      reference_length = eqb-true (get_or note 0 0) 8 lengths.0;
      vcr = vcr;
      generation = generation;
      block = block;
      information_length = bytes_same (slice_range note 25 27) (0 ∷ 43 ∷ []) lengths.1;
      signature = bytes_same (slice_range note 27 32) (codes "LTFS" ++ 0 ∷ []) signature.1;
      uuid = uuid;
      uuid_end = eqb-true (get_or note 68 0) 0 uuid_end.1;
      version = true_le (get_or note 69 0) 1 version.1;
    }

-- a list of n numbers, one by one
listed : (n : ℕ) (xs : List ℕ) → length xs ≡ n → xs ≡ map (λ k. get_or xs k 0) (range_with_len 0 n)
listed n xs long =
    same_number_lists xs (map (λ k. get_or xs k 0) (range_with_len 0 n)) (long ∙ sym (length-map-range_with_len (λ k. get_or xs k 0) 0 n))
    (λ k lt. sym (get_or-map-range_with_len (λ j. get_or xs j 0) 0 n k k 0 (omega arith) (omega arith)))

-- what is kept of a list when a field is written into it
abbrev pub put_field : ℕ → List ℕ → List ℕ → List ℕ
put_field at field note = take at note ++ field ++ drop (at + length field) note

-- the fields in their order
abbrev pub fields : List ℕ → List ℕ → List ℕ → List ℕ → List ℕ
fields v g b u = 8 ∷ [] ++ v ++ g ++ b ++ 0 ∷ 43 ∷ [] ++ codes "LTFS" ++ 0 ∷ [] ++ u ++ 0 ∷ 1 ∷ []

in_order : (v g b u : List ℕ) → length v ≡ 8 → length g ≡ 8 → length b ≡ 8 → length u ≡ 36
    → put_field 69 (1 ∷ []) (put_field 32 u (put_field 27 (codes "LTFS" ++ 0 ∷ []) (put_field 25 (0 ∷ 43 ∷ []) (put_field 17 b (put_field 9 g (put_field 1 v (put_field 0 (8 ∷ []) (replicate 70 0)))))))) ≡ fields v g b u
in_order v g b u lv lg lb lu = rw (listed 8 v lv, listed 8 g lg, listed 8 b lb, listed 36 u lu) refl

-- the fields, written one after the other over zeros
pub written : (n₁ n₂ n₃ n₄ n₅ n₆ n₇ n₈ v g b u : List ℕ) → length v ≡ 8 → length g ≡ 8 → length b ≡ 8 → length u ≡ 36
    → n₁ ≡ put_field 0 (8 ∷ []) (replicate 70 0) → n₂ ≡ put_field 1 v n₁ → n₃ ≡ put_field 9 g n₂ → n₄ ≡ put_field 17 b n₃ → n₅ ≡ put_field 25 (0 ∷ 43 ∷ []) n₄ → n₆ ≡ put_field 27 (codes "LTFS" ++ 0 ∷ []) n₅ → n₇ ≡ put_field 32 u n₆ → n₈ ≡ put_field 69 (1 ∷ []) n₇
    → n₈ ≡ fields v g b u
written n₁ n₂ n₃ n₄ n₅ n₆ n₇ n₈ v g b u lv lg lb lu e₁ e₂ e₃ e₄ e₅ e₆ e₇ e₈ =
    e₈ ∙ rw (e₇, e₆, e₅, e₄, e₃, e₂, e₁) (in_order v g b u lv lg lb lu)

record Parts (v g b u : List ℕ) : Type 0 where
  size : length (fields v g b u) ≡ 70
  vcr : slice_range (fields v g b u) 1 9 ≡ v
  generation : slice_range (fields v g b u) 9 17 ≡ g
  block : slice_range (fields v g b u) 17 25 ≡ b
  information : slice_range (fields v g b u) 25 27 ≡ 0 ∷ 43 ∷ []
  signature : slice_range (fields v g b u) 27 32 ≡ codes "LTFS" ++ 0 ∷ []
  uuid : slice_range (fields v g b u) 32 68 ≡ u
  uuid_end : get_or (fields v g b u) 68 0 ≡ 0
  version : get_or (fields v g b u) 69 0 ≡ 1

parts : (v g b u : List ℕ) → length v ≡ 8 → length g ≡ 8 → length b ≡ 8 → length u ≡ 36 → Parts v g b u
parts v g b u lv lg lb lu =
    let ev = listed 8 v lv in
    let eg = listed 8 g lg in
    let eb = listed 8 b lb in
    let eu = listed 36 u lu in
    record {
      size = rw (ev, eg, eb, eu) refl;
      vcr = rw ev refl;
      generation = rw (ev, eg) refl;
      block = rw (ev, eg, eb) refl;
      information = rw (ev, eg, eb) refl;
      signature = rw (ev, eg, eb) refl;
      uuid = rw (ev, eg, eb, eu) refl;
      uuid_end = rw (ev, eg, eb, eu) refl;
      version = rw (ev, eg, eb, eu) refl;
    }

number_back : (n : ℕ) (bytes : List ℕ) → n < 2 ^ 64 → bytes ≡ to_be_bytes w64 n → n ≡ from_be_bytes w64 bytes
number_back n bytes fits e = sym (ap (from_be_bytes w64) e ∙ from_be_bytes-to_be_bytes_8 n fits)

-- a note with these fields has these values
pub fields-note : (note u : List ℕ) (c : Coherency) → length u ≡ 36 → c.vcr < 2 ^ 64 → c.generation < 2 ^ 64 → c.block < 2 ^ 64 → uuid_in u ≡ Some c.uuid → note ≡ fields (to_be_bytes w64 c.vcr) (to_be_bytes w64 c.generation) (to_be_bytes w64 c.block) u → IsNote note c
fields-note note u c long vcr generation block uuid e =
    let h = parts (to_be_bytes w64 c.vcr) (to_be_bytes w64 c.generation) (to_be_bytes w64 c.block) u refl refl refl long in
    rw e record {
      size = h.size;
      reference_length = refl;
      vcr = number_back c.vcr _ vcr h.vcr;
      generation = number_back c.generation _ generation h.generation;
      block = number_back c.block _ block h.block;
      information_length = h.information;
      signature = h.signature;
      uuid = ap uuid_in h.uuid ∙ uuid;
      uuid_end = h.uuid_end;
      version = omega (arith, h.version);
    }
