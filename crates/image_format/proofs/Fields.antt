-- Fields at their offsets.
use Rattle.std.proofs.Common.{◌≡◌, ℕ, ◌+◌, ◌<◌, ◌^◌, List, [], ◌∷◌, ◌++◌, length, get_or, take, drop, map, replicate, refl, sym, ap, ◌∙◌, arith}
use Rattle.std.specs.Prelude.{slice_range}
use Rattle.std.specs.List.{range_with_len}
use Rattle.std.specs.Int.{w64, from_be_bytes, to_be_bytes}
use Rattle.std.proofs.lemmas.Grind.{same_number_lists}
use Rattle.std.proofs.lemmas.List.FromFn.{length-map-range_with_len, get_or-map-range_with_len}
use Rattle.std.proofs.lemmas.Nat.{from_be_bytes-to_be_bytes_8}

-- a list of n numbers, one by one
listed : (n : ℕ) (xs : List ℕ) → length xs ≡ n → xs ≡ map (λ k. get_or xs k 0) (range_with_len 0 n)
listed n xs long =
    same_number_lists xs (map (λ k. get_or xs k 0) (range_with_len 0 n)) (long ∙ sym (length-map-range_with_len (λ k. get_or xs k 0) 0 n))
    (λ k lt. sym (get_or-map-range_with_len (λ j. get_or xs j 0) 0 n k k 0 (omega arith) (omega arith)))

-- what is kept of a list when a field is written into it
abbrev pub put_field : ℕ → List ℕ → List ℕ → List ℕ
put_field at field bytes = take at bytes ++ field ++ drop (at + length field) bytes

-- the fields of a half in their order
half_in_order : (c e n : List ℕ) (t : ℕ) → length c ≡ 8 → length e ≡ 8 → length n ≡ 71
    → put_field 17 n (put_field 16 (t ∷ []) (put_field 8 e (put_field 0 c (replicate 88 0)))) ≡ c ++ e ++ t ∷ n
half_in_order c e n t lc le ln = rw (listed 8 c lc, listed 8 e le, listed 71 n ln) refl

-- four fields of a partition written at their offsets stand one behind the other
pub half_written : (b₁ b₂ b₃ b₄ c e n : List ℕ) (t : ℕ) → length c ≡ 8 → length e ≡ 8 → length n ≡ 71
    → b₁ ≡ put_field 0 c (replicate 88 0) → b₂ ≡ put_field 8 e b₁ → b₃ ≡ put_field 16 (t ∷ []) b₂ → b₄ ≡ put_field 17 n b₃
    → b₄ ≡ c ++ e ++ t ∷ n
half_written b₁ b₂ b₃ b₄ c e n t lc le ln e₁ e₂ e₃ e₄ = e₄ ∙ rw (e₃, e₂, e₁) (half_in_order c e n t lc le ln)

-- those of a value
value_in_order : (s v i d : List ℕ) → length s ≡ 8 → length v ≡ 8 → length i ≡ 88 → length d ≡ 88
    → put_field 104 d (put_field 16 i (put_field 8 v (put_field 0 s (replicate 255 0)))) ≡ s ++ v ++ i ++ d ++ replicate 63 0
value_in_order s v i d ls lv li ld = rw (listed 8 s ls, listed 8 v lv, listed 88 i li, listed 88 d ld) refl

-- four fields of a value written at their offsets stand one behind the other
pub value_written : (b₁ b₂ b₃ b₄ s v i d : List ℕ) → length s ≡ 8 → length v ≡ 8 → length i ≡ 88 → length d ≡ 88
    → b₁ ≡ put_field 0 s (replicate 255 0) → b₂ ≡ put_field 8 v b₁ → b₃ ≡ put_field 16 i b₂ → b₄ ≡ put_field 104 d b₃
    → b₄ ≡ s ++ v ++ i ++ d ++ replicate 63 0
value_written b₁ b₂ b₃ b₄ s v i d ls lv li ld e₁ e₂ e₃ e₄ = e₄ ∙ rw (e₃, e₂, e₁) (value_in_order s v i d ls lv li ld)

-- where the fields of a value stand
pub record Parts (s v i d : List ℕ) : Type 0 where
  pub size : length (s ++ v ++ i ++ d ++ replicate 63 0) ≡ 255
  pub serial : slice_range (s ++ v ++ i ++ d ++ replicate 63 0) 0 8 ≡ s
  pub vcr : slice_range (s ++ v ++ i ++ d ++ replicate 63 0) 8 16 ≡ v
  pub ip : slice_range (s ++ v ++ i ++ d ++ replicate 63 0) 16 104 ≡ i
  pub dp : slice_range (s ++ v ++ i ++ d ++ replicate 63 0) 104 192 ≡ d

-- what each field of a value reads as
pub parts : (s v i d : List ℕ) → length s ≡ 8 → length v ≡ 8 → length i ≡ 88 → length d ≡ 88 → Parts s v i d
parts s v i d ls lv li ld =
    let es = listed 8 s ls in
    let ev = listed 8 v lv in
    let ei = listed 88 i li in
    let ed = listed 88 d ld in
    record {
      size = rw (es, ev, ei, ed) refl;
      serial = rw es refl;
      vcr = rw (es, ev) refl;
      ip = rw (es, ev, ei) refl;
      dp = rw (es, ev, ei, ed) refl;
    }

-- a number written in eight bytes is read again
pub number_back : (n : ℕ) (bytes : List ℕ) → n < 2 ^ 64 → bytes ≡ to_be_bytes w64 n → n ≡ from_be_bytes w64 bytes
number_back n bytes fits e = sym (ap (from_be_bytes w64) e ∙ from_be_bytes-to_be_bytes_8 n fits)
