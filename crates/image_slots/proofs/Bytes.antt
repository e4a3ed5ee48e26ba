-- What stays in a list of which a range was written, and what stands in that range.
use Rattle.std.proofs.Common.{ℕ, ◌+◌, ◌-◌, ◌≤◌, ◌<◌, ◌≡◌, ◌⊎◌, ⊎_elim, inl, inr, List, [], ◌∷◌, ◌++◌, take, drop, length, get_or, refl, sym, ◌∙◌, ap, arith}
use Rattle.std.proofs.lemmas.List.{append_assoc, length-take, length-drop, length-take-le, get_or-take, get_or-drop, ext_get_or, drop_at, take_at}
use Rattle.byte_disk.specs.Files.{IsAnyIn, bytes_at, written}
use Rattle.byte_disk.proofs.Written.{length_written, written_below, written_inside, written_above}
use Rattle.image_slots.specs.Pieces.{IsTouched}

-- any bytes in a range leave what is outside of it
pub any_touched : {at n : ℕ} {old new : List ℕ} → IsAnyIn at n old new → IsTouched at n old new
any_touched any = record { outside = any.outside; no_shorter = any.no_shorter; no_longer = any.no_longer }

module _ (at : ℕ) (bytes old : List ℕ) (within : at ≤ length old) where
  -- bytes written in a range leave what is outside of it
  pub written_touched : IsTouched at (length bytes) old (written at bytes old)
  written_touched = record {
    outside = λ i lt out. ⊎_elim
        (λ (less : i < at). written_below at bytes old within i 0 less)
        (λ (more : at + length bytes ≤ i). written_above at bytes old within i 0 more)
        out;
    no_shorter = omega (arith, length_written at bytes old within);
    no_longer = omega (arith, length_written at bytes old within);
  }

  -- the bytes stand where they were written
  pub written_run : bytes_at at (length bytes) (written at bytes old) ≡ bytes
  written_run =
      let rest : List ℕ = drop (at + length bytes) old in
      ap (λ (l : List ℕ). take (length bytes) (drop at l)) (append_assoc (take at old) bytes rest)
      ∙ ap (λ (l : List ℕ). take (length bytes) l) (drop_at (take at old) (bytes ++ rest) at (length-take-le at old within))
      ∙ take_at bytes rest (length bytes) refl

-- one byte
pub written_byte : (at b : ℕ) (old : List ℕ) → at ≤ length old → get_or (written at (b ∷ []) old) at 0 ≡ b
written_byte at b old within =
    let first : at - at ≡ 0 = omega arith in
    written_inside at (b ∷ []) old within at 0 (omega arith) (omega arith) ∙ ap (λ (n : ℕ). get_or (b ∷ []) n 0) first

module _ {at n : ℕ} {old new : List ℕ} (t : IsTouched at n old new) where
  -- a header stays one
  pub touched_size : (size : ℕ) → length old ≡ size → at + n ≤ size → length new ≡ size
  touched_size size is end = omega (arith, t.no_shorter, t.no_longer, is, end)

  -- bytes outside of the range stay
  pub touched_run : (from k : ℕ) → from + k ≤ length old → (from + k ≤ at) ⊎ (at + n ≤ from)
      → bytes_at from k new ≡ bytes_at from k old
  touched_run from k within apart = ext_get_or 0 (bytes_at from k new) (bytes_at from k old)
      (omega (arith, length-take k (drop from new), length-drop from new, length-take k (drop from old), length-drop from old, within, t.no_shorter))
      (λ i lt.
      let small : i < k = omega (arith, lt, length-take k (drop from new)) in
      get_or-take k (drop from new) i 0 small ∙ get_or-drop from new i 0
      ∙ t.outside (from + i) (omega (arith, small, within)) (away i small apart)
      ∙ sym (get_or-take k (drop from old) i 0 small ∙ get_or-drop from old i 0))
    where
      away : (i : ℕ) → i < k → (from + k ≤ at) ⊎ (at + n ≤ from) → (from + i < at) ⊎ (at + n ≤ from + i)
      away i small (inl less) = inl (omega (arith, less, small))
      away i small (inr more) = inr (omega (arith, more))
