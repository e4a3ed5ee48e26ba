-- What a command more does to the numbers that were reached.
use Rattle.std.proofs.Common.{◌≡◌, ℕ, ◌≤◌, Bool, true, false, nat_le, List, [], ◌∷◌, length, refl, arith}
use Rattle.std.specs.Prelude.{if◌then◌else◌}
use Rattle.std.proofs.lemmas.Bool.{leb-true, leb-false}
use Rattle.own_count.specs.Own.{reached, AreReached}
use Rattle.own_count.specs.Laws.{reached_now}

module _ {D : Type 0} (commands : D → ℕ) where
  if_early : (b : Bool) (t n x y : ℕ) → nat_le t n ≡ b → t ≤ n → (if b then x else y) ≡ x
  if_early true t n x y is early = refl
  if_early false t n x y is early = absurd (omega (arith, leb-false t n is, early))

  -- a command more changes none that was reached
  pub reached_still : (past : List D) (old new : D) (t : ℕ) → t ≤ length past → reached commands (old ∷ past) new t ≡ reached commands past old t
  reached_still past old new t le = if_early (nat_le t (length past)) t (length past) (reached commands past old t) (commands new) refl le

  -- once this moment is past
  pub reached_on : (past : List D) (old new : D) → commands old ≤ commands new → AreReached commands past old → AreReached commands (old ∷ past) new
  reached_on past old new later are j = by (nat_le j (length past)) refl where
    by : (b : Bool) → nat_le j (length past) ≡ b → reached commands (old ∷ past) new j ≤ commands new
    by true is = omega (arith, reached_still past old new j (leb-true j (length past) is), are j, later)
    by false is = omega (arith, reached_now commands (old ∷ past) new j (omega (arith, leb-false j (length past) is)))

  -- while it isn't
  pub reached_over : (past : List D) (old new : D) → commands old ≤ commands new → AreReached commands past old → AreReached commands past new
  reached_over [] old new later are j = omega arith
  reached_over (m ∷ ms) old new later are j = by (nat_le j (length ms)) refl where
    by : (b : Bool) → nat_le j (length ms) ≡ b → reached commands (m ∷ ms) new j ≤ commands new
    by true is =
        let le = leb-true j (length ms) is in omega (arith, reached_still ms m new j le, reached_still ms m old j le, are j, later)
    by false is = omega (arith, reached_now commands (m ∷ ms) new j (omega (arith, leb-false j (length ms) is)))
