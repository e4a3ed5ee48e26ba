-- The laws of a count of own commands. They hold of every value, also of one that no commands lead to.
use Rattle.std.proofs.Common.{◌≡◌, ℕ, ◌-◌, ◌^◌, ◌<◌, ◌≤◌, Bool, true, false, nat_le, List, [], ◌∷◌, length}
use Rattle.std.proofs.Common.{inl, inr, refl, subst, arith}
use Rattle.std.specs.Prelude.{if◌then◌else◌}
use Rattle.std.proofs.lemmas.Bool.{leb-true}
use Rattle.own_count.specs.Own.{own, reached, LeftHere, LeftSince}

module _ {D : Type 0} (commands : D → ℕ) where
  if_late : (b : Bool) (t n x y : ℕ) → nat_le t n ≡ b → n < t → (if b then x else y) ≡ y
  if_late true t n x y is late = absurd (omega (arith, leb-true t n is, late))
  if_late false t n x y is late = refl

  -- a number that was not reached is the present one
  pub reached_now : (past : List D) (now : D) (t : ℕ) → length past ≤ t → reached commands past now t ≡ commands now
  reached_now [] now t le = refl
  reached_now (m ∷ ms) now t le =
      if_late (nat_le t (length ms)) t (length ms) (reached commands ms m t) (commands now) refl (omega (arith, le))

  module _ {X : Type 0} (leaves : D → X → Type 0) (since : D → ℕ → X → Type 0) where
    -- by the word of this moment
    pub here : (past : List D) (now : D) (t : ℕ) (image : X) → LeftHere commands leaves since past now t image
        → LeftSince commands leaves since past now t image
    here [] now t image h = h
    here (m ∷ ms) now t image h = inl h

    pub counts_now : (past : List D) (now : D) (t : ℕ) (image : X) → leaves now image
        → LeftSince commands leaves since past now t image
    counts_now past now t image h = here past now t image (inl h)

    -- what the inner word tells since the number that belongs to an own one
    pub told_since : (past : List D) (now : D) (t : ℕ) (image : X) → commands now < 2 ^ 64 - 1
        → since now (reached commands past now t) image → LeftSince commands leaves since past now t image
    told_since past now t image short h = here past now t image (inr (short, t, omega arith, h))

    lower_here : (past : List D) (now : D) (t u : ℕ) (image : X) → t ≤ u
        → LeftHere commands leaves since past now u image
        → LeftHere commands leaves since past now t image
    lower_here past now t u image le (inl h) = inl h
    lower_here past now t u image le (inr (short, j, at, h)) = inr (short, j, omega (arith, le, at), h)

    pub lower : (past : List D) (now : D) (t u : ℕ) (image : X) → t ≤ u
        → LeftSince commands leaves since past now u image
        → LeftSince commands leaves since past now t image
    lower [] now t u image le h = lower_here [] now t u image le h
    lower (m ∷ ms) now t u image le (inl h) = inl (lower_here (m ∷ ms) now t u image le h)
    lower (m ∷ ms) now t u image le (inr (early, h)) = inr (omega (arith, le, early), lower ms m t u image le h)

    only_here : (past : List D) (now : D) (t : ℕ) (image : X) → length past ≤ t
        → (commands now < 2 ^ 64 - 1 → since now (commands now) image → leaves now image)
        → LeftHere commands leaves since past now t image → leaves now image
    only_here past now t image late only (inl h) = h
    only_here past now t image late only (inr (short, j, at, h)) =
        only short (subst (λ (n : ℕ). since now n image) (reached_now past now j (omega (arith, late, at))) h)

    own_least : (past : List D) → own past < 2 ^ 64 - 1 → length past ≤ own past
    own_least past short = omega (arith, short)

    pub only_now : (past : List D) (now : D) (image : X) → own past < 2 ^ 64 - 1
        → (commands now < 2 ^ 64 - 1 → since now (commands now) image → leaves now image)
        → LeftSince commands leaves since past now (own past) image → leaves now image
    only_now [] now image short only h = only_here [] now (own {D = D} []) image (own_least [] short) only h
    only_now (m ∷ ms) now image short only (inl h) =
        only_here (m ∷ ms) now (own (m ∷ ms)) image (own_least (m ∷ ms) short) only h
    only_now (m ∷ ms) now image short only (inr (early, h)) = absurd (omega (arith, short, early))
