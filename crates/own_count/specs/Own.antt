-- A thing that counts each of its own commands as one, over something inside that has a count of its own. `past` has
-- what it stood over before each command so far, the newest first. `commands`, `leaves` and `since` say of the inner
-- thing what its number is, what a crash may leave of it, and what one may have left since a number of its own.
use Rattle.std.specs.Prelude.{ℕ, ◌-◌, ◌^◌, ◌≤◌, ◌<◌, ◌⊎◌, min, nat_le, if◌then◌else◌, List, [], ◌∷◌, length}

-- how many commands of its own it has had; the number stands still at its end
abbrev pub own : {D : Type 0} → List D → ℕ
own past = min (length past) (2 ^ 64 - 1)

-- the number that the inner count had reached when so many own commands had passed; the present one, if they haven't
abbrev pub reached : {D : Type 0} → (D → ℕ) → List D → D → ℕ → ℕ
reached commands [] now t = commands now
reached commands (m ∷ ms) now t = if nat_le t (length ms) then reached commands ms m t else commands now

-- What a crash may have left, by the inner word of this moment alone: now, or since the inner number that belongs to t
-- or to a later own number. Once the inner count stands at its end, it tells moments apart no more.
abbrev pub LeftHere : {D X : Type 0} → (D → ℕ) → (D → X → Type 0) → (D → ℕ → X → Type 0) → List D → D → ℕ → X → Type 0
LeftHere commands leaves since past now t image = leaves now image
    ⊎ ((commands now < 2 ^ 64 - 1) × (j : ℕ) × (t ≤ j) × since now (reached commands past now j) image)

-- What a crash may have left since the own number t: by the word of this moment, or of an earlier one since then.
abbrev pub LeftSince : {D X : Type 0} → (D → ℕ) → (D → X → Type 0) → (D → ℕ → X → Type 0) → List D → D → ℕ → X → Type 0
LeftSince commands leaves since [] now t image = LeftHere commands leaves since [] now t image
LeftSince commands leaves since (m ∷ ms) now t image = LeftHere commands leaves since (m ∷ ms) now t image
    ⊎ ((t ≤ length ms) × LeftSince commands leaves since ms m t image)

-- no inner number that belongs to an own one is past the present one
abbrev pub AreReached : {D : Type 0} → (D → ℕ) → List D → D → Type 0
AreReached commands past now = (j : ℕ) → reached commands past now j ≤ commands now

-- Any run of inner commands, also none, and a step that may be left of them to a crash. Of what may be left within them
-- nothing is said once the inner count stands at its end.
pub record Runs {D X : Type 0} (commands : D → ℕ) (leaves : D → X → Type 0) (left_since : D → ℕ → X → Type 0)
    (step : X → X → Type 0) (old new : D) : Type 0 where
  pub later : commands old ≤ commands new
  pub now : (image : X) → leaves new image → (before : X) × leaves old before × step before image
  pub since : (t : ℕ) (image : X) → commands new < 2 ^ 64 - 1 → t ≤ commands old → left_since new t image
      → left_since old t image ⊎ ((before : X) × leaves old before × step before image)
