-- Moments that a clock gives.
use Rattle.std.specs.Prelude.{◌≡◌, ◌⊎◌, ℕ, zero, suc, ◌+◌, nat_le, if◌then◌else◌, ℤ, pos, negsuc, ◌+ℤ◌, ◌≤ℤ◌, ◌<ℤ◌}
use Rattle.tape_types.specs.Moments.{last_second}
use Rattle.tape_types.specs.declared.moments.Moment.{Moment}

-- a moment of the years 1970 to 9999
abbrev pub IsSince1970 : Moment → Type 0
IsSince1970 m = pos 0 ≤ℤ m.secs

-- a clock that goes on by some seconds at each call: the moment that it gives next, and the seconds
pub record StepView : Type 0 where
  pub next : Moment
  pub step : ℕ

-- seconds later by a step, or the same where that would be past the year 9999
abbrev pub later_secs : ℕ → ℤ → ℤ
later_secs step (pos s) = pos (if nat_le (s + step) 253402300799 then s + step else s)
later_secs step (negsuc s) = negsuc s

-- the seconds after so many steps
abbrev pub secs_after : ℕ → ℕ → ℤ → ℤ
secs_after zero step secs = secs
secs_after (suc n) step secs = secs_after n step (later_secs step secs)

-- what the nth call of a clock from now on gives
pub record IsGiven (c : StepView) (n : ℕ) (m : Moment) : Type 0 where
  pub secs : m.secs ≡ secs_after n c.step c.next.secs
  pub nanos : m.nanos ≡ c.next.nanos

-- Its next moment is later by the step, or the same where that would be past the year 9999.
pub record GoesOn (old new : StepView) : Type 0 where
  pub step : new.step ≡ old.step
  pub nanos : new.next.nanos ≡ old.next.nanos
  pub secs : ((old.next.secs +ℤ pos old.step) ≤ℤ last_second × (new.next.secs ≡ old.next.secs +ℤ pos old.step))
      ⊎ (last_second <ℤ (old.next.secs +ℤ pos old.step) × (new.next.secs ≡ old.next.secs))
