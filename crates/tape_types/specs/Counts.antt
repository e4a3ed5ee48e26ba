-- Counts that only rise, and stand still at 2^64 - 1.
use Rattle.std.specs.Prelude.{ℕ, ◌+◌, ◌-◌, ◌^◌, ◌≤◌, min, Result, OnErr}

-- a count went up, or stands at its end
abbrev pub Rose : ℕ → ℕ → Type 0
Rose before now = min (before + 1) (2 ^ 64 - 1) ≤ now

-- the count never falls, and a failure is answered only where it rose
pub record HasCause {T E : Type 0} (before now : ℕ) (result : Result T E) : Type 0 where
  pub later : before ≤ now
  pub failed : OnErr result (Rose before now)

-- two values of a count that rose, within the time in which it went from `before` to `now`
pub record IsRise (before now from to : ℕ) : Type 0 where
  pub lowest : before ≤ from
  pub rose : Rose from to
  pub highest : to ≤ now
