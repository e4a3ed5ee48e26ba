-- How a session makes its calls one after the other.
use Rattle.std.specs.Prelude.{◌≡◌, ℕ}
use Rattle.tape_desk.specs.Passes.{DeskView, HasCount}

-- the pass of a session on its way, for which the script has so many calls
pub record IsUnderWay {D K : Type 0} (old new : DeskView D K) (count : ℕ) : Type 0 where
  pub lock : new.lock ≡ old.lock
  pub sessions : new.sessions ≡ old.sessions
  pub who : new.who ≡ old.who
  pub fixed : new.fixed ≡ old.fixed
  pub counted : HasCount new count
