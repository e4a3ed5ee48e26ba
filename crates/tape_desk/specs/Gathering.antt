-- How the passes of a desk are gathered when it is closed.
use Rattle.std.specs.Prelude.{ℕ, ◌≡◌, ◌≤◌, ◌<◌, ◌+◌, false, List, [], ◌∷◌, ◌++◌, Contains, length, slice_index_or}
use Rattle.atomic_table.specs.Seated.{TableId}
use Rattle.turn_lock.specs.Passes.{PassView}
use Rattle.promises.specs.ServingPromise.Marks.{kinds_of}
use Rattle.promises.specs.declared.serving_promise.marks.Mark.{Mark}
use Rattle.tape_desk.specs.Held.{Constants}
use Rattle.tape_desk.specs.Passes.{DeskView, IsRested, view_of}

-- the lock's pass that a session's pass has
pub record IsPassOf {D K : Type 0} (p : DeskView D K) (pass : PassView Mark (Constants D K)) : Type 0 where
  pub view : p ≡ view_of pass p.who p.placed
  pub out : pass.in_turn ≡ false
  pub own : pass.numbers ≡ p.who ∷ []
  pub rested : IsRested p

-- A session's pass is part of the whole: that has its number, and has seen all that it had seen and no other mark of
-- the session.
pub record IsWithin {D K : Type 0} (p : DeskView D K) (whole : PassView Mark (Constants D K)) : Type 0 where
  pub rested : IsRested p
  pub fixed : p.fixed ≡ whole.fixed
  pub number : Contains whole.numbers p.who
  pub begins : (more : List Mark) × (p.seen ++ more ≡ whole.seen)
  pub own : kinds_of p.who whole.seen ≡ kinds_of p.who p.seen

-- a session's pass is taken in
pub record TakesIn {D K : Type 0} (p : DeskView D K) (old new : PassView Mark (Constants D K)) : Type 0 where
  pub lock : new.lock ≡ old.lock
  pub seats : new.seats ≡ old.seats
  pub out : new.in_turn ≡ false
  pub one_more : length new.numbers ≡ length old.numbers + 1
  pub taken : IsWithin p new
  pub keeps : (q : DeskView D K) → IsWithin q old → IsWithin q new

-- all passes are taken in but the first n
pub record HasGathered {D K : Type 0} (lock : TableId) (ps : List (DeskView D K)) (n : ℕ)
    (whole : PassView Mark (Constants D K)) : Type 0 where
  pub lock_is : whole.lock ≡ lock
  pub seats : whole.seats ≡ length ps
  pub out : whole.in_turn ≡ false
  pub many : length whole.numbers + n ≡ length ps
  pub each : (k : ℕ) (p : DeskView D K) → n ≤ k → k < length ps → IsWithin (slice_index_or ps k p) whole
