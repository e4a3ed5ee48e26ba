-- How the drain of a session ends, and what that needs.
use Rattle.std.specs.Prelude.{ℕ, ◌≡◌, ◌≤◌, ◌<◌, ◌==◌, ◌^◌, true, [], count_by, length}
use Rattle.tape_types.specs.declared.moments.Moment.{Moment}
use Rattle.plain_tree.specs.declared.calls.Placed.{Placed}
use Rattle.session_script.specs.declared.logs.Event.TheVariants as events
use Rattle.head_queue.specs.EventLaws.Trail.{allows}
use Rattle.promises.specs.ServingPromise.Faults.{kept_for}
use Rattle.promises.specs.ServingPromise.Marks.{draining, phase, places_of}
use Rattle.promises.specs.declared.serving_promise.answers.Drained.{Drained}
use Rattle.promises.specs.declared.serving_promise.answers.Drained.TheVariants as the_drained
use Rattle.event_journal.specs.Placements.{Listed}
use Rattle.event_journal.specs.Trails.{state}
use Rattle.volume_state.specs.StateLaws.Parts.{Parts}
use Rattle.volume_state.specs.CallLaws.Draining.{RestsNow, TakesFault}
use Rattle.volume_core.specs.Turns.{Gives, Told}

-- a session of the script drains, and its write can be placed
pub record CanFault (who : ℕ) (listed : Listed) : Type 0 where
  pub drains : phase who listed.marks ≡ draining
  pub low : 1 ≤ who
  pub high : who ≤ listed.sessions
  pub room : length listed.history < listed.calls

-- So many of its calls were placed as its marks say, which 32 bits count. One fault is kept for it at most, and where
-- there is none it may rest once few ops stand.
pub record CanEnd {D : Type 0} (who : ℕ) (p : Parts D) : Type 0 where
  pub place : CanFault who p.listed
  pub count : count_by (λ (q : Placed). q.who == who) p.listed.history ≡ length (places_of who p.listed.marks)
  pub few : length (places_of who p.listed.marks) < 2 ^ 32
  pub one : length (kept_for who p.trail.kept) ≤ 1
  pub rests : kept_for who p.trail.kept ≡ [] → length p.stock.layout.ops ≤ 64
      → allows (state p.trail) (events.Rests who) ≡ true

-- How a drain ends without a step. The clock is asked where the session is told of its fault alone.
abbrev pub EndsAt : {D : Type 0} (who : ℕ) (before after : Told) (old new : Parts D) → Drained → Type 0
EndsAt who before after old new (the_drained.Fault counts) = (at : Moment) × Gives before after at
    × TakesFault who (length (places_of who old.listed.marks)) at counts old new
EndsAt who before after old new the_drained.Room = (after ≡ before) × RestsNow who old new
EndsAt who before after old new the_drained.More = ⊥
