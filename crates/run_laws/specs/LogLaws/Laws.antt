-- That each call of a served volume keeps what its log tells.
use Rattle.std.specs.Prelude.{ℕ, ◌≡◌, ◌+◌, ◌-◌, ◌^◌, ◌<◌, ◌≤◌, min, List, [], ◌∷◌, filter_map, Option}
use Rattle.tape_types.specs.declared.moments.Moment.{Moment}
use Rattle.plain_tree.specs.declared.calls.Placed.{Placed}
use Rattle.session_script.specs.declared.logs.Ack.{Ack}
use Rattle.session_script.specs.declared.logs.Event.{Event}
use Rattle.head_queue.specs.EventLaws.Rows.{one_sync, two_faults}
use Rattle.head_queue.specs.EventLaws.Trail.{fault_of, steps}
use Rattle.head_queue.specs.EventLaws.Waiting.{State, first_of, ops, start}
use Rattle.promises.specs.ServingPromise.Crash.{Meaning}
use Rattle.promises.specs.ServingPromise.Ends.{begun}
use Rattle.promises.specs.ServingPromise.Marks.{draining, phase, waits}
use Rattle.promises.specs.ServingPromise.Served.{Fixed, IsServed, View}
use Rattle.promises.specs.ServingPromise.Steps.{DrainsOnce, Turns}
use Rattle.promises.specs.ServingPromise.Submits.{CanSubmit, Submits}
use Rattle.promises.specs.declared.serving_promise.answers.Drained.{Drained}
use Rattle.promises.specs.declared.serving_promise.answers.Submitted.{Submitted}
use Rattle.promises.specs.declared.serving_promise.answers.Turn.{Turn}
use Rattle.tape_drive.specs.declared.drive.Drive.{Ghosts}
use Rattle.promises.specs.OrderLaws.Kept.{seen}
use Rattle.run_laws.specs.LogLaws.Acts.{HasGone, IsActOf, IsGone, IsServedThen, Moves, StandsBehind, commands_in, numbered}
use Rattle.run_laws.specs.LogLaws.Logged.{IsLogged}

-- It is so at the start, and stays so over each call: what is promised of the volume is so before and after the call.
pub record LogsGoOn {D : Type 0} (drive : Ghosts D) (m : Meaning) : Type 0 where
  pub begins : (fixed : Fixed D) (next : Option Moment) → IsLogged m (seen drive fixed.first) (begun fixed next)
  pub submitted : (old new : View D) (who nth : ℕ) (answer : Submitted)
      → IsServed m (seen drive old.fixed.first) (seen drive old.drive) old
      → IsServed m (seen drive new.fixed.first) (seen drive new.drive) new → CanSubmit old who nth
      → Submits (seen drive old.fixed.first) (seen drive new.drive) old new who nth answer
      → IsLogged m (seen drive old.fixed.first) old → IsLogged m (seen drive new.fixed.first) new
  pub turned : (old new : View D) (who ticket : ℕ) (answer : Turn)
      → IsServed m (seen drive old.fixed.first) (seen drive old.drive) old
      → IsServed m (seen drive new.fixed.first) (seen drive new.drive) new → phase who old.marks ≡ waits ticket
      → Turns drive.MOST (seen drive old.drive) (seen drive new.drive) old new who ticket answer
      → IsLogged m (seen drive old.fixed.first) old → IsLogged m (seen drive new.fixed.first) new
  pub drained : (old new : View D) (who : ℕ) (answer : Drained)
      → IsServed m (seen drive old.fixed.first) (seen drive old.drive) old
      → IsServed m (seen drive new.fixed.first) (seen drive new.drive) new → phase who old.marks ≡ draining
      → DrainsOnce drive.MOST (seen drive old.drive) (seen drive new.drive) old new who answer
      → IsLogged m (seen drive old.fixed.first) old → IsLogged m (seen drive new.fixed.first) new
  pub gone_begins : (fixed : Fixed D) (next : Option Moment)
      → IsServed m (seen drive fixed.first) (seen drive fixed.first) (begun fixed next)
      → IsGone drive m (begun fixed next)
  pub submission_moves : (old new : View D) (who nth : ℕ) (answer : Submitted)
      → Submits (seen drive old.fixed.first) (seen drive new.drive) old new who nth answer → Moves drive old new
  pub moved : (old new : View D) → IsServed m (seen drive new.fixed.first) (seen drive new.drive) new
      → Moves drive old new → IsGone drive m old → IsGone drive m new
  pub gone_holds : (v : View D) → IsGone drive m v → IsServedThen drive m v.fixed v.history v.acks v.drive

-- Once an item was put, the head stands one behind its place; once a place was read, it stands there or one behind it.
abbrev pub HeadsFollowActs : {D : Type 0} → Ghosts D → Type 0
HeadsFollowActs {D} drive = (st : State) (old new : D) (e : Event) → IsActOf drive st old new e
    → StandsBehind e (first_of (ops st)) (drive.head new)

-- Where each command counts one, no step failed and the count doesn't stand at its end, a trail has one list of acks:
-- each has the number of the last command that its sync waited for.
abbrev pub AcksAreExact : {D : Type 0} → Ghosts D → Type 0
AcksAreExact {D} drive = (first last : D) (history : List Placed) (trail : List Event) (acks : List Ack)
    → HasGone drive (λ history acks d. Unit {0}) first history trail acks last → drive.MOST ≡ 1
    → filter_map fault_of trail ≡ [] → drive.commands last < 2 ^ 64 - 1
    → (acks ≡ numbered start (drive.commands first) trail)
    × (drive.commands last ≡ drive.commands first + commands_in start trail)

-- Each step has taken a command at least, unless the count stands at its end.
abbrev pub StepsTakeCommands : {D : Type 0} → Ghosts D → Type 0
StepsTakeCommands {D} drive = (first last : D) (history : List Placed) (trail : List Event) (acks : List Ack)
    → HasGone drive (λ history acks d. Unit {0}) first history trail acks last
    → min (drive.commands first + steps trail) (2 ^ 64 - 1) ≤ drive.commands last

-- one acknowledgement
abbrev pub ack : ℕ → ℕ → List Ack
ack place command = record { place = place; command = command } ∷ []

-- a way along a trail of which a command counts one, and the count is low
pub record IsLowWay {D : Type 0} (drive : Ghosts D) (first : D) (trail : List Event) (acks : List Ack) (last : D)
    : Type 0 where
  pub one : drive.MOST ≡ 1
  pub low : drive.commands last < 2 ^ 64 - 1
  pub history : List Placed
  pub gone : HasGone drive (λ history acks d. Unit {0}) first history trail acks last

-- Of a run with one sync, a way has the acknowledgement at the ninth command, and no other; and it has eleven commands. A
-- drive that failed in one command isn't told of two faults.
pub record WrongWaysAreNone {D : Type 0} (drive : Ghosts D) : Type 0 where
  pub acknowledged : (first last : D) (command : ℕ) → IsLowWay drive first one_sync (ack 2 command) last
      → command ≡ drive.commands first + 9
  pub late_isnt : (first last : D) → ¬ IsLowWay drive first one_sync (ack 2 (drive.commands first + 10)) last
  pub early_isnt : (first last : D) → ¬ IsLowWay drive first one_sync (ack 2 (drive.commands first + 8)) last
  pub missing_isnt : (first last : D) → ¬ IsLowWay drive first one_sync [] last
  pub retried_isnt : (first last : D) (acks : List Ack) → IsLowWay drive first one_sync acks last
      → ¬ (drive.commands last ≡ drive.commands first + 12)
  pub told_twice_isnt : (first last : D) (acks : List Ack) → IsLowWay drive first two_faults acks last
      → ¬ (drive.commands last ≡ drive.commands first + 3)
