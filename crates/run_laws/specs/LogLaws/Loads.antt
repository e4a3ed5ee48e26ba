-- How much each call of a volume leaves to do, which bounds how long a session waits.
use Rattle.std.specs.Prelude.{ℕ}
use Rattle.head_queue.specs.EventLaws.Load.{load}
use Rattle.head_queue.specs.EventLaws.Trail.{after_all}
use Rattle.promises.specs.ServingPromise.Served.{View}
use Rattle.promises.specs.declared.serving_promise.answers.Drained.{Drained}
use Rattle.promises.specs.declared.serving_promise.answers.Drained.TheVariants as drained
use Rattle.promises.specs.declared.serving_promise.answers.Turn.{Turn}
use Rattle.promises.specs.declared.serving_promise.answers.Turn.TheVariants as turns

-- what is left to do: requests, ops that stand, syncs that wait and sessions that drain
abbrev pub load_of : {D : Type 0} → View D → ℕ
load_of v = load (after_all v.events)

-- how much a turn of a session that waits takes away at least: one where its reply hasn't come
abbrev pub taken_by : Turn → ℕ
taken_by (turns.Ready reply) = 0
taken_by turns.More = 1

-- and one of a session that drains
abbrev pub taken_by_drain : Drained → ℕ
taken_by_drain drained.More = 1
taken_by_drain drained.Room = 0
taken_by_drain (drained.Fault counts) = 0
