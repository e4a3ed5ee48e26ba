-- A session that drains does so for a write, so that its write may be placed void.
use Rattle.std.specs.Prelude.{◌≡◌, ℕ, true, [], length}
use Rattle.promises.specs.ServingPromise.Asking.{is_write_at}
use Rattle.promises.specs.ServingPromise.Marks.{draining, phase, places_of, waits}
use Rattle.promises.specs.ServingPromise.Served.{Drive, View}
use Rattle.promises.specs.ServingPromise.Steps.{DrainsOnce, Turns}
use Rattle.promises.specs.ServingPromise.Submits.{CanSubmit, Submits, call_of}
use Rattle.promises.specs.declared.serving_promise.answers.Drained.{Drained}
use Rattle.promises.specs.declared.serving_promise.answers.Submitted.{Submitted}
use Rattle.promises.specs.declared.serving_promise.answers.Turn.{Turn}

-- the next call of each session that drains is a write
abbrev pub DrainsForWrites : {D : Type 0} → View D → Type 0
DrainsForWrites v =
    (who : ℕ) → phase who v.marks ≡ draining → is_write_at (call_of v who (length (places_of who v.marks))) ≡ true

-- it is so of a volume of which nothing was asked yet, and stays so over each call whose condition holds
pub record DrainsStayForWrites {D : Type 0} (seen : D → Drive) : Type 0 where
  pub begins : (v : View D) → v.marks ≡ [] → DrainsForWrites v
  pub submits : (first now : D) (old new : View D) (who nth : ℕ) (answer : Submitted) → CanSubmit old who nth
      → Submits (seen first) (seen now) old new who nth answer → DrainsForWrites old → DrainsForWrites new
  pub turns : (most : ℕ) (before now : D) (old new : View D) (who ticket : ℕ) (answer : Turn)
      → phase who old.marks ≡ waits ticket → Turns most (seen before) (seen now) old new who ticket answer
      → DrainsForWrites old → DrainsForWrites new
  pub drains : (most : ℕ) (before now : D) (old new : View D) (who : ℕ) (answer : Drained)
      → phase who old.marks ≡ draining → DrainsOnce most (seen before) (seen now) old new who answer
      → DrainsForWrites old → DrainsForWrites new
