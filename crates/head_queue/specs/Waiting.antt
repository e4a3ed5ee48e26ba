-- A request that waits for the head.
use Rattle.std.specs.Prelude.{ℕ}
use Rattle.tape_types.specs.declared.cartridges.Place.{Place}
use Rattle.head_queue.specs.EventLaws.Waiting.{Request}

-- its number in the queue, whose it is, where its block stands, and how many requests came before it
pub record Waiting : Type 0 where
  pub node : ℕ
  pub owner : ℕ
  pub place : Place
  pub arrival : ℕ

-- as a trail has it: whoever owns it is the ticket of a read
abbrev pub request : Waiting → Request
request w = record { ticket = w.owner; place = w.place; arrival = w.arrival }
