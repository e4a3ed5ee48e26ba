-- What the head may serve next.
use Rattle.std.specs.Prelude.{◌≡◌, ℕ, true, List, Option, Some, map}
use Rattle.tape_types.specs.declared.cartridges.Place.{Place}
use Rattle.head_queue.specs.EventLaws.Waiting.{key, request_key, is_least}
use Rattle.head_queue.specs.declared.queues.Pick.{Pick}
use Rattle.head_queue.specs.declared.queues.Pick.TheVariants.{Op, Request}
use Rattle.head_queue.specs.Waiting.{Waiting, request}
use Rattle.head_queue.specs.Orders.{IsIn}
use Rattle.head_queue.specs.Keys.{keys_at}

-- a request of these waits under the number, and has the least key of all that waits
pub record IsPicked (head : Place) (op : Option Place) (waiting : List Waiting) (node owner : ℕ) (place : Place)
    : Type 0 where
  pub arrival : ℕ
  pub waits : IsIn waiting (record { node = node; owner = owner; place = place; arrival = arrival })
  pub least : is_least (request_key head (record { ticket = owner; place = place; arrival = arrival }))
      (keys_at head op (map request waiting)) ≡ true

-- the op waits, and has the least key of all that waits
pub record IsOpPicked (head : Place) (op : Option Place) (waiting : List Waiting) : Type 0 where
  pub at : Place
  pub waits : op ≡ Some at
  pub least : is_least (key head at 0) (keys_at head op (map request waiting)) ≡ true

abbrev pub IsPick : Place → Option Place → List Waiting → Pick → Type 0
IsPick head op waiting Op = IsOpPicked head op waiting
IsPick head op waiting (Request node owner place) = IsPicked head op waiting node owner place
