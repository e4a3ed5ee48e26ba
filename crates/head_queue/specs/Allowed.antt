-- What is picked is what a trail lets come next.
use Rattle.std.specs.Prelude.{◌≡◌, ℕ, true, List, Option, map}
use Rattle.std.specs.Option.{option_map}
use Rattle.tape_types.specs.declared.cartridges.Place.{Place}
use Rattle.tape_types.specs.declared.cartridges.Twin.{Twin}
use Rattle.session_script.specs.declared.logs.Event.TheVariants.{Served, Worked}
use Rattle.head_queue.specs.EventLaws.Waiting.{State, Op, waiting_op}
use Rattle.head_queue.specs.EventLaws.Trail.{fits}
use Rattle.head_queue.specs.Waiting.{Waiting, request}
use Rattle.head_queue.specs.Picks.{IsPicked, IsOpPicked}

-- where the op stands that waits
abbrev pub op_place : State → Option Place
op_place st = option_map (λ (op : Op). op.place) (waiting_op st)

-- where what waits in a queue are the requests of a trail, a request that is picked may be served next, and an op that
-- is picked may be done next, however the step ends
pub record PicksMayCome : Type 0 where
  pub served : (st : State) (waiting : List Waiting) (node owner : ℕ) (place : Place) (fault : Option Twin)
      → map request waiting ≡ st.requests → IsPicked st.head (op_place st) waiting node owner place
      → fits st (Served owner place fault) ≡ true
  pub worked : (st : State) (waiting : List Waiting) (fault : Option Twin) → map request waiting ≡ st.requests
      → (p : IsOpPicked st.head (op_place st) waiting) → fits st (Worked p.at fault) ≡ true
