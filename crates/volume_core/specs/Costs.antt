-- What the events of a log have cost.
use Rattle.std.specs.Prelude.{ℕ, suc, ◌≡◌, ◌+◌, ◌-◌, ◌≤◌, Bool, true, false, cond, List, [], ◌∷◌, ◌++◌, drop, fold}
use Rattle.std.specs.Prelude.{length}
use Rattle.tape_types.specs.declared.cartridges.Part.{Part}
use Rattle.tape_types.specs.declared.cartridges.Place.{Place}
use Rattle.session_script.specs.declared.logs.Event.{Event}
use Rattle.session_script.specs.declared.logs.Event.TheVariants.{Queues, Syncs}
use Rattle.head_queue.specs.EventLaws.Trail.{after_all, steps, travel}
use Rattle.head_queue.specs.EventLaws.Waiting.{Op, State, as_number, same_part, with_flushes}
use Rattle.promises.specs.ServingPromise.Ends.{bounded}
use Rattle.volume_core.specs.declared.costs.Walk.{Walk}

-- so many steps of the head, and so many positions of travel
pub record AreCosts (events : List Event) (step_count travel_sum : ℕ) : Type 0 where
  pub steps_are : step_count ≡ bounded (steps events)
  pub travel_is : travel_sum ≡ bounded (travel events)

-- ---- positions

-- the position at which the head stands, or past which
abbrev pub stand : ℕ → Bool → ℕ
stand pos past = pos + as_number past

-- how many positions lie between two
abbrev pub apart : ℕ → ℕ → ℕ
apart from to = (to - from) + (from - to)

-- ---- ops

abbrev pub is_queued : Event → Bool
is_queued (Queues place) = true
is_queued _ = false

-- how many events there are up to the first op that is queued, with that, or all of them
abbrev pub to_op : List Event → ℕ
to_op [] = 0
to_op (e ∷ later) = suc (cond (is_queued e) 0 (to_op later))

-- a sync comes before another op of this partition
abbrev pub is_last : Part → List Event → Bool
is_last part [] = false
is_last part (Queues place ∷ later) = cond (same_part place.part part) false (is_last part later)
is_last part (Syncs ticket ∷ later) = true
is_last part (_ ∷ later) = is_last part later

-- the ops that stand: those that a sync has ended, and a group
pub record Standing : Type 0 where
  pub ended : List Op
  pub group : List Place

abbrev pub standing_of : State → Standing
standing_of st = record { ended = st.ended; group = st.group }

abbrev pub with_event : Standing → Event → Standing
with_event s (Queues place) = record s { group = s.group ++ place ∷ [] }
with_event s (Syncs ticket) = record { ended = s.ended ++ with_flushes s.group; group = [] }
with_event s _ = s

-- what these events queue
abbrev pub queued_by : List Event → Standing
queued_by events = fold with_event (record { ended = []; group = [] }) events

-- ---- a walk

-- What a walk tells of the events so far: those behind the last op that was done queue the ops that stand.
pub record IsWalked (events : List Event) (w : Walk) : Type 0 where
  pub within : w.first ≤ length events
  pub ops : queued_by (drop w.first events) ≡ standing_of (after_all events)
  pub head : (after_all events).head.pos ≡ stand w.pos w.past
  pub costs : AreCosts events w.steps w.travel

-- a step to a position costs so much
pub record Goes (to : ℕ) (past : Bool) (old new : Walk) : Type 0 where
  pub first : new.first ≡ old.first
  pub pos : new.pos ≡ to
  pub past_is : new.past ≡ past
  pub steps_are : new.steps ≡ bounded (old.steps + 1)
  pub travel_is : new.travel ≡ bounded (old.travel + bounded (apart (stand old.pos old.past) to))
