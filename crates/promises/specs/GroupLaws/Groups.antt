-- Which ops a sync ends: those that no sync has ended yet, by what the space of both partitions says of them.
use Rattle.std.specs.Prelude.{◌≡◌, ℕ, ◌+◌, Bool, false, List, [], ◌∷◌, map, drop, Option, Some, None}
use Rattle.std.specs.List.{list_any}
use Rattle.tape_types.specs.declared.cartridges.Part.{Part}
use Rattle.tape_types.specs.declared.cartridges.Part.TheVariants.{Ip}
use Rattle.tape_types.specs.declared.cartridges.Place.{Place}
use Rattle.session_script.specs.declared.logs.Event.{Event}
use Rattle.session_script.specs.declared.logs.Event.TheVariants as events
use Rattle.head_queue.specs.EventLaws.Waiting.{Op, Request, State, ops, same_part, same_place, waiting_op}
use Rattle.tape_layout.specs.Ops as layout
use Rattle.tape_layout.specs.declared.ops.Op as admitted
use Rattle.space_laws.specs.Space.{Space}

-- one of the places is on this partition
abbrev pub has_part : Part → List Place → Bool
has_part part places = list_any (λ (p : Place). same_part part p.part) places

-- Of the ops that no sync has ended yet: where no flush is due on the index partition, none of them is there; and where
-- nothing has changed since the last index, there are none.
pub record IsGrouped (space : Space) (st : State) : Type 0 where
  pub due : space.flush_due ≡ false → has_part Ip st.group ≡ false
  pub changed : space.changed ≡ false → st.group ≡ []

-- where ops stand that are admitted
abbrev pub places_of : List admitted.Op → List Place
places_of asked = map layout.place_of asked

-- all but the ops, and who waits for them
pub record IsAlikeElsewhere (old new : State) : Type 0 where
  pub head : new.head ≡ old.head
  pub arrived : new.arrived ≡ old.arrived
  pub requests : new.requests ≡ old.requests
  pub done : new.done ≡ old.done
  pub drains : new.drains ≡ old.drains

-- a step of the head, an answer, a request of a read, and the beginning and end of a drain: none admits an op
abbrev pub AdmitsNothing : Event → Type 0
AdmitsNothing (events.Queues place) = ⊥
AdmitsNothing (events.Syncs ticket) = ⊥
AdmitsNothing _ = Unit {0}

-- once the op that waits for the head is done, where one does
abbrev pub without_done : Option Op → List Op → List Op
without_done (Some op) standing = drop 1 standing
without_done None standing = standing

-- the ops that stand after such an event: all, but for the one that was done
abbrev pub ops_after : State → Event → List Op
ops_after st (events.Worked place None) = without_done (waiting_op st) (ops st)
ops_after st _ = ops st

-- no place stands there twice
abbrev pub AreApart : List Place → Type 0
AreApart [] = Unit {0}
AreApart (place ∷ later) = (list_any (same_place place) later ≡ false) × AreApart later

-- the requests of a read for these blocks, the first of which comes behind so many others
abbrev pub requests_for : ℕ → ℕ → List Place → List Request
requests_for ticket arrived [] = []
requests_for ticket arrived (place ∷ later) = record { ticket = ticket; place = place; arrival = arrived }
    ∷ requests_for ticket (arrived + 1) later
