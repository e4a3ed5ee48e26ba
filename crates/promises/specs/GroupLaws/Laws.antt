-- What each call and each event makes of the ops that no sync has ended yet.
use Rattle.std.specs.Prelude.{◌≡◌, ℕ, ◌+◌, ◌==◌, Bool, true, false, List, [], ◌∷◌, ◌++◌, length, map, fold}
use Rattle.std.specs.List.{All, filter, list_any}
use Rattle.tape_types.specs.declared.cartridges.Place.{Place}
use Rattle.session_script.specs.declared.logs.Event.{Event}
use Rattle.session_script.specs.declared.logs.Event.TheVariants as events
use Rattle.extent_map.specs.Replies.{places_in}
use Rattle.extent_map.specs.declared.pieces.Piece.{Piece}
use Rattle.head_queue.specs.EventLaws.Trail.{after, is_trail_from, puts_at}
use Rattle.head_queue.specs.EventLaws.Waiting.{Op, State, is_due, ops, start}
use Rattle.space_laws.specs.Mount.{MountFacts}
use Rattle.space_laws.specs.Space as space
use Rattle.space_laws.specs.Space.{Ask, Rules, Space, change, first_space, index, nothing, ops_of, store}
use Rattle.promises.specs.ServingPromise.Served.{headed}
use Rattle.promises.specs.ServingPromise.Submits.{queues_at}
use Rattle.promises.specs.GroupLaws.Groups.{AdmitsNothing, AreApart, IsAlikeElsewhere, IsGrouped, ops_after, places_of}
use Rattle.promises.specs.GroupLaws.Groups.{requests_for}

-- it is so of a volume of which nothing was asked yet
abbrev pub GroupsBegin : Type 0
GroupsBegin = (m : MountFacts) → IsGrouped (first_space m) start

-- ---- a sync

-- the state once a sync's ops are queued and it has ended them
abbrev pub synced : ℕ → List Place → State → State
synced here places st = fold after st (queues_at places ++ events.Syncs here ∷ [])

-- A sync has queued these ops and ended all that no other had: the ops that stand are those before and these, and it
-- waits for all of them.
pub record IsEnded (here : ℕ) (asked : List Op) (old new : State) : Type 0 where
  pub standing : ops new ≡ ops old ++ asked
  pub none_left : new.group ≡ []
  pub syncs : new.syncs ≡ old.syncs ++ record { ticket = here; due = old.done + length (ops new) } ∷ []
  pub alike : IsAlikeElsewhere old new

-- the index of a sync
pub record SyncsEndTheirOps : Type 0 where
  pub ended : (v : Rules) (on : Bool) (s : Space) (st : State) (here : ℕ) (text : List ℕ) → IsGrouped s st
      → IsEnded here (map headed (ops_of v on s (index text))) st
      (synced here (places_of (ops_of v on s (index text))) st)
  pub grouped : (v : Rules) (on : Bool) (s : Space) (st : State) (here : ℕ) (text : List ℕ) → IsGrouped s st
      → IsGrouped (space.after v on s (index text)) (synced here (places_of (ops_of v on s (index text))) st)

-- a sync where nothing has changed since the last index
pub record SyncsOfNothingEndNone : Type 0 where
  pub ended : (s : Space) (st : State) (here : ℕ) → IsGrouped s st → s.changed ≡ false
      → IsEnded here [] st (after st (events.Syncs here))
  pub standing : (s : Space) (st : State) (here : ℕ) → IsGrouped s st → s.changed ≡ false
      → ops (after st (events.Syncs here)) ≡ ops st
  pub grouped : (s : Space) (st : State) (here : ℕ) → IsGrouped s st → s.changed ≡ false
      → IsGrouped s (after st (events.Syncs here))

-- ---- bytes of a file

-- these ops are queued, and no sync has ended them
pub record IsQueued (asked : List Op) (old new : State) : Type 0 where
  pub standing : ops new ≡ ops old ++ asked
  pub ended : new.ended ≡ old.ended
  pub syncs : new.syncs ≡ old.syncs
  pub alike : IsAlikeElsewhere old new

abbrev pub queued : List Place → State → State
queued places st = fold after st (queues_at places)

pub record WritesQueueTheirOps : Type 0 where
  pub queued_are : (v : Rules) (on : Bool) (s : Space) (st : State) (wanted : Bool) (bytes : List ℕ)
      → IsQueued (map headed (ops_of v on s (store wanted bytes))) st
      (queued (places_of (ops_of v on s (store wanted bytes))) st)
  pub grouped : (v : Rules) (on : Bool) (s : Space) (st : State) (wanted : Bool) (bytes : List ℕ) → IsGrouped s st
      → IsGrouped (space.after v on s (store wanted bytes)) (queued (places_of (ops_of v on s (store wanted bytes))) st)

-- ---- all else

-- what asks nothing of the tape, and each event that admits nothing
pub record OthersKeepGroups : Type 0 where
  pub changed : (v : Rules) (on : Bool) (s : Space) (st : State) → IsGrouped s st
      → IsGrouped (space.after v on s change) st
  pub asked_nothing : (v : Rules) (on : Bool) (s : Space) (st : State) → IsGrouped s st
      → IsGrouped (space.after v on s nothing) st
  pub grouped : (s : Space) (st : State) (e : Event) → AdmitsNothing e → IsGrouped s st → IsGrouped s (after st e)
  pub standing : (st : State) (e : Event) → AdmitsNothing e → ops (after st e) ≡ ops_after st e

-- ---- which events may come

-- where no sync has to be answered first, ops may be queued, and a sync may end them
pub record OpsMayCome : Type 0 where
  pub queues : (st : State) (places : List Place) → is_due st ≡ false → is_trail_from st (queues_at places) ≡ true
  pub syncs : (st : State) (places : List Place) (here : ℕ) → is_due st ≡ false
      → is_trail_from st (queues_at places ++ events.Syncs here ∷ []) ≡ true

abbrev pub wants_at : ℕ → List Place → List Event
wants_at here places = map (λ place. events.Wants here place) places

-- a read may ask for these blocks: no sync has to be answered first, it asks for the first time and for each once, and
-- no op puts one of them
pub record CanWant (here : ℕ) (places : List Place) (st : State) : Type 0 where
  pub calm : is_due st ≡ false
  pub first : list_any (λ r. r.ticket == here) st.requests ≡ false
  pub apart : AreApart places
  pub free : All (λ place. list_any (puts_at place) (ops st) ≡ false) places

-- it has asked for them
pub record HasWanted (here : ℕ) (places : List Place) (old new : State) : Type 0 where
  pub requests : new.requests ≡ old.requests ++ requests_for here old.arrived places
  pub arrived : new.arrived ≡ old.arrived + length places
  pub head : new.head ≡ old.head
  pub done : new.done ≡ old.done
  pub ended : new.ended ≡ old.ended
  pub group : new.group ≡ old.group
  pub syncs : new.syncs ≡ old.syncs
  pub drains : new.drains ≡ old.drains

pub record ReadsMayWant : Type 0 where
  pub may : (st : State) (here : ℕ) (places : List Place) → CanWant here places st
      → is_trail_from st (wants_at here places) ≡ true
  pub wanted : (st : State) (here : ℕ) (places : List Place)
      → HasWanted here places st (fold after st (wants_at here places))
  pub once : (pieces : List Piece) → AreApart (places_in pieces)
  pub some : (keep : Place → Bool) (places : List Place) → AreApart places → AreApart (filter keep places)
