-- What the steps of a trail have cost, event by event.
use Rattle.std.specs.Prelude.{ℕ, suc, ◌≡◌, ◌==◌, ◌+◌, ◌-◌, ◌≤◌, ◌<◌, ◌&&◌, ◌||◌, not, Bool, true, false, cond, List, [], ◌∷◌, ◌++◌, drop, take, fold, length, map, sum, scan, filter_map, Option, Some, None, is_some, get_or}
use Rattle.std.specs.List.{list_any}
use Rattle.std.proofs.Common.{refl, sym, ap, subst, ◌∙◌, arith, length-append}
use Rattle.std.proofs.lemmas.Bool.Decides.{nat_tests}
use Rattle.std.proofs.lemmas.List.{drop-append-le, drop-drop, drop-take, length-drop, length-take-le, take_more}
use Rattle.std.proofs.lemmas.List.Sums.{fold-append}
use Rattle.std.proofs.lemmas.List.Folds.{list_any-append}
use Rattle.std.proofs.lemmas.List.Elements.{filter_map-append}
use Rattle.std.proofs.lemmas.Option.{slice_get-get_or, same_Some}
use Rattle.tape_types.specs.declared.cartridges.Part.{Part}
use Rattle.tape_types.specs.declared.cartridges.Part.TheVariants.{Ip, Dp}
use Rattle.tape_types.specs.declared.cartridges.Place.{Place}
use Rattle.tape_types.specs.declared.cartridges.Twin.{Twin}
use Rattle.session_script.specs.declared.logs.Event.{Event}
use Rattle.session_script.specs.declared.logs.Event.TheVariants.{Wants, Queues, Syncs, Synced, Drains, Rests, Served, Worked}
use Rattle.head_queue.specs.EventLaws.Trail.{EachIsAllowed, IsTrail, after, after_all, after_op, allows, behind, distance, step_to, steps, takes_op, travel, without_first_op, without_first_waiter}
use Rattle.head_queue.specs.EventLaws.Waiting.{Op, State, Waiter, first_of, is_calm, ops, put_at, same_part, same_place, start, waiting_op, with_flushes}
use Rattle.head_queue.proofs.EventLaws.TrailLaw.{first_of as left_of, trails_allow_each}
use Rattle.promises.specs.ServingPromise.Ends.{bounded}
use Rattle.volume_core.specs.declared.costs.Walk.{Walk}
use Rattle.volume_core.specs.Costs.{AreCosts, Goes, IsWalked, Standing, apart, is_last, is_queued, queued_by, stand, standing_of, to_op, with_event}

-- ---- the ops that stand

abbrev pub holding : List Op → List Place → Standing
holding ended group = record { ended = ended; group = group }

abbrev pub all_of : Standing → List Op
all_of s = s.ended ++ map put_at s.group

-- once the first op is done
abbrev pub without_first : List Op → List Place → Standing
without_first [] group = holding [] (drop 1 group)
without_first (o ∷ ended) group = holding ended group

-- an op stands first, and these are the others
pub record IsFirst (s : Standing) (op : Op) (others : Standing) : Type 0 where
  pub first : first_of (all_of s) ≡ Some op
  pub left : without_first s.ended s.group ≡ others

abbrev is_same : Place → Place → Bool
is_same p q = same_part p.part q.part

-- an op of a group, of which these places come later, before these events
abbrev op_before : Place → List Place → List Event → Op
op_before p group later = record { place = p; flush = not (list_any (is_same p) group) && is_last p.part later }

-- an op that was ended stays in front
in_front : (o : Op) (s : Standing) (events : List Event)
    → fold with_event (holding (o ∷ s.ended) s.group) events
    ≡ record { ended = o ∷ (fold with_event s events).ended; group = (fold with_event s events).group }
in_front o s [] = refl
in_front o s (Wants ticket place ∷ events) = in_front o s events
in_front o s (Queues place ∷ events) = in_front o (with_event s (Queues place)) events
in_front o s (Syncs ticket ∷ events) = in_front o (with_event s (Syncs ticket)) events
in_front o s (Synced ticket ∷ events) = in_front o s events
in_front o s (Drains who ∷ events) = in_front o s events
in_front o s (Rests who ∷ events) = in_front o s events
in_front o s (Served ticket place fault ∷ events) = in_front o s events
in_front o s (Worked place fault ∷ events) = in_front o s events

and_false : (b : Bool) → (b && false) ≡ false
and_false true = refl
and_false false = refl

and_true : (b : Bool) → (b && true) ≡ b
and_true true = refl
and_true false = refl

one_more : (any same last : Bool) → (not (any || (same || false)) && last) ≡ (not any && cond same false last)
one_more true same last = refl
one_more false true last = refl
one_more false false last = refl

same_sym : (a b : Part) → same_part a b ≡ same_part b a
same_sym Ip Ip = refl
same_sym Ip Dp = refl
same_sym Dp Ip = refl
same_sym Dp Dp = refl

flush_on : (p q : Place) (group : List Place) (last : Bool)
    → (not (list_any (is_same p) (group ++ q ∷ [])) && last)
    ≡ (not (list_any (is_same p) group) && cond (same_part q.part p.part) false last)
flush_on p q group last =
    let done = one_more (list_any (is_same p) group) (same_part p.part q.part) last in
    rw (list_any-append (is_same p) group (q ∷ []), same_sym q.part p.part) done

with_flush : (p : Place) (a b : Bool) (s others : Standing) → a ≡ b
    → IsFirst s (record { place = p; flush = a }) others → IsFirst s (record { place = p; flush = b }) others
with_flush p a b s others e = subst (λ f. IsFirst s (record { place = p; flush = f }) others) e

-- the first place of a group, before these events
of_group : (p : Place) (group : List Place) (later : List Event)
    → IsFirst (fold with_event (holding [] (p ∷ group)) later) (op_before p group later)
    (fold with_event (holding [] group) later)
of_group p group [] = record {
  first = ap (λ f. Some (record { place = p; flush = f })) (sym (and_false (not (list_any (is_same p) group))));
  left = refl;
}
of_group p group (Wants ticket place ∷ later) = of_group p group later
of_group p group (Queues q ∷ later) =
    with_flush p _ _ _ _ (flush_on p q group (is_last p.part later)) (of_group p (group ++ q ∷ []) later)
of_group p group (Syncs ticket ∷ later) =
    let ended = in_front (record { place = p; flush = not (list_any (is_same p) group) })
    (holding (with_flushes group) []) later in
    record {
      first = rw ended (ap (λ f. Some (record { place = p; flush = f })) (sym (and_true (not (list_any (is_same p)
          group)))));
      left = rw ended refl;
    }
of_group p group (Synced ticket ∷ later) = of_group p group later
of_group p group (Drains who ∷ later) = of_group p group later
of_group p group (Rests who ∷ later) = of_group p group later
of_group p group (Served ticket place fault ∷ later) = of_group p group later
of_group p group (Worked place fault ∷ later) = of_group p group later

-- no op stands, or the first is that of the first event that queues one
pub data HasFirst (events : List Event) : Type 0 where
  no_op : queued_by events ≡ holding [] [] → HasFirst events
  an_op : (p : Place)
      → IsFirst (queued_by events) (record { place = p; flush = is_last p.part (drop (to_op events) events) })
      (queued_by (drop (to_op events) events)) → HasFirst events

quiet_more : (e : Event) (events : List Event) → is_queued e ≡ false → with_event (holding [] []) e ≡ holding [] []
    → HasFirst events → HasFirst (e ∷ events)
quiet_more e events quiet same (no_op is) = no_op (ap (λ s. fold with_event s events) same ∙ is)
quiet_more e events quiet same (an_op p is) = an_op p (rw (quiet, same) is)

has_first : (events : List Event) → HasFirst events
has_first [] = no_op refl
has_first (Wants ticket place ∷ events) = quiet_more _ events refl refl (has_first events)
has_first (Queues place ∷ events) = an_op place (of_group place [] events)
has_first (Syncs ticket ∷ events) = quiet_more _ events refl refl (has_first events)
has_first (Synced ticket ∷ events) = quiet_more _ events refl refl (has_first events)
has_first (Drains who ∷ events) = quiet_more _ events refl refl (has_first events)
has_first (Rests who ∷ events) = quiet_more _ events refl refl (has_first events)
has_first (Served ticket place fault ∷ events) = quiet_more _ events refl refl (has_first events)
has_first (Worked place fault ∷ events) = quiet_more _ events refl refl (has_first events)

-- ---- events, one behind the other

after_more : (events : List Event) (e : Event) → after_all (events ++ e ∷ []) ≡ after (after_all events) e
after_more events e = fold-append after start events (e ∷ [])

steps_more : (events : List Event) (e : Event)
    → steps (events ++ e ∷ []) ≡ steps events + length (filter_map step_to (e ∷ []))
steps_more events e =
    ap length (filter_map-append step_to events (e ∷ []))
    ∙ length-append (filter_map step_to events) (filter_map step_to (e ∷ []))

scan_more : (st : State) (events : List Event) (e : Event)
    → scan after distance st (events ++ e ∷ []) ≡ scan after distance st events ++ distance (fold after st events) e
    ∷ []
scan_more st [] e = refl
scan_more st (x ∷ events) e = ap (λ far. distance st x ∷ far) (scan_more (after st x) events e)

travel_more : (events : List Event) (e : Event)
    → travel (events ++ e ∷ []) ≡ travel events + distance (after_all events) e
travel_more events e =
    ap sum (scan_more start events e)
    ∙ fold-append (λ (a b : ℕ). a + b) 0 (scan after distance start events) (distance (after_all events) e ∷ [])

bounded_more : (a b c d : ℕ) → a ≡ bounded b → d ≡ bounded (a + bounded c) → d ≡ bounded (b + c)
bounded_more a b c d e f = omega (arith, e, f)

bounded_one : (a b d : ℕ) → a ≡ bounded b → d ≡ bounded (a + 1) → d ≡ bounded (b + 1)
bounded_one a b d e f = omega (arith, e, f)

queued_more : (n : ℕ) (events : List Event) (e : Event) → n ≤ length events
    → queued_by (drop n (events ++ e ∷ [])) ≡ with_event (queued_by (drop n events)) e
queued_more n events e le =
    ap queued_by (drop-append-le n events (e ∷ []) le) ∙ fold-append with_event (holding [] []) (drop n events) (e ∷ [])

-- ---- the walk

-- a step that takes the head to a place
went : (events : List Event) (e : Event) (old new : Walk) (past : Bool) (to : ℕ)
    → (after_all events).head.pos ≡ stand old.pos old.past
    → AreCosts events old.steps old.travel → Goes to past old new → new.first ≤ length events
    → length (filter_map step_to (e ∷ [])) ≡ 1 → distance (after_all events) e ≡ apart (after_all events).head.pos to
    → (after (after_all events) e).head.pos ≡ stand to past
    → with_event (queued_by (drop new.first events)) e ≡ standing_of (after (after_all events) e)
    → IsWalked (events ++ e ∷ []) new
went events e old new past to stood costs goes within one far head stays = record {
  within = omega (arith, within, length-append events (e ∷ []));
  ops = queued_more new.first events e within ∙ stays ∙ ap standing_of (sym (after_more events e));
  head = ap (λ (st : State). st.head.pos) (after_more events e) ∙ head
      ∙ (λ i. stand (sym goes.pos i) (sym goes.past_is i));
  costs = record {
    steps_are = bounded_one old.steps (steps events) new.steps costs.steps_are goes.steps_are
        ∙ ap bounded (ap (λ n. steps events + n) (sym one) ∙ sym (steps_more events e));
    travel_is = bounded_more old.travel (travel events) (apart (stand old.pos old.past) to) new.travel
        costs.travel_is goes.travel_is
        ∙ ap bounded (ap (λ n. travel events + n) (ap (λ p. apart p to) (sym stood) ∙ sym far)
        ∙ sym (travel_more events e));
  };
}

-- one that leaves the ops that stand
stepped : (events : List Event) (e : Event) (old new : Walk) (past : Bool) (to : ℕ) → IsWalked events old
    → Goes to past old new → length (filter_map step_to (e ∷ [])) ≡ 1
    → distance (after_all events) e ≡ apart (after_all events).head.pos to
    → (after (after_all events) e).head.pos ≡ stand to past
    → standing_of (after (after_all events) e) ≡ with_event (standing_of (after_all events)) e
    → IsWalked (events ++ e ∷ []) new
stepped events e old new past to walked goes one far head stays =
    went events e old new past to walked.head walked.costs goes (omega (arith, goes.first, walked.within)) one far head
    (ap (λ n. with_event (queued_by (drop n events)) e) goes.first ∙ ap (λ s. with_event s e) walked.ops ∙ sym stays)

-- an event that is no step
quiet : (events : List Event) (e : Event) (w : Walk) → IsWalked events w
    → length (filter_map step_to (e ∷ [])) ≡ 0 → distance (after_all events) e ≡ 0
    → (after (after_all events) e).head ≡ (after_all events).head
    → standing_of (after (after_all events) e) ≡ with_event (standing_of (after_all events)) e
    → IsWalked (events ++ e ∷ []) w
quiet events e w walked none far head stays = record {
  within = omega (arith, walked.within, length-append events (e ∷ []));
  ops = queued_more w.first events e walked.within ∙ ap (λ s. with_event s e) walked.ops ∙ sym stays
      ∙ ap standing_of (sym (after_more events e));
  head = ap (λ (st : State). st.head.pos) (after_more events e) ∙ ap (λ (p : Place). p.pos) head ∙ walked.head;
  costs = record {
    steps_are = walked.costs.steps_are ∙ ap bounded (sym (steps_more events e ∙ omega (arith, none)));
    travel_is = walked.costs.travel_is ∙ ap bounded (sym (travel_more events e ∙ omega (arith, far)));
  };
}

begins : IsWalked [] (record { first = 0; pos = 0; past = false; steps = 0; travel = 0 })
begins = record { within = omega arith; ops = refl; head = refl; costs = record { steps_are = refl; travel_is = refl } }

turned : (a b : Bool) → a ≡ not b → not a ≡ b
turned a true e = rw e refl
turned a false e = rw e refl

-- a request was served
pub served : (events : List Event) (ticket : ℕ) (place : Place) (fault : Option Twin) (old new : Walk) (past : Bool)
    → IsWalked events old → Goes place.pos past old new → is_some fault ≡ not past
    → IsWalked (events ++ Served ticket place fault ∷ []) new
served events ticket place None old new past walked goes is =
    stepped events (Served ticket place None) old new past place.pos walked goes refl refl (ap (λ b. stand place.pos
    b) (turned false past is)) refl
served events ticket place (Some counts) old new past walked goes is =
    stepped events (Served ticket place (Some counts)) old new past place.pos walked goes refl refl
    (plus_none place.pos ∙ ap (λ b. stand place.pos b) (turned true past is)) refl
  where
    plus_none : (n : ℕ) → n ≡ n + 0
    plus_none n = omega arith

waiters_go : (st : State) → standing_of (without_first_waiter st) ≡ standing_of st
waiters_go st = by st.syncs refl
  where
    by : (syncs : List Waiter) → st.syncs ≡ syncs → standing_of (without_first_waiter st) ≡ standing_of st
    by [] is = rw is refl
    by (s ∷ more) is = rw is refl

-- the step for an op failed
pub broke : (events : List Event) (place : Place) (counts : Twin) (old new : Walk)
    → IsWalked events old → Goes place.pos false old new
    → IsWalked (events ++ Worked place (Some counts) ∷ []) new
broke events place counts old new walked goes =
    stepped events (Worked place (Some counts)) old new false place.pos walked goes refl refl (plus_none place.pos)
    (waiters_go (after_all events))
  where
    plus_none : (n : ℕ) → n ≡ n + 0
    plus_none n = omega arith

-- events of which none is a step
pub passed : (events : List Event) (e : Event) (w : Walk) → IsWalked events w
    → ((ticket : ℕ) (place : Place) (fault : Option Twin) → e ≡ Served ticket place fault → ⊥)
    → ((place : Place) (fault : Option Twin) → e ≡ Worked place fault → ⊥) → IsWalked (events ++ e ∷ []) w
passed events (Wants ticket place) w walked no_read no_work = quiet events _ w walked refl refl refl refl
passed events (Queues place) w walked no_read no_work = quiet events _ w walked refl refl refl refl
passed events (Syncs ticket) w walked no_read no_work = quiet events _ w walked refl refl refl refl
passed events (Synced ticket) w walked no_read no_work = quiet events _ w walked refl refl refl refl
passed events (Drains who) w walked no_read no_work = quiet events _ w walked refl refl refl refl
passed events (Rests who) w walked no_read no_work = quiet events _ w walked refl refl refl refl
passed events (Served ticket place fault) w walked no_read no_work = absurd (no_read ticket place fault refl)
passed events (Worked place fault) w walked no_read no_work = absurd (no_work place fault refl)

-- ---- the first op is done

to_op_within : (events : List Event) → to_op events ≤ length events
to_op_within [] = omega arith
to_op_within (e ∷ events) =
    elim (is_queued e) as (λ b. suc (cond b 0 (to_op events)) ≤ suc (length events)) [
      | true ↦ omega arith
      | false ↦ omega (arith, to_op_within events)
    ]

same_parts : (a b : Part) → same_part a b ≡ true → a ≡ b
same_parts Ip Ip e = refl
same_parts Ip Dp e = absurd cc
same_parts Dp Ip e = absurd cc
same_parts Dp Dp e = refl

same_pos : (a b : ℕ) → (a == b) ≡ true → a ≡ b
same_pos a b e = grind (arith, nat_tests)

right_of : (a b : Bool) → (a && b) ≡ true → b ≡ true
right_of true b e = e
right_of false b e = absurd cc

-- the op that is taken waits, and stands there
record IsTaken (st : State) (place : Place) : Type 0 where
  pub op : Op
  pub first : first_of (ops st) ≡ Some op
  pub waits : waiting_op st ≡ Some op
  pub part : op.place.part ≡ place.part
  pub pos : op.place.pos ≡ place.pos

op_taken : (st : State) (place : Place) → takes_op st place (waiting_op st) ≡ true → IsTaken st place
op_taken st place takes = by (is_calm st) (first_of (ops st)) refl refl takes
  where
    by : (calm : Bool) (op : Option Op) → is_calm st ≡ calm → first_of (ops st) ≡ op
        → takes_op st place (cond calm None op) ≡ true → IsTaken st place
    by true op calm is e = absurd cc
    by false None calm is e = absurd cc
    by false (Some op) calm is e =
        let same = left_of (same_place op.place place) _ e in
        record {
          op = op;
          first = is;
          waits = rw (calm, is) refl;
          part = same_parts op.place.part place.part (left_of (same_part op.place.part place.part) (op.place.pos ==
              place.pos) same);
          pos = same_pos op.place.pos place.pos (right_of (same_part op.place.part place.part) (op.place.pos ==
              place.pos) same);
        }

left_without : (st : State) → standing_of (without_first_op st) ≡ without_first st.ended st.group
left_without st = by st.ended refl
  where
    by : (ended : List Op) → st.ended ≡ ended → standing_of (without_first_op st) ≡ without_first st.ended st.group
    by [] is = rw is refl
    by (o ∷ more) is = rw is refl

-- events of a list from one place up to another
from_to : (events : List Event) (n at : ℕ) → n ≤ at → take (at - n) (drop n events) ≡ drop n (take at events)
from_to events n at le =
    sym (drop-take n (at - n) events) ∙ ap (λ k. drop n (take k events)) (omega (arith, le))

behind_op : (op : Op) (place : Place) (flush : Bool) → op.place.pos ≡ place.pos → op.flush ≡ flush
    → (behind op).pos ≡ stand place.pos (not flush)
behind_op op place true pos is = rw is (pos ∙ omega arith)
behind_op op place false pos is = rw is (ap (λ n. n + 1) pos)

worked_at : (xs : List Event) (place : Place) (old new : Walk) (flush : Bool) → IsWalked xs old
    → allows (after_all xs) (Worked place None) ≡ true
    → flush ≡ is_last place.part (drop (to_op (drop old.first xs)) (drop old.first xs))
    → Goes place.pos (not flush) (record old { first = old.first + to_op (drop old.first xs) }) new
    → IsWalked (xs ++ Worked place None ∷ []) new
worked_at xs place old new flush walked may flush_is goes = by (has_first (drop old.first xs))
  where
    st : State
    st = after_all xs

    taken : IsTaken (after_all xs) place
    taken = op_taken (after_all xs) place
        (left_of (takes_op (after_all xs) place (waiting_op (after_all xs))) _ may)

    by : HasFirst (drop old.first xs) → IsWalked (xs ++ Worked place None ∷ []) new
    by (no_op is) =
        let nothing : standing_of (after_all xs) ≡ holding [] [] = sym walked.ops ∙ is in
        let first : first_of (all_of (holding [] [])) ≡ Some taken.op
        = ap (λ s. first_of (all_of s)) (sym nothing) ∙ taken.first in
        absurd cc
    by (an_op p is) =
        let op_is : record {
          place = p;
          flush = is_last p.part (drop (to_op (drop old.first xs)) (drop old.first xs));
        } ≡ taken.op
        = same_Some _ _ (sym is.first ∙ ap (λ s. first_of (all_of s)) walked.ops ∙ taken.first) in
        let part : p.part ≡ place.part = ap (λ (o : Op). o.place.part) op_is ∙ taken.part in
        let flush_op : taken.op.flush ≡ flush
        = ap (λ (o : Op). o.flush) (sym op_is)
        ∙ ap (λ part. is_last part (drop (to_op (drop old.first xs)) (drop old.first xs))) part ∙ sym flush_is in
        let left : queued_by (drop new.first xs) ≡ standing_of (without_first_op (after_all xs))
        = ap (λ n. queued_by (drop n xs)) goes.first
        ∙ ap queued_by (sym (drop-drop (to_op (drop old.first xs)) old.first xs))
        ∙ sym is.left ∙ ap (λ s. without_first s.ended s.group) walked.ops
        ∙ sym (left_without (after_all xs)) in
        let comes : after (after_all xs) (Worked place None) ≡ after_op (Some taken.op) (after_all xs)
        = ap (λ o. after_op o (after_all xs)) taken.waits in
        went xs (Worked place None) (record old { first = old.first + to_op (drop old.first xs) }) new (not flush)
        place.pos
        walked.head walked.costs goes
        (omega (arith, goes.first, to_op_within (drop old.first xs), length-drop old.first xs, walked.within))
        refl refl
        (ap (λ (s : State). s.head.pos) comes ∙ behind_op taken.op place flush taken.pos flush_op)
        (left ∙ sym (ap standing_of comes))

-- the same, where the events stand in a list
pub worked : (events : List Event) (at : ℕ) (place : Place) (old new : Walk) (taken : ℕ) (flush : Bool)
    → at ≤ length events
    → IsWalked (take at events) old → allows (after_all (take at events)) (Worked place None) ≡ true
    → taken ≡ to_op (take (at - old.first) (drop old.first events))
    → flush ≡ is_last place.part (take (at - (old.first + taken)) (drop (old.first + taken) events))
    → Goes place.pos (not flush) (record old { first = old.first + taken }) new
    → IsWalked (take at events ++ Worked place None ∷ []) new
worked events at place old new taken flush le walked may taken_is flush_is goes =
    let short : length (take at events) ≡ at = length-take-le at events le in
    let first : take (at - old.first) (drop old.first events) ≡ drop old.first (take at events)
    = from_to events old.first at (omega (arith, walked.within, short)) in
    let is : taken ≡ to_op (drop old.first (take at events)) = taken_is ∙ ap to_op first in
    let within : old.first + taken ≤ at
    = omega (
      arith,
      is,
      to_op_within (drop old.first (take at events)),
      length-drop old.first (take at events),
      short,
      walked.within,
    ) in
    let last : flush ≡ is_last place.part (drop (to_op (drop old.first (take at events))) (drop old.first (take at
    events)))
    = flush_is ∙ ap (is_last place.part) (from_to events (old.first + taken) at within)
    ∙ ap (λ n. is_last place.part (drop (old.first + n) (take at events))) is
    ∙ ap (is_last place.part) (sym (drop-drop (to_op (drop old.first (take at events))) old.first (take at events))) in
    worked_at (take at events) place old new flush walked may last
    (subst (λ n. Goes place.pos (not flush) (record old { first = old.first + n }) new) is goes)

-- ---- events of a list

-- what an event of a list is where there is none
abbrev pub no_event : Event
no_event = Wants 0 (record { part = Ip; pos = 0 })

-- a walk over a trail goes on by one event
pub meets : (events : List Event) (at : ℕ) (e : Event) (w : Walk) → at < length events → get_or events at no_event ≡ e
    → IsWalked (take at events ++ e ∷ []) w → IsWalked (take (at + 1) events) w
meets events at e w lt is walked =
    subst (λ xs. IsWalked xs w) (ap (λ x. take at events ++ x ∷ []) (sym is)
    ∙ sym (take_more events at no_event lt)) walked

-- each event of a trail may come after those before it
pub allowed_at : (events : List Event) (at : ℕ) (e : Event) → IsTrail events → at < length events
    → get_or events at no_event ≡ e
    → allows (after_all (take at events)) e ≡ true
allowed_at events at e trail lt is =
    let may : EachIsAllowed events = (trails_allow_each events).0 trail in
    may at e (slice_get-get_or events at no_event lt ∙ ap Some is)
