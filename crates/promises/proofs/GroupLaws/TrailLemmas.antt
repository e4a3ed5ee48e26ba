-- Which events may come where no sync has to be answered first.
use Rattle.std.proofs.Common.{◌≡◌, ℕ, ◌+◌, Bool, true, false, not, ◌&&◌, ◌||◌, eqb, cond, List, [], ◌∷◌, ◌++◌, sym, ap, ◌∙◌, refl, arith, append_assoc, append-nil}
use Rattle.std.specs.List.{All, filter, flat_map, fold, list_any}
use Rattle.std.proofs.lemmas.List.Elements.{All-head, All-tail}
use Rattle.std.proofs.lemmas.List.Folds.{list_any-append}
use Rattle.std.proofs.lemmas.Bool.{and_from, or_from, and_left}
use Rattle.tape_types.specs.declared.cartridges.Part.{Part}
use Rattle.tape_types.specs.declared.cartridges.Part.TheVariants.{Ip, Dp}
use Rattle.tape_types.specs.declared.cartridges.Place.{Place}
use Rattle.session_script.specs.declared.logs.Event.TheVariants as events
use Rattle.extent_map.specs.Replies as replies
use Rattle.head_queue.specs.EventLaws.Trail.{after, allows, asks, is_trail_from, puts_at}
use Rattle.head_queue.specs.EventLaws.Waiting.{Request, State, is_due, ops, same_part, same_place}
use Rattle.promises.specs.ServingPromise.Submits.{queues_at}
use Rattle.promises.specs.GroupLaws.Groups.{AreApart, requests_for}
use Rattle.promises.specs.GroupLaws.Laws.{HasWanted, OpsMayCome, ReadsMayWant, wants_at}

not_due : (due answer : Bool) → due ≡ false → (not due || answer) ≡ true
not_due true answer is = cc
not_due false answer is = refl

queue_trail : (places : List Place) (st : State) → is_due st ≡ false → is_trail_from st (queues_at places) ≡ true
queue_trail [] st calm = refl
queue_trail (p ∷ ps) st calm =
    and_from (allows st (events.Queues p)) (is_trail_from (after st (events.Queues p)) (queues_at ps)) (not_due (is_due st) false calm) (queue_trail ps (after st (events.Queues p)) calm)

sync_trail : (places : List Place) (st : State) (here : ℕ) → is_due st ≡ false → is_trail_from st (queues_at places ++ events.Syncs here ∷ []) ≡ true
sync_trail [] st here calm = and_from (allows st (events.Syncs here)) true (not_due (is_due st) false calm) refl
sync_trail (p ∷ ps) st here calm =
    and_from (allows st (events.Queues p)) (is_trail_from (after st (events.Queues p)) (queues_at ps ++ events.Syncs here ∷ [])) (not_due (is_due st) false calm)
    (sync_trail ps (after st (events.Queues p)) here calm)

-- where no sync has to be answered first, ops may be queued and ended by a sync
pub ops_may_come : OpsMayCome
ops_may_come = record { queues = λ st places calm. queue_trail places st calm; syncs = λ st places here calm. sync_trail places st here calm }

-- ---- requests of a read

left_false : (a b : Bool) → (a || b) ≡ false → a ≡ false
left_false true b is = cc
left_false false b is = refl

right_false : (a b : Bool) → (a || b) ≡ false → b ≡ false
right_false true b is = cc
right_false false b is = is

-- it has asked for none of these
abbrev NotAsked : ℕ → List Request → List Place → Type 0
NotAsked here requests [] = Unit {0}
NotAsked here requests (p ∷ ps) = (list_any (asks here p) requests ≡ false) × NotAsked here requests ps

none_asked : (here : ℕ) (p : Place) (requests : List Request) → list_any (λ (r : Request). eqb r.ticket here) requests ≡ false → list_any (asks here p) requests ≡ false
none_asked here p [] is = refl
none_asked here p (r ∷ rs) is =
    or_from (asks here p r) (list_any (asks here p) rs) (and_left (eqb r.ticket here) (same_place r.place p) (left_false _ _ is)) (none_asked here p rs (right_false (eqb r.ticket here) _ is))

not_asked : (here : ℕ) (requests : List Request) (places : List Place) → list_any (λ (r : Request). eqb r.ticket here) requests ≡ false → NotAsked here requests places
not_asked here requests [] is = tt
not_asked here requests (p ∷ ps) is = (none_asked here p requests is, not_asked here requests ps is)

one_more : (here : ℕ) (p q : Place) (arrival : ℕ) (requests : List Request) → list_any (asks here q) requests ≡ false → same_place p q ≡ false
    → list_any (asks here q) (requests ++ record { ticket = here; place = p; arrival = arrival } ∷ []) ≡ false
one_more here p q arrival requests old other =
    list_any-append (asks here q) requests (record { ticket = here; place = p; arrival = arrival } ∷ [])
    ∙ or_from (list_any (asks here q) requests) _ old (or_from (eqb here here && same_place p q) false (other_place (eqb here here) (same_place p q) other) refl)
  where
    other_place : (mine same : Bool) → same ≡ false → (mine && same) ≡ false
    other_place true same is = is
    other_place false same is = refl

still_not : (here : ℕ) (p : Place) (arrival : ℕ) (requests : List Request) (ps : List Place) → NotAsked here requests ps → list_any (same_place p) ps ≡ false
    → NotAsked here (requests ++ record { ticket = here; place = p; arrival = arrival } ∷ []) ps
still_not here p arrival requests [] old other = tt
still_not here p arrival requests (q ∷ qs) old other =
    (one_more here p q arrival requests old.0 (left_false (same_place p q) _ other), still_not here p arrival requests qs old.1 (right_false (same_place p q) _ other))

want_trail : (places : List Place) (st : State) (here : ℕ) → is_due st ≡ false → NotAsked here st.requests places → AreApart places
    → All (λ (p : Place). list_any (puts_at p) (ops st) ≡ false) places → is_trail_from st (wants_at here places) ≡ true
want_trail [] st here calm asked apart free = refl
want_trail (p ∷ ps) st here calm asked apart free =
    and_from (allows st (events.Wants here p)) (is_trail_from (after st (events.Wants here p)) (wants_at here ps))
    (and_from (not (list_any (asks here p) st.requests) && not (list_any (puts_at p) (ops st))) (not (is_due st) || false)
    (and_from (not (list_any (asks here p) st.requests)) (not (list_any (puts_at p) (ops st))) (ap not asked.0) (ap not (All-head (λ (p : Place). list_any (puts_at p) (ops st) ≡ false) p ps free)))
    (not_due (is_due st) false calm))
    (want_trail ps (after st (events.Wants here p)) here calm (still_not here p st.arrived st.requests ps asked.1 apart.0) apart.1
    (All-tail (λ (p : Place). list_any (puts_at p) (ops st) ≡ false) p ps free))

has_wanted : (places : List Place) (st : State) (here : ℕ) → HasWanted here places st (fold after st (wants_at here places))
has_wanted [] st here = record {
  requests = sym (append-nil st.requests);
  arrived = omega arith;
  head = refl;
  done = refl;
  ended = refl;
  group = refl;
  syncs = refl;
  drains = refl;
}
has_wanted (p ∷ ps) st here =
    let more = has_wanted ps (after st (events.Wants here p)) here in
    record {
      requests = more.requests ∙ append_assoc st.requests (record { ticket = here; place = p; arrival = st.arrived } ∷ []) (requests_for here (st.arrived + 1) ps);
      arrived = omega (arith, more.arrived);
      head = more.head;
      done = more.done;
      ended = more.ended;
      group = more.group;
      syncs = more.syncs;
      drains = more.drains;
    }

-- ---- places that stand once

none_kept : (keep : Place → Bool) (test : Place → Bool) (places : List Place) → list_any test places ≡ false → list_any test (filter keep places) ≡ false
none_kept keep test [] is = refl
none_kept keep test (p ∷ ps) is = by (keep p) (none_kept keep test ps (right_false (test p) (list_any test ps) is))
  where
    by : (b : Bool) → list_any test (filter keep ps) ≡ false → list_any test (cond b (p ∷ filter keep ps) (filter keep ps)) ≡ false
    by true rest = or_from (test p) (list_any test (filter keep ps)) (left_false (test p) (list_any test ps) is) rest
    by false rest = rest

apart_kept : (keep : Place → Bool) (places : List Place) → AreApart places → AreApart (filter keep places)
apart_kept keep [] apart = tt
apart_kept keep (p ∷ ps) apart = by (keep p) (apart_kept keep ps apart.1)
  where
    by : (b : Bool) → AreApart (filter keep ps) → AreApart (cond b (p ∷ filter keep ps) (filter keep ps))
    by true rest = (none_kept keep (same_place p) ps apart.0, rest)
    by false rest = rest

parts_alike : (a b : Part) → same_part a b ≡ replies.same_part a b
parts_alike Ip Ip = refl
parts_alike Ip Dp = refl
parts_alike Dp Ip = refl
parts_alike Dp Dp = refl

alike : (a b : Place) → same_place a b ≡ replies.same_place a b
alike a b = ap (λ t. t && eqb a.pos b.pos) (parts_alike a.part b.part)

-- none of those that are left is the same place
none_left : (p : Place) (places : List Place) → list_any (same_place p) (filter (λ other. not (replies.same_place p other)) places) ≡ false
none_left p [] = refl
none_left p (q ∷ qs) = by (replies.same_place p q) refl (none_left p qs)
  where
    by : (b : Bool) → replies.same_place p q ≡ b → list_any (same_place p) (filter (λ other. not (replies.same_place p other)) qs) ≡ false
        → list_any (same_place p) (cond (not b) (q ∷ filter (λ other. not (replies.same_place p other)) qs) (filter (λ other. not (replies.same_place p other)) qs)) ≡ false
    by true is rest = rest
    by false is rest = or_from (same_place p q) _ (alike p q ∙ is) rest

apart_once : (places : List Place) → AreApart (replies.distinct places)
apart_once [] = tt
apart_once (p ∷ ps) = (none_left p (replies.distinct ps), apart_kept (λ other. not (replies.same_place p other)) (replies.distinct ps) (apart_once ps))

-- a read may ask for its blocks, for each once
pub reads_may_want : ReadsMayWant
reads_may_want = record {
  may = λ st here places can. want_trail places st here can.calm (not_asked here st.requests places can.first) can.apart can.free;
  wanted = λ st here places. has_wanted places st here;
  once = λ pieces. apart_once (flat_map replies.place_in pieces);
  some = apart_kept;
}
