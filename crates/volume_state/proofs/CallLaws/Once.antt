-- A read asks for each block once.
use Rattle.std.specs.Prelude.{◌≡◌, ◌==◌, ◌&&◌, ◌||◌, not, Bool, true, false, cond, List, [], ◌∷◌, ◌++◌, filter, fold, Some, None}
use Rattle.std.specs.List.{list_any}
use Rattle.std.proofs.Common.{⊎_elim, refl, sym, ap, subst, ◌∙◌}
use Rattle.std.proofs.lemmas.Bool.{and_parts, both_ways, cases_Bool, eq-eqb, not-true, or_parts, or_from}
use Rattle.std.proofs.lemmas.List.Folds.{list_any-append}
use Rattle.tape_types.specs.declared.cartridges.Part.{Part}
use Rattle.tape_types.specs.declared.cartridges.Part.TheVariants.{Ip, Dp}
use Rattle.session_script.specs.declared.logs.Event.{Event}
use Rattle.session_script.specs.declared.logs.Event.TheVariants.{Wants, Queues, Syncs, Synced, Drains, Rests, Served, Worked}
use Rattle.head_queue.specs.EventLaws.Trail.{IsTrail, after, after_all, asks, fits, is_trail_from, puts_at}
use Rattle.head_queue.specs.EventLaws.Waiting.{Request, State, ops, same_part, same_place, start, waiting_op}
use Rattle.promises.proofs.OrderLaws.Frames.{worked_stays}
use Rattle.promises.proofs.OrderLaws.Lists.{any_filter}
use Rattle.promises.proofs.OrderLaws.Turning.{eqb_flip, may_come}
use Rattle.volume_state.proofs.CallLaws.States.{failed_leaves}

-- no later one asks for the same
abbrev pub Once : List Request → Type 0
Once [] = Unit {0}
Once (r ∷ rs) = (list_any (asks r.ticket r.place) rs ≡ false) × Once rs

part_flip : (a b : Part) → same_part a b ≡ same_part b a
part_flip Ip Ip = refl
part_flip Ip Dp = refl
part_flip Dp Ip = refl
part_flip Dp Dp = refl

-- who asks for the same as another is asked the same by it
asks_flip : (a b : Request) → asks a.ticket a.place b ≡ asks b.ticket b.place a
asks_flip a b =
    ap (λ c. c && same_place b.place a.place) (eqb_flip b.ticket a.ticket)
    ∙ ap (λ c. a.ticket == b.ticket && (c && b.place.pos == a.place.pos)) (part_flip b.place.part a.place.part)
    ∙ ap (λ c. a.ticket == b.ticket && (same_part a.place.part b.place.part && c)) (eqb_flip b.place.pos a.place.pos)

none_kept : {X : Type 0} (p q : X → Bool) (xs : List X) → list_any p xs ≡ false → list_any p (filter q xs) ≡ false
none_kept p q xs none = ⊎_elim (λ some. absurd (both_ways (list_any p xs) none (any_filter p q xs some))) (λ e. e) (cases_Bool (list_any p (filter q xs)))

once_by : (b : Bool) (r : Request) (rest : List Request) → list_any (asks r.ticket r.place) rest ≡ false → Once rest
    → Once (cond b (r ∷ rest) rest)
once_by true r rest none once = (none, once)
once_by false r rest none once = once

once_filter : (p : Request → Bool) (rs : List Request) → Once rs → Once (filter p rs)
once_filter p [] once = tt
once_filter p (r ∷ rs) once = once_by (p r) r (filter p rs) (none_kept (asks r.ticket r.place) p rs once.0) (once_filter p rs once.1)

once_more : (rs : List Request) (r : Request) → list_any (asks r.ticket r.place) rs ≡ false → Once rs
    → Once (rs ++ r ∷ [])
once_more [] r none once = (refl, tt)
once_more (x ∷ rs) r none once =
    let parts = or_parts (asks r.ticket r.place x) (list_any (asks r.ticket r.place) rs) none in (
      list_any-append (asks x.ticket x.place) rs (r ∷ [])
          ∙ or_from (list_any (asks x.ticket x.place) rs) (asks x.ticket x.place r || false) once.0 (or_from (asks x.ticket x.place r) false (asks_flip x r ∙ parts.0) refl),
      once_more rs r parts.1 once.1,
    )

-- ---- as events come

one_once : (st : State) (e : Event) → fits st e ≡ true → Once st.requests → Once (after st e).requests
one_once st (Wants ticket place) fit once =
    once_more st.requests (record { ticket = ticket; place = place; arrival = st.arrived })
    (not-true (list_any (asks ticket place) st.requests) (and_parts (not (list_any (asks ticket place) st.requests)) (not (list_any (puts_at place) (ops st))) fit).0) once
one_once st (Queues place) fit once = once
one_once st (Syncs ticket) fit once = once
one_once st (Synced ticket) fit once = once
one_once st (Drains who) fit once = once
one_once st (Rests who) fit once = once
one_once st (Served ticket place None) fit once = once_filter (λ (r : Request). not (asks ticket place r)) st.requests once
one_once st (Served ticket place (Some counts)) fit once = once_filter (λ (r : Request). not (r.ticket == ticket)) st.requests once
one_once st (Worked place None) fit once = subst Once (sym (worked_stays st (waiting_op st)).requests) once
one_once st (Worked place (Some counts)) fit once = subst Once (sym (failed_leaves st place counts).requests) once

once_from : (st : State) (events : List Event) → is_trail_from st events ≡ true → Once st.requests
    → Once (fold after st events).requests
once_from st [] trail once = once
once_from st (e ∷ events) trail once =
    let may = may_come st e events trail in once_from (after st e) events may.later (one_once st e may.fits_now once)

-- in a trail each read asks for each block once
pub asked_once : (events : List Event) → IsTrail events → Once (after_all events).requests
asked_once events trail = once_from start events trail tt

-- ---- one of them is taken out

none_before : (front : List Request) (r : Request) (behind : List Request) → Once (front ++ r ∷ behind)
    → list_any (asks r.ticket r.place) front ≡ false
none_before [] r behind once = refl
none_before (x ∷ front) r behind once =
    let parts = or_parts (list_any (asks x.ticket x.place) front) (asks x.ticket x.place r || list_any (asks x.ticket x.place) behind)
    (sym (list_any-append (asks x.ticket x.place) front (r ∷ behind)) ∙ once.0) in
    or_from (asks r.ticket r.place x) (list_any (asks r.ticket r.place) front)
    (asks_flip r x ∙ (or_parts (asks x.ticket x.place r) (list_any (asks x.ticket x.place) behind) parts.1).0) (none_before front r behind once.1)

none_behind : (front : List Request) (r : Request) (behind : List Request) → Once (front ++ r ∷ behind)
    → list_any (asks r.ticket r.place) behind ≡ false
none_behind [] r behind once = once.0
none_behind (x ∷ front) r behind once = none_behind front r behind once.1

keeps_all : {X : Type 0} (p : X → Bool) (xs : List X) → list_any p xs ≡ false → filter (λ x. not (p x)) xs ≡ xs
keeps_all p [] none = refl
keeps_all p (x ∷ xs) none =
    let parts = or_parts (p x) (list_any p xs) none in
    ap (λ b. cond (not b) (x ∷ filter (λ y. not (p y)) xs) (filter (λ y. not (p y)) xs)) parts.0
    ∙ ap (λ l. x ∷ l) (keeps_all p xs parts.1)

takes_one : {X : Type 0} (p : X → Bool) (front : List X) (x : X) (behind : List X) → list_any p front ≡ false
    → p x ≡ true → list_any p behind ≡ false
    → filter (λ y. not (p y)) (front ++ x ∷ behind) ≡ front ++ behind
takes_one p [] x behind none is later =
    ap (λ b. cond (not b) (x ∷ filter (λ y. not (p y)) behind) (filter (λ y. not (p y)) behind)) is
    ∙ keeps_all p behind later
takes_one p (y ∷ front) x behind none is later =
    let parts = or_parts (p y) (list_any p front) none in
    ap (λ b. cond (not b) (y ∷ filter (λ z. not (p z)) (front ++ x ∷ behind)) (filter (λ z. not (p z)) (front ++ x ∷ behind))) parts.0
    ∙ ap (λ l. y ∷ l) (takes_one p front x behind parts.1 is later)

same_part_itself : (a : Part) → same_part a a ≡ true
same_part_itself Ip = refl
same_part_itself Dp = refl

asks_itself : (r : Request) → asks r.ticket r.place r ≡ true
asks_itself r =
    ap (λ b. b && same_place r.place r.place) (eq-eqb r.ticket r.ticket refl)
    ∙ ap (λ b. b && r.place.pos == r.place.pos) (same_part_itself r.place.part) ∙ eq-eqb r.place.pos r.place.pos refl

-- without it the others are left
pub taken_out : (front : List Request) (r : Request) (behind : List Request) → Once (front ++ r ∷ behind)
    → filter (λ (x : Request). not (asks r.ticket r.place x)) (front ++ r ∷ behind) ≡ front ++ behind
taken_out front r behind once =
    takes_one (asks r.ticket r.place) front r behind (none_before front r behind once) (asks_itself r) (none_behind front r behind once)
