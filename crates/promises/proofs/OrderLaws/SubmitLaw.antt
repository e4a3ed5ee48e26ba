-- Submissions keep the order.
use Rattle.std.specs.Prelude.{◌≡◌, ◌==◌, not, ℕ, false, cond, List, [], ◌∷◌, ◌++◌, length, map, Option, Some, None, is_some, slice_get}
use Rattle.std.specs.List.{list_any}
use Rattle.std.proofs.Common.{⊎_elim, refl, sym, ap, ap₂, subst, ◌∙◌, arith}
use Rattle.std.proofs.lemmas.Bool.{cases_lt, eq-eqb, false_from_ne_true}
use Rattle.std.proofs.lemmas.Option.{slice_get_within}
use Rattle.tape_drive.specs.declared.drive.Drive.{Ghosts}
use Rattle.plain_tree.specs.declared.calls.Fate.{Fate}
use Rattle.plain_tree.specs.declared.calls.Fate.TheVariants as fates
use Rattle.session_script.specs.Grammar.{calls_of}
use Rattle.session_script.specs.Sessions.{greatest_session}
use Rattle.session_script.specs.declared.logs.Event.{Event}
use Rattle.session_script.specs.declared.logs.Event.TheVariants as events
use Rattle.session_script.specs.declared.logs.Reply.{Reply}
use Rattle.head_queue.specs.EventLaws.Trail.{after_all}
use Rattle.head_queue.specs.EventLaws.Waiting.{State, ops}
use Rattle.promises.specs.ServingPromise.Acks.{answers, is_synced}
use Rattle.promises.specs.ServingPromise.Faults.{told}
use Rattle.promises.specs.ServingPromise.Marks.{after, draining, idle, mark}
use Rattle.promises.specs.ServingPromise.Served.{View, given, headed, is_waiting}
use Rattle.promises.specs.ServingPromise.Submits.{Adds, CanSubmit, IsOfFate, Places, Submits, acks_for, call_of, fate_for}
use Rattle.promises.specs.declared.serving_promise.answers.Submitted.{Submitted}
use Rattle.promises.specs.ServingPromise.Cached.{IsCache}
use Rattle.promises.proofs.ServingPromise.CacheLaws.{submits_stay}
use Rattle.space_laws.specs.Standing.{standing}
use Rattle.promises.specs.declared.serving_promise.answers.Submitted.TheVariants as submitted
use Rattle.promises.specs.declared.serving_promise.marks.MarkKind.{MarkKind}
use Rattle.promises.specs.declared.serving_promise.marks.MarkKind.TheVariants.{Places as places, Hands as hands, Begins as begins}
use Rattle.promises.specs.OrderLaws.Kept.{owed, seen}
use Rattle.promises.specs.OrderLaws.Laws.{IsInOrder, SubmissionsKeepOrder}
use Rattle.promises.specs.OrderLaws.Phases.{goes_on}
use Rattle.promises.specs.OrderLaws.Sides.{HasOneMoment, MayFollow}
use Rattle.promises.proofs.OrderLaws.Marked.{to_owed}
use Rattle.promises.proofs.OrderLaws.Owned.{after_more, submitted as own_events, unanswered_waits}
use Rattle.promises.proofs.OrderLaws.PlaceLaw.{AreKinds, CanPlace, handed_too, placed_alone, placed_view, placing_keeps}
use Rattle.promises.proofs.OrderLaws.SessionLaw.{CanDrain, drained_view, draining_keeps, drains_is, drains_more}
use Rattle.promises.proofs.OrderLaws.Views.{one_moment, session_is, view_is}

-- what the ops that stand are, said of the events that were added
pub stand_by : {D : Type 0} (old new : View D) (added : List Event) → MayFollow old new added → new.events ≡ old.events ++ added → map headed new.ops ≡ ops (after_all (old.events ++ added))
stand_by old new added follows events = follows.standing ∙ ap (λ l. ops (after_all l)) events

-- ---- a placement

places_one : {D : Type 0} (drive : Ghosts D) (old new : View D) (who nth : ℕ) (fate : Fate) (reply : Option Reply) (added : List Event) (kinds : List MarkKind)
    → IsInOrder drive old → CanSubmit old who nth → new.fixed ≡ old.fixed → new.drive ≡ old.drive → new.kept ≡ old.kept → Places old new who nth fate reply → Adds (seen drive new.drive) old new added
    → IsOfFate fate (length old.history) old.events (call_of old who nth) added → new.marks ≡ old.marks ++ map (mark who) kinds → AreKinds (length old.history) kinds reply
    → (reply ≡ None → fate ≡ fates.Done) → HasOneMoment old → MayFollow old new added → is_waiting (after_all new.events) (length old.history) ≡ not (is_some reply) → told reply ≡ None
    → is_synced reply ≡ list_any (answers (length old.history)) added → IsCache (old.events ++ added) new.cached → IsInOrder drive new
places_one {D = D} drive old new who nth fate reply added kinds kept can fixed same_drive same_kept pl adds of marks kinds_are done moment follows waits no_fault synced cache =
    let p = pl.placed in
    let first = seen drive old.fixed.first in
    let now = seen drive old.drive in
    let c : CanPlace first now old p reply added kinds = record {
      kept = kept;
      can = subst (λ w. CanSubmit old w p.nth) (sym pl.who_is) (subst (λ n. CanSubmit old who n) (sym pl.nth_is) can);
      fate = λ none. pl.fate_is ∙ done none;
      moment = one_moment old.fixed.moment old.next p moment pl.moment;
      trail = follows.trail;
      own = own_events (calls_of old.fixed.script) old.history p old.events fate (call_of old who nth) added pl.fate_is (ap₂ (λ w n. slice_get (calls_of old.fixed.script w) n) pl.who_is pl.nth_is) follows.trail of;
      waits_for = ap (λ l. is_waiting (after_all l) (length old.history)) (sym adds.events) ∙ waits;
      no_fault = no_fault;
      synced = synced;
      kinds_are = kinds_are;
    } in
    let is : new ≡ placed_view first now old p reply added kinds new.next new.on new.ops new.cached = view_is new (placed_view first now old p reply added kinds new.next new.on new.ops new.cached) fixed same_drive refl pl.history pl.replies
    (adds.acks ∙ ap (λ d. old.acks ++ acks_for (drive.commands d) added) same_drive) adds.events (marks ∙ ap (λ w. old.marks ++ map (mark w) kinds) (sym pl.who_is)) same_kept refl refl refl in
    subst (λ (v : View D). IsInOrder drive v) (sym is) (placing_keeps first now old p reply added kinds c new.next new.on new.ops new.cached (stand_by old new added follows adds.events) cache)

-- ---- a drain that begins

drains_one : {D : Type 0} (drive : Ghosts D) (old new : View D) (who nth : ℕ) → IsInOrder drive old → CanSubmit old who nth → new.fixed ≡ old.fixed → new.drive ≡ old.drive → new.kept ≡ old.kept
    → new.history ≡ old.history → new.replies ≡ old.replies → Adds (seen drive new.drive) old new (events.Drains who ∷ []) → new.marks ≡ old.marks ++ map (mark who) (begins ∷ []) → MayFollow old new (events.Drains who ∷ []) → IsCache (old.events ++ events.Drains who ∷ []) new.cached
    → IsInOrder drive new
drains_one {D = D} drive old new who nth kept can fixed same_drive same_kept history replies adds marks follows cache =
    let first = seen drive old.fixed.first in
    let now = seen drive old.drive in
    let st = after_all old.events in
    let was = to_owed (greatest_session old.fixed.script) old.history old.replies st old.kept old.marks kept.orderly.marks who in
    let longer = drains_more who who st.drains in
    let one : ◌≡◌ {A = ℕ} (cond (who == who) 1 0) 1 = ap {B = ℕ} (λ b. cond b 1 0) (eq-eqb who who refl) in
    let c : CanDrain first now old who (events.Drains who) begins = record {
      kept = kept;
      of = drains_is who;
      trail = follows.trail;
      who_is = session_is who old.fixed.script kept.sessions (omega (arith, can.more));
      comes = ap (λ ph. goes_on ph begins) can.free;
      placeless = refl;
      handless = refl;
      owes = record { drains = λ e. omega (arith, longer, one); drained = λ some. ap (λ ph. after ph begins) can.free };
      once = ⊎_elim (λ none. omega (arith, longer, one, none)) (λ some. absurd (let h : idle ≡ draining = sym can.free ∙ was.drained some in cc)) (cases_lt (owed st old.kept who) 1);
      others = λ w other. let none : ◌≡◌ {A = ℕ} (cond (who == w) 1 0) 0 = ap {B = ℕ} (λ b. cond b 1 0) other in omega (arith, drains_more w who st.drains, none);
      more = λ e. omega (arith, can.next, can.more);
    } in
    let is : new ≡ drained_view first now old who (events.Drains who) begins new.next new.on new.ops new.cached = view_is new (drained_view first now old who (events.Drains who) begins new.next new.on new.ops new.cached) fixed same_drive refl history replies
    (adds.acks ∙ ap (λ d. old.acks ++ acks_for (drive.commands d) (events.Drains who ∷ [])) same_drive) adds.events marks same_kept refl refl refl in
    subst (λ (v : View D). IsInOrder drive v) (sym is) (draining_keeps first now old who (events.Drains who) begins c new.next new.on new.ops new.cached (stand_by old new (events.Drains who ∷ []) follows adds.events) cache)

-- ---- each answer

-- nobody waits for the next place
rests_here : {D : Type 0} (drive : Ghosts D) (old : View D) → IsInOrder drive old → is_waiting (after_all old.events) (length old.history) ≡ false
rests_here drive old kept = false_from_ne_true (is_waiting (after_all old.events) (length old.history))
    (λ waits. omega (arith, kept.count, slice_get_within old.replies (length old.history) None (kept.orderly.waiting.waits (length old.history) waits)))

-- the blocks that are kept then were read
cached_on : {D : Type 0} (drive : Ghosts D) (old new : View D) (who nth : ℕ) (answer : Submitted) → IsInOrder drive old
    → (s : Submits (seen drive old.fixed.first) (seen drive new.drive) old new who nth answer) → IsCache (old.events ++ s.added) new.cached
cached_on drive old new who nth answer kept s =
    submits_stay answer (standing (given old (seen drive old.fixed.first)) old.on old.history (length old.history)) old.events s.added old.cached new.cached (call_of old who nth) kept.orderly.cached s.asks

-- each submission keeps the order
pub submissions_keep : {D : Type 0} (drive : Ghosts D) → SubmissionsKeepOrder drive
submissions_keep drive old new who nth (submitted.Ready reply) kept can s side =
    places_one drive old new who nth (fate_for reply) (Some reply) s.added (places (length old.history) ∷ hands (length old.history) reply ∷ []) kept can s.fixed s.drive s.kept s.placing s.adds s.of_it s.marks (handed_too reply)
    (λ none. absurd (let h : Some reply ≡ None = none in cc)) side.moment side.follows side.answered.0 side.answered.1 side.answered.2
    (cached_on drive old new who nth (submitted.Ready reply) kept s)
submissions_keep drive old new who nth (submitted.Wait ticket) kept can s side =
    places_one drive old new who nth fates.Done None s.added (places (length old.history) ∷ []) kept can s.fixed s.drive s.kept s.placing.1 s.adds s.of_it.1
    (s.marks ∙ ap (λ n. old.marks ++ mark who (places n) ∷ []) s.placing.0) placed_alone (λ none. refl) side.moment side.follows side.answered refl
    (sym (unanswered_waits (length old.history) old.events (call_of old who nth) s.added (rests_here drive old kept)
    (ap (λ (s : State). is_waiting s (length old.history)) (sym (after_more old.events s.added) ∙ ap after_all (sym s.adds.events)) ∙ side.answered) s.of_it.1))
    (cached_on drive old new who nth (submitted.Wait ticket) kept s)
submissions_keep drive old new who nth submitted.Drain kept can s side =
    drains_one drive old new who nth kept can s.fixed s.drive s.kept s.placing.history s.placing.replies (subst (Adds (seen drive new.drive) old new) s.of_it s.adds) s.marks (subst (MayFollow old new) s.of_it side.follows)
    (subst (λ (es : List Event). IsCache (old.events ++ es) new.cached) s.of_it (cached_on drive old new who nth submitted.Drain kept s))
