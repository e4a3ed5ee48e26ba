-- Each call of a volume leaves it true.
use Rattle.std.specs.Prelude.{◌≡◌, ◌+◌, ℕ, Bool, true, false, cond, List, [], ◌∷◌, ◌++◌, map, filter_map, length, drop, Contains, Option, Some, None, IfSome, slice_get}
use Rattle.std.specs.List.{list_any}
use Rattle.std.proofs.Common.{refl, sym, ap, ◌∙◌, subst, inl, inr, arith, drop-drop}
use Rattle.std.proofs.lemmas.List.{append-nil, append_cancel_left, drop-append-le}
use Rattle.std.proofs.lemmas.List.Elements.{filter_map-append}
use Rattle.std.proofs.lemmas.List.Sums.{fold-append}
use Rattle.tape_types.specs.declared.cartridges.Twin.{Twin}
use Rattle.plain_tree.specs.Calls.{answer}
use Rattle.plain_tree.specs.History.{call_at}
use Rattle.plain_tree.specs.declared.calls.Call.{Call}
use Rattle.plain_tree.specs.declared.calls.Fate.{Fate}
use Rattle.plain_tree.specs.declared.calls.Fate.TheVariants as fates
use Rattle.plain_tree.specs.declared.calls.Placed.{Placed}
use Rattle.session_script.specs.declared.logs.Event.{Event}
use Rattle.session_script.specs.declared.logs.Event.TheVariants as events
use Rattle.session_script.specs.declared.logs.Reply.{Reply}
use Rattle.session_script.specs.declared.logs.Reply.TheVariants as replies
use Rattle.head_queue.specs.EventLaws.Trail.{IsTrail, after, after_all, of_session, owned_by}
use Rattle.head_queue.specs.EventLaws.Waiting.{start, waiting_op}
use Rattle.tape_layout.specs.declared.ops.Op.{Op}
use Rattle.tape_layout.specs.Ops.{place_of}
use Rattle.space_laws.specs.Mount.{MountFacts}
use Rattle.space_laws.specs.Space.{is_over, limit_of, need_of}
use Rattle.space_laws.specs.Standing.{Given, admitted, admitted_at, ask_of, is_on, rules, standing}
use Rattle.promises.specs.ServingPromise.Marks.{places_of}
use Rattle.promises.specs.ServingPromise.Replies.{IsReply, facts_at}
use Rattle.promises.specs.ServingPromise.Served.{Drive, IsTrue, View, given, queued}
use Rattle.promises.specs.ServingPromise.Steps.{AreOfStep, DrainsOnce, KeepsReplies, Turns, does_dp_flush, on_after}
use Rattle.promises.specs.ServingPromise.Submits.{Places, Submits, call_of, fate_for}
use Rattle.promises.specs.declared.serving_promise.answers.Drained.{Drained}
use Rattle.promises.specs.declared.serving_promise.answers.Drained.TheVariants as drained
use Rattle.promises.specs.declared.serving_promise.answers.Submitted.{Submitted}
use Rattle.promises.specs.declared.serving_promise.answers.Submitted.TheVariants as submitted
use Rattle.promises.specs.declared.serving_promise.answers.Turn.{Turn}
use Rattle.promises.specs.ReplyLaws.Laws.{DrainTurnsStayTrue, FlushesTurnPlacementOn, SubmissionsStayTrue, TurnsStayTrue}
use Rattle.promises.specs.ReplyLaws.Sides.{DrainsTruly, IsReadyHere, PlacesTruly, StepsTruly, SubmitsTruly, VoidsTruly, does_op, left_by, on_here, ops_here, standing_here}
use Rattle.promises.proofs.ReplyLaws.Happened.{done_by, none_done, step_done, steps_queue_none, trail_behind}
use Rattle.promises.proofs.ReplyLaws.Kept.{Fits, NextFits, done_within, goes_on_true, parts, stays_true, whole}
use Rattle.promises.proofs.ReplyLaws.Places.{Agree, admits, agree_always, agree_before, at_end, tree_is}
use Rattle.promises.proofs.ReplyLaws.Submitted.{submissions_do_none}

-- ---- placement that goes on

on_some : {D : Type 0} (old : View D) (added : List Event) (first : ℕ) → old.on ≡ Some first → on_after old added ≡ Some first
on_some old added first is = rw is refl

on_none : {D : Type 0} (old : View D) (added : List Event) → old.on ≡ None → on_after old added ≡ cond (list_any (does_dp_flush (waiting_op (after_all old.events))) added) (Some (length old.history)) None
on_none old added is = rw is refl

agree_once : (m : MountFacts) (count : ℕ) (b : Bool) → Agree m (cond b (Some count) None) None count
agree_once m count true = agree_before m count
agree_once m count false = agree_always m None count

agree_by : {D : Type 0} (m : MountFacts) (old : View D) (added : List Event) (o : Option ℕ) → old.on ≡ o → Agree m (on_after old added) old.on (length old.history)
agree_by m old added (Some first) is k less = ap (λ x. is_on m x k) (on_some old added first is ∙ sym is)
agree_by m old added None is k less =
    ap (λ x. is_on m x k) (on_none old added is)
    ∙ agree_once m (length old.history) (list_any (does_dp_flush (waiting_op (after_all old.events))) added) k less
    ∙ ap (λ x. is_on m x k) (sym is)

-- where placement turns on in a turn, it agrees with before over the whole history
pub agree_after : {D : Type 0} (m : MountFacts) (old : View D) (added : List Event) → Agree m (on_after old added) old.on (length old.history)
agree_after m old added = agree_by m old added old.on refl

-- ---- submissions

-- a reply that is there at once fits its place
ready_fits : (g : Given) (on : Option ℕ) (history : List Placed) (p : Placed) (events : List Event) (call : Call) (reply : Reply) → p.fate ≡ fate_for reply
    → IsReadyHere g (is_on g.mounted on (length history)) (standing g on history (length history)) call p.at reply
    → IsReply (fate_for reply) (facts_at g on (history ++ p ∷ []) events (length history) p call) call reply
ready_fits g on history p events call (replies.Answer given_answer) fate ready = record {
  within = at_end (λ b st. is_over (rules g) b st.space (ask_of g st call p.at)) g on history (p ∷ []) (length history) (omega arith) ∙ ready.within;
  answered = inl (ap replies.Answer (ready.answered ∙ ap (λ t. answer t call)
      (sym (at_end (λ b st. st.tree) g on history (p ∷ []) (length history) (omega arith)) ∙ tree_is g on (history ++ p ∷ []) (length history))));
}
ready_fits g on history p events call (replies.Full need limit) fate ready = inr (inl (
  at_end (λ b st. is_over (rules g) b st.space (ask_of g st call p.at)) g on history (p ∷ []) (length history) (omega arith) ∙ ready.over,
  ap (λ n. replies.Full n limit) (ready.need_is ∙ sym (at_end (λ b st. need_of (rules g) b st.space (ask_of g st call p.at)) g on history (p ∷ []) (length history) (omega arith)))
      ∙ ap (λ n. replies.Full (facts_at g on (history ++ p ∷ []) events (length history) p call).need n)
      (ready.limit_is ∙ sym (at_end (λ b st. limit_of (rules g) b st.space (ask_of g st call p.at)) g on history (p ∷ []) (length history) (omega arith))),
))
ready_fits g on history p events call replies.NoMemory fate ready = inl refl
ready_fits g on history p events call (replies.Fault counts) fate ready = absurd ready

done_same : (before now added : List Event) → now ≡ before ++ added → list_any does_op added ≡ false → (after_all now).done ≡ (after_all before).done
done_same before now added e none = ap (λ es. (after_all es).done) e ∙ ap (λ st. st.done) (fold-append after start before added) ∙ none_done (after_all before) added none

-- a placement whose side is shown
pub places_truly : {D : Type 0} (first : Drive) (old new : View D) (who nth : ℕ) (fate : Fate) (reply : Option Reply) → IsTrue first old → new.fixed ≡ old.fixed → new.on ≡ old.on
    → new.replies ≡ old.replies ++ reply ∷ [] → (after_all new.events).done ≡ (after_all old.events).done → IfSome reply (λ r. fate ≡ fate_for r)
    → PlacesTruly first old new who nth fate reply → IsTrue first new
places_truly first old new who nth fate reply is fixed on kept done fated side =
    whole first old new old.on (old.history ++ p ∷ []) (old.events ++ side.added) (old.replies ++ reply ∷ []) new.ops fixed on side.history side.events kept refl
    (goes_on_true g old.on old.on old.history p old.events side.added old.replies reply old.ops new.ops (agree_always g.mounted old.on (length old.history)) (parts first old is) (fits reply fated side.ready)
    (side.queues ∙ ap (map place_of) (sym made_is)) stands)
  where
    g : Given
    g = given old first

    p : Placed
    p = record { who = who; nth = nth; at = side.at; fate = fate }

    made : List Op
    made = admitted_at g old.on old.history (length old.history) p

    made_is : made ≡ ops_here g (on_here first old) (standing_here first old) fate (Some side.call) side.at
    made_is = admits g old.on old.history (length old.history) p ∙ ap (λ c. ops_here g (on_here first old) (standing_here first old) fate c side.at) side.is_call

    fits : (o : Option Reply) → IfSome o (λ r. fate ≡ fate_for r) → IfSome o (λ r. IsReadyHere g (on_here first old) (standing_here first old) side.call side.at r)
        → NextFits g old.on old.history p (old.events ++ side.added) o
    fits None fated ready = tt
    fits (Some r) fated ready = (
      side.call,
      side.is_call,
      subst (λ f. IsReply f (facts_at g old.on (old.history ++ p ∷ []) (old.events ++ side.added) (length old.history) p side.call) side.call r) (sym fated)
          (ready_fits g old.on old.history p (old.events ++ side.added) side.call r fated ready),
    )

    before : ℕ
    before = (after_all old.events).done

    stands : new.ops ≡ drop (after_all (old.events ++ side.added)).done (admitted g old.on old.history ++ made)
    stands =
        side.ops ∙ ap (λ xs. xs ++ ops_here g (on_here first old) (standing_here first old) fate (Some side.call) side.at) is.standing
        ∙ ap (λ xs. drop before (admitted g old.on old.history) ++ xs) (sym made_is)
        ∙ sym (drop-append-le before (admitted g old.on old.history) made (done_within g old.on old.history old.events is.ops))
        ∙ ap (λ n. drop n (admitted g old.on old.history ++ made)) (sym (ap (λ es. (after_all es).done) (sym side.events) ∙ done))

none_came : (kept : List (Option Reply)) (k : ℕ) (reply : Reply) → slice_get kept k ≡ Some None → slice_get kept k ≡ Some (Some reply) → ⊥
none_came kept k reply e f = differ (sym e ∙ f)
  where
    differ : Some None ≡ Some (Some reply) → ⊥
    differ e = cc

-- a session that drains, and nothing is placed
drains_truly : {D : Type 0} (first : Drive) (old new : View D) (added : List Event) → IsTrue first old → new.fixed ≡ old.fixed → new.on ≡ old.on → new.history ≡ old.history → new.replies ≡ old.replies
    → new.events ≡ old.events ++ added → list_any does_op added ≡ false → filter_map queued added ≡ [] → new.ops ≡ old.ops → IsTrue first new
drains_truly first old new added is fixed on history kept is_events none queues stand =
    whole first old new old.on old.history (old.events ++ added) old.replies old.ops fixed on history is_events kept stand
    (stays_true (given old first) old.on old.on old.history old.events added old.replies old.replies old.ops old.ops (agree_always (given old first).mounted old.on (length old.history)) (parts first old is)
    (record { count = refl; stays = λ k reply e. e; came = λ k p reply at e f. absurd (none_came old.replies k reply e f) }) queues
    (is.standing ∙ ap (λ n. drop n (admitted (given old first) old.on old.history)) (sym (done_same old.events (old.events ++ added) added refl none))))

-- a submission that tells the truth leaves the volume true
pub of_answer : {D : Type 0} (first now : Drive) (old new : View D) (who nth : ℕ) (answer : Submitted) → IsTrue first old → Submits first now old new who nth answer → SubmitsTruly first old new who nth answer → IsTrue first new
of_answer first now old new who nth (submitted.Ready reply) is s side =
    places_truly first old new who nth (fate_for reply) (Some reply) is s.fixed s.on s.placing.replies
    (done_same old.events new.events s.added s.adds.events (submissions_do_none who (length old.history) old.events (call_of old who nth) (submitted.Ready reply) s.added s.of_it)) refl side
of_answer first now old new who nth (submitted.Wait ticket) is s side =
    places_truly first old new who nth fates.Done None is s.fixed s.on s.placing.1.replies
    (done_same old.events new.events s.added s.adds.events (submissions_do_none who (length old.history) old.events (call_of old who nth) (submitted.Wait ticket) s.added s.of_it)) tt side
of_answer first now old new who nth submitted.Drain is s side =
    drains_truly first old new s.added is s.fixed s.on s.placing.history s.placing.replies s.adds.events
    (submissions_do_none who (length old.history) old.events (call_of old who nth) submitted.Drain s.added s.of_it) (ap (filter_map queued) s.of_it) side

-- each submission of a volume leaves it true
pub submissions_stay_true : {D : Type 0} (seen : D → Drive) → SubmissionsStayTrue seen
submissions_stay_true seen first now old new who nth answer is s side = of_answer (seen first) (seen now) old new who nth answer is s side

-- ---- steps

left_is : (b : Bool) (stand : List Op) → cond b (drop 1 stand) stand ≡ drop (cond b 1 0) stand
left_is true stand = refl
left_is false stand = refl

-- what a step does of the ops that stand
step_left : (old made rest added : List Event) (events : List Event) (stand left all : List Op) → events ≡ old ++ (made ++ rest) → events ≡ old ++ added → AreOfStep made → list_any does_op rest ≡ false → IsTrail events
    → stand ≡ drop (after_all old).done all → left ≡ left_by added stand → left ≡ drop (after_all (old ++ (made ++ rest))).done all
step_left old made rest added events stand left all e f shape none trail stands is =
    let same : added ≡ made ++ rest = append_cancel_left old added (made ++ rest) (sym f ∙ e) in
    let in_trail = trail_behind old (made ++ rest) (subst IsTrail e trail) in
    let count : (after_all (old ++ (made ++ rest))).done ≡ (after_all old).done + done_by (made ++ rest) =
    ap (λ st. st.done) (fold-append after start old (made ++ rest)) ∙ step_done (after_all old) made rest shape none in_trail in
    is ∙ ap (λ es. left_by es stand) same ∙ left_is (list_any does_op (made ++ rest)) stand ∙ ap (drop (done_by (made ++ rest))) stands
    ∙ drop-drop (done_by (made ++ rest)) (after_all old).done all ∙ ap (λ n. drop n all) (sym count)

-- a step that places nothing
step_truly : {D : Type 0} (first : Drive) (old new : View D) (made rest : List Event) → IsTrue first old → new.fixed ≡ old.fixed → new.history ≡ old.history → new.events ≡ old.events ++ (made ++ rest)
    → new.on ≡ on_after old made → AreOfStep made → list_any does_op rest ≡ false → filter_map queued rest ≡ [] → IsTrail new.events → KeepsReplies old new → StepsTruly first old new → IsTrue first new
step_truly first old new made rest is fixed history is_events on shape none queues trail kept side =
    whole first old new (on_after old made) old.history (old.events ++ (made ++ rest)) new.replies new.ops fixed on history is_events refl refl
    (stays_true (given old first) (on_after old made) old.on old.history old.events (made ++ rest) old.replies new.replies old.ops new.ops (agree_after (given old first).mounted old made) (parts first old is)
    (record {
      count = kept.count;
      stays = kept.each;
      came = λ k p reply at was there. subst (λ es. Fits (given old first) old.on old.history es k p reply) is_events (side.came k p reply at was there);
    })
    (filter_map-append queued made rest ∙ ap (λ ps. ps ++ filter_map queued rest) (steps_queue_none made shape) ∙ queues)
    (step_left old.events made rest side.added new.events old.ops new.ops (admitted (given old first) old.on old.history) is_events side.events shape none trail is.standing side.ops))

-- a turn whose steps are true leaves the volume true
pub turn_truly : {D : Type 0} (most : ℕ) (first before now : Drive) (old new : View D) (who ticket : ℕ) (answer : Turn) → IsTrue first old → Turns most before now old new who ticket answer → IsTrail new.events
    → StepsTruly first old new → IsTrue first new
turn_truly most first before now old new who ticket answer is t trail side =
    step_truly first old new t.added [] is t.fixed t.history (t.adds.events ∙ ap (λ es. old.events ++ es) (sym (append-nil t.added))) t.step.on t.step.shape refl refl trail t.replies side

-- each turn of a session that waits leaves the volume true
pub turns_stay_true : {D : Type 0} (seen : D → Drive) → TurnsStayTrue seen
turns_stay_true seen most first before now old new who ticket answer is t trail side = turn_truly most (seen first) (seen before) (seen now) old new who ticket answer is t trail side

-- a step of a session that drains, and its write is placed void
voids_truly : {D : Type 0} (first : Drive) (old new : View D) (who : ℕ) (counts : Twin) (made rest : List Event) → IsTrue first old → new.fixed ≡ old.fixed → new.events ≡ old.events ++ (made ++ rest)
    → new.on ≡ on_after old made → AreOfStep made → list_any does_op rest ≡ false → filter_map queued rest ≡ [] → IsTrail new.events
    → Places old new who (length (places_of who old.marks)) fates.Void (Some (replies.Fault counts)) → VoidsTruly first old new who counts → IsTrue first new
voids_truly first old new who counts made rest is fixed is_events on shape none queues trail pl side =
    whole first old new (on_after old made) (old.history ++ p ∷ []) (old.events ++ (made ++ rest)) (old.replies ++ Some (replies.Fault counts) ∷ []) new.ops fixed on pl.history is_events pl.replies refl
    (goes_on_true g (on_after old made) old.on old.history p old.events (made ++ rest) old.replies (Some (replies.Fault counts)) old.ops new.ops (agree_after g.mounted old made) (parts first old is) (
      side.call,
      is_call,
      subst (λ f. IsReply f (facts_at g (on_after old made) (old.history ++ p ∷ []) (old.events ++ (made ++ rest)) (length old.history) p side.call) side.call (replies.Fault counts)) (sym pl.fate_is)
          (inr (inr (side.writes, (counts, owned, refl)))),
    )
    (filter_map-append queued made rest ∙ ap (λ ps. ps ++ filter_map queued rest) (steps_queue_none made shape) ∙ queues ∙ ap (map place_of) (sym nothing_made))
    (step_left old.events made rest side.added new.events old.ops new.ops (admitted g old.on old.history ++ admitted_at g (on_after old made) old.history (length old.history) p) is_events side.events shape none trail
    (is.standing ∙ ap (drop (after_all old.events).done) (sym (append-nil (admitted g old.on old.history)) ∙ ap (λ ops. admitted g old.on old.history ++ ops) (sym nothing_made))) side.ops))
  where
    g : Given
    g = given old first

    p : Placed
    p = pl.placed

    nothing_made : admitted_at g (on_after old made) old.history (length old.history) p ≡ []
    nothing_made =
        admits g (on_after old made) old.history (length old.history) p
        ∙ ap (λ f. ops_here g (is_on g.mounted (on_after old made) (length old.history)) (standing g (on_after old made) old.history (length old.history)) f (call_at g.calls p) p.at) pl.fate_is

    is_call : call_at g.calls p ≡ Some side.call
    is_call = ap (λ w. slice_get (g.calls w) p.nth) pl.who_is ∙ ap (λ n. slice_get (g.calls who) n) pl.nth_is ∙ side.is_call

    owned : Contains (owned_by (of_session p.who) (old.events ++ (made ++ rest))) counts
    owned = subst (λ w. Contains (owned_by (of_session w) (old.events ++ (made ++ rest))) counts) (sym pl.who_is) (subst (λ es. Contains (owned_by (of_session who) es) counts) is_events side.owned)

-- a turn of a drain that tells the truth leaves the volume true
pub of_drained : {D : Type 0} (most : ℕ) (first before now : Drive) (old new : View D) (who : ℕ) (answer : Drained) → IsTrue first old → DrainsOnce most before now old new who answer → IsTrail new.events
    → DrainsTruly first old new who answer → IsTrue first new
of_drained most first before now old new who (drained.Fault counts) is d trail side =
    voids_truly first old new who counts d.made [] is d.fixed d.adds.events d.step.on d.step.shape refl refl trail d.answered.1 side
of_drained most first before now old new who drained.Room is d trail side =
    step_truly first old new d.made (events.Rests who ∷ []) is d.fixed d.answered.2.history d.adds.events d.step.on d.step.shape refl refl trail d.answered.2.replies side
of_drained most first before now old new who drained.More is d trail side =
    step_truly first old new d.made [] is d.fixed d.answered.3.history d.adds.events d.step.on d.step.shape refl refl trail d.answered.3.replies side

-- each turn of a session that drains leaves the volume true
pub drain_turns_stay_true : {D : Type 0} (seen : D → Drive) → DrainTurnsStayTrue seen
drain_turns_stay_true seen most first before now old new who answer is d trail side = of_drained most (seen first) (seen before) (seen now) old new who answer is d trail side

-- ---- placement that a flush turns on

-- a step that turns placement on leaves replies and ops as true as they were
pub flushes_turn_placement_on : {D : Type 0} (seen : D → Drive) → FlushesTurnPlacementOn seen
flushes_turn_placement_on seen first old added is =
    whole (seen first) old (record old { on = on_after old added }) (on_after old added) old.history (old.events ++ []) old.replies old.ops refl refl refl (sym (append-nil old.events)) refl refl
    (stays_true (given old (seen first)) (on_after old added) old.on old.history old.events [] old.replies old.replies old.ops old.ops (agree_after (given old (seen first)).mounted old added) (parts (seen first) old is)
    (record { count = refl; stays = λ k reply e. e; came = λ k p reply at e f. absurd (none_came old.replies k reply e f) }) refl
    (is.standing ∙ ap (λ es. drop (after_all es).done (admitted (given old (seen first)) old.on old.history)) (sym (append-nil old.events))))
