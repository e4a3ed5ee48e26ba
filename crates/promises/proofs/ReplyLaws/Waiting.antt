-- Replies that are still to come can come.
use Rattle.std.specs.Prelude.{◌≡◌, ◌⊎◌, ◌<◌, ℕ, true, List, [], ◌∷◌, ◌++◌, length, take, Option, Some, None, slice_get}
use Rattle.std.proofs.Common.{refl, sym, ap, ◌∙◌, subst, inl, inr, arith}
use Rattle.std.proofs.lemmas.List.{take-append-le}
use Rattle.plain_tree.specs.Calls.{answer}
use Rattle.plain_tree.specs.declared.calls.Call.{Call}
use Rattle.plain_tree.specs.declared.calls.Fate.TheVariants as fates
use Rattle.plain_tree.specs.declared.calls.Placed.{Placed}
use Rattle.session_script.specs.declared.logs.Event.{Event}
use Rattle.session_script.specs.declared.logs.Reply.{Reply}
use Rattle.session_script.specs.declared.logs.Reply.TheVariants as replies
use Rattle.head_queue.specs.EventLaws.Trail.{IsTrail}
use Rattle.space_laws.specs.Space.{is_over}
use Rattle.space_laws.specs.Standing.{Given, ask_of, rules}
use Rattle.promises.specs.ServingPromise.Replies.{IsFaultOf, IsReply, facts_at, may_wait}
use Rattle.promises.specs.ServingPromise.Served.{Drive, View, given, given_of}
use Rattle.promises.specs.ServingPromise.Steps.{DrainsOnce, KeepsReplies, on_after}
use Rattle.promises.specs.ServingPromise.Submits.{Submits, call_of, may_wait_at}
use Rattle.promises.specs.declared.serving_promise.answers.Drained.{Drained}
use Rattle.promises.specs.declared.serving_promise.answers.Drained.TheVariants as drained
use Rattle.promises.specs.declared.serving_promise.answers.Submitted.{Submitted}
use Rattle.promises.specs.declared.serving_promise.answers.Submitted.TheVariants as submitted
use Rattle.promises.specs.ReplyLaws.Sides.{StepsTruly}
use Rattle.promises.specs.ReplyLaws.Within.{AnswersTruly, AreWithin, CanWait, DrainTurnsKeepTrue, DrainsWithin, IsAnswerAt, StayingGives, StaysTrue, SubmissionsKeepTrue, SubmitsWithin, TurnsKeepTrue}
use Rattle.promises.proofs.ReplyLaws.Kept.{Fits}
use Rattle.promises.proofs.ReplyLaws.Lists.{get_next, get_past, get_within}
use Rattle.promises.proofs.ReplyLaws.Places.{Agree, agree_always, at_end, at_place, tree_is}
use Rattle.promises.proofs.ReplyLaws.Truths.{agree_after, of_answer, of_drained, turn_truly}

-- ---- a place that can wait

-- it still can as the history goes on
can_still : (g : Given) (on off : Option ℕ) (history later : List Placed) (k : ℕ) (p : Placed) → k < length history → take k later ≡ take k history
    → Agree g.mounted on off (length history) → CanWait g off history k p → CanWait g on later k p
can_still g on off history later k p less same agree can = record {
  fate = can.fate;
  call = can.call;
  is_call = can.is_call;
  may = can.may;
  within = at_place (λ b st. is_over (rules g) b st.space (ask_of g st can.call p.at)) g on off history later k less same agree ∙ can.within;
}

-- so does each of a history that stays, where no reply goes
within_still : (g : Given) (on off : Option ℕ) (history : List Placed) (kept later : List (Option Reply)) → Agree g.mounted on off (length history) → AreWithin g off history kept
    → ((k : ℕ) → slice_get later k ≡ Some None → slice_get kept k ≡ Some None) → AreWithin g on history later
within_still g on off history kept later agree are back k p at there = can_still g on off history history k p (get_within history k p at) refl agree (are k p at (back k there))

none_some : (reply : Reply) → Some None ≡ Some (Some reply) → ⊥
none_some reply e = cc

-- each of a history that goes on by a placement
within_next : (g : Given) (on off : Option ℕ) (history : List Placed) (p : Placed) (kept : List (Option Reply)) (last : Option Reply) → length kept ≡ length history → Agree g.mounted on off (length history)
    → AreWithin g off history kept → (last ≡ None → CanWait g on (history ++ p ∷ []) (length history) p) → AreWithin g on (history ++ p ∷ []) (kept ++ last ∷ [])
within_next g on off history p kept last count agree are can k q at there = by (get_next history p k q at) (get_next kept last k None there)
  where
    by : ((k < length history) × (slice_get history k ≡ Some q)) ⊎ ((k ≡ length history) × (p ≡ q)) → ((k < length kept) × (slice_get kept k ≡ Some None)) ⊎ ((k ≡ length kept) × (last ≡ None)) → CanWait g on (history ++ p ∷ []) k q
    by (inl a) (inl b) = can_still g on off history (history ++ p ∷ []) k q a.0 (take-append-le k history (p ∷ []) (omega (arith, a.0))) agree (are k q a.1 b.1)
    by (inl a) (inr b) = absurd (omega (arith, a.0, b.0, count))
    by (inr a) (inl b) = absurd (omega (arith, a.0, b.0, count))
    by (inr a) (inr b) = subst (λ n. CanWait g on (history ++ p ∷ []) n q) (sym a.0) (subst (λ x. CanWait g on (history ++ p ∷ []) (length history) x) a.1 (can b.1))

-- ---- views

moved : {D : Type 0} (first : Drive) (old new : View D) (on : Option ℕ) (history : List Placed) (kept : List (Option Reply)) → new.fixed ≡ old.fixed → new.on ≡ on → new.history ≡ history → new.replies ≡ kept
    → AreWithin (given old first) on history kept → AreWithin (given new first) new.on new.history new.replies
moved first old new on history kept is_fixed is_on is_history is_kept are =
    let a = subst (λ g. AreWithin g on history kept) (sym (ap (λ f. given_of f.script f.tree f.mounted first) is_fixed)) are in
    let b = subst (λ o. AreWithin (given new first) o history kept) (sym is_on) a in
    let c = subst (λ h. AreWithin (given new first) new.on h kept) (sym is_history) b in
    subst (λ ks. AreWithin (given new first) new.on new.history ks) (sym is_kept) c

-- a call that is placed, and what its place is where it waits
places_within : {D : Type 0} (first : Drive) (old new : View D) (p : Placed) (last : Option Reply) → StaysTrue first old → new.fixed ≡ old.fixed → new.on ≡ old.on → new.history ≡ old.history ++ p ∷ []
    → new.replies ≡ old.replies ++ last ∷ [] → (last ≡ None → CanWait (given old first) old.on (old.history ++ p ∷ []) (length old.history) p) → AreWithin (given new first) new.on new.history new.replies
places_within first old new p last is fixed on history kept can =
    moved first old new old.on (old.history ++ p ∷ []) (old.replies ++ last ∷ []) fixed on history kept
    (within_next (given old first) old.on old.on old.history p old.replies last is.truth.replies.count (agree_always (given old first).mounted old.on (length old.history)) is.waits can)

some_waits : (reply : Reply) → Some reply ≡ None → ⊥
some_waits reply e = cc

may_wait_of : (o : Option Call) (call : Call) → o ≡ Some call → may_wait_at o ≡ true → may_wait call ≡ true
may_wait_of o call e may = ap may_wait_at (sym e) ∙ may

submitted_within : {D : Type 0} (first now : Drive) (old new : View D) (who nth : ℕ) (answered : Submitted) → StaysTrue first old → Submits first now old new who nth answered → SubmitsWithin first old new who nth answered → StaysTrue first new
submitted_within first now old new who nth (submitted.Ready reply) is s side = record {
  truth = of_answer first now old new who nth (submitted.Ready reply) is.truth s side;
  waits = places_within first old new s.placing.placed (Some reply) is s.fixed s.on s.placing.history s.placing.replies (λ e. absurd (some_waits reply e));
}
submitted_within first now old new who nth (submitted.Wait ticket) is s side = record {
  truth = of_answer first now old new who nth (submitted.Wait ticket) is.truth s side.places;
  waits = places_within first old new (record { who = who; nth = nth; at = side.places.at; fate = fates.Done }) None is s.fixed s.on side.places.history s.placing.1.replies (λ e. record {
    fate = refl;
    call = side.places.call;
    is_call = side.places.is_call;
    may = may_wait_of (call_of old who nth) side.places.call side.places.is_call s.of_it.0;
    within = at_end (λ b st. is_over (rules (given old first)) b st.space (ask_of (given old first) st side.places.call side.places.at)) (given old first) old.on old.history (record { who = who; nth = nth; at = side.places.at; fate = fates.Done } ∷ []) (length old.history) (omega arith) ∙ side.within;
  });
}
submitted_within first now old new who nth submitted.Drain is s side = record {
  truth = of_answer first now old new who nth submitted.Drain is.truth s side;
  waits = moved first old new old.on old.history old.replies s.fixed s.on s.placing.history s.placing.replies is.waits;
}

-- after a submission each reply that is still to come can come
pub submissions_keep_true : {D : Type 0} (seen : D → Drive) → SubmissionsKeepTrue seen
submissions_keep_true seen first now old new who nth answered is s side = submitted_within (seen first) (seen now) old new who nth answered is s side

-- ---- steps

-- a reply that came is one that may come at its place
answer_fits : (g : Given) (on : Option ℕ) (history : List Placed) (events : List Event) (k : ℕ) (p : Placed) (reply : Reply) (can : CanWait g on history k p) → IsAnswerAt g on history events k can.call reply
    → Fits g on history events k p reply
answer_fits g on history events k p reply can is = (
  can.call,
  can.is_call,
  subst (λ f. IsReply f (facts_at g on history events k p can.call) can.call reply) (sym can.fate) (record { within = can.within; answered = by is }),
)
  where
    by : IsAnswerAt g on history events k can.call reply → (reply ≡ replies.Answer (answer (facts_at g on history events k p can.call).tree can.call)) ⊎ ((may_wait can.call ≡ true) × IsFaultOf (facts_at g on history events k p can.call).own reply)
    by (inl e) = inl (e ∙ ap (λ t. replies.Answer (answer t can.call)) (tree_is g on history k))
    by (inr f) = inr (can.may, f)

steps_by : {D : Type 0} (first : Drive) (old new : View D) → StaysTrue first old → AnswersTruly first old new → StepsTruly first old new
steps_by first old new is side = record {
  came = λ k p reply at was there. (
      let can = is.waits k p at was in
      answer_fits (given old first) old.on old.history new.events k p reply can (side.came k p can.call reply at can.is_call was there));
  added = side.added;
  events = side.events;
  ops = side.ops;
}

no_reply_goes : {D : Type 0} (old new : View D) → KeepsReplies old new → (k : ℕ) → slice_get new.replies k ≡ Some None → slice_get old.replies k ≡ Some None
no_reply_goes old new keeps k there = by (slice_get old.replies k) refl
  where
    by : (o : Option (Option Reply)) → slice_get old.replies k ≡ o → slice_get old.replies k ≡ Some None
    by None was = absurd (omega (arith, get_within new.replies k None there, keeps.count, get_past old.replies k was))
    by (Some None) was = was
    by (Some (Some reply)) was = absurd (none_some reply (sym there ∙ keeps.each k reply was))

step_within : {D : Type 0} (first : Drive) (old new : View D) (made : List Event) → StaysTrue first old → new.fixed ≡ old.fixed → new.on ≡ on_after old made → new.history ≡ old.history → KeepsReplies old new
    → AreWithin (given new first) new.on new.history new.replies
step_within first old new made is fixed on history keeps =
    moved first old new (on_after old made) old.history new.replies fixed on history refl
    (within_still (given old first) (on_after old made) old.on old.history old.replies new.replies (agree_after (given old first).mounted old made) is.waits (no_reply_goes old new keeps))

-- after a turn of a session that waits each reply that is still to come can come
pub turns_keep_true : {D : Type 0} (seen : D → Drive) → TurnsKeepTrue seen
turns_keep_true seen most first before now old new who ticket turned is t trail side = record {
  truth = turn_truly most (seen first) (seen before) (seen now) old new who ticket turned is.truth t trail (steps_by (seen first) old new is side);
  waits = step_within (seen first) old new t.added is t.fixed t.step.on t.history t.replies;
}

drained_within : {D : Type 0} (most : ℕ) (first before now : Drive) (old new : View D) (who : ℕ) (ended : Drained) → StaysTrue first old → DrainsOnce most before now old new who ended → IsTrail new.events
    → DrainsWithin first old new who ended → StaysTrue first new
drained_within most first before now old new who (drained.Fault counts) is d trail side = record {
  truth = of_drained most first before now old new who (drained.Fault counts) is.truth d trail side;
  waits = moved first old new (on_after old d.made) (old.history ++ d.answered.1.placed ∷ []) (old.replies ++ Some (replies.Fault counts) ∷ []) d.fixed d.step.on d.answered.1.history d.answered.1.replies
      (within_next (given old first) (on_after old d.made) old.on old.history d.answered.1.placed old.replies (Some (replies.Fault counts)) is.truth.replies.count (agree_after (given old first).mounted old d.made) is.waits (λ e. absurd (some_waits (replies.Fault counts) e)));
}
drained_within most first before now old new who drained.Room is d trail side = record {
  truth = of_drained most first before now old new who drained.Room is.truth d trail (steps_by first old new is side);
  waits = step_within first old new d.made is d.fixed d.step.on d.answered.2.history d.answered.2.replies;
}
drained_within most first before now old new who drained.More is d trail side = record {
  truth = of_drained most first before now old new who drained.More is.truth d trail (steps_by first old new is side);
  waits = step_within first old new d.made is d.fixed d.step.on d.answered.3.history d.answered.3.replies;
}

-- after a turn of a session that drains each reply that is still to come can come
pub drain_turns_keep_true : {D : Type 0} (seen : D → Drive) → DrainTurnsKeepTrue seen
drain_turns_keep_true seen most first before now old new who ended is d trail side = drained_within most (seen first) (seen before) (seen now) old new who ended is d trail side

-- ---- what it gives

nothing_waits : (history : List Placed) (k : ℕ) (p : Placed) → history ≡ [] → slice_get history k ≡ Some p → ⊥
nothing_waits history k p none at = omega (arith, get_within history k p at, ap length none)

-- a volume that stays true is true, and one that begins stays so
pub staying_gives : {D : Type 0} (seen : D → Drive) → StayingGives seen
staying_gives seen = record {
  gives = λ first v is. is.truth;
  begins = λ first v none is. record { truth = is; waits = λ k p at there. absurd (nothing_waits v.history k p none at) };
}
