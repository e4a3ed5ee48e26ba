-- Worked moments that the definitions accept, and moments that are damaged in one way.
use Rattle.std.specs.Prelude.{◌≡◌, ◌≢◌, ◌==◌, ◌≤◌, ◌++◌, ℕ, zero, suc, Bool, true, false, cond, All, Contains, List, [], ◌∷◌, filter_map, fold, length, map, Option, Some, None, slice_get}
use Rattle.std.specs.List.{cons_option, range_with_len}
use Rattle.std.proofs.Common.{refl, arith, sym, ap, ⊎_elim, inl, true≢false, subst}
use Rattle.std.proofs.lemmas.Option.{same_Some}
use Rattle.tape_types.specs.Counts.{IsRise}
use Rattle.tape_types.specs.declared.cartridges.Twin.{Twin}
use Rattle.tape_types.specs.declared.moments.Moment.{Moment}
use Rattle.plain_tree.specs.declared.calls.Fate.TheVariants as fates
use Rattle.plain_tree.specs.declared.calls.Placed.{Placed}
use Rattle.session_script.specs.Bounds.{most_sessions}
use Rattle.session_script.specs.declared.logs.Event.TheVariants.{Drains, Rests, Synced, Syncs, Wants, Worked}
use Rattle.session_script.specs.declared.logs.Reply.{Reply}
use Rattle.head_queue.specs.EventLaws.Rows.{dp, queues, twin}
use Rattle.head_queue.specs.EventLaws.Trail.{after_all}
use Rattle.tape_types.specs.declared.cartridges.Limits.{Limits}
use Rattle.tape_layout.specs.declared.ops.Op.TheVariants.{Flush}
use Rattle.promises.specs.ServingPromise.Faults.{kept_for, told_at}
use Rattle.promises.specs.ServingPromise.Served.{IsOrderly}
use Rattle.promises.specs.OrderLaws.Phases.{is_course}
use Rattle.session_script.specs.declared.scripts.ScriptLine.{ScriptLine}
use Rattle.promises.specs.ServingPromise.Marks.{after, draining, hand_in, idle, mark, place_in}
use Rattle.promises.specs.declared.serving_promise.marks.MarkKind.{MarkKind}
use Rattle.promises.specs.declared.serving_promise.marks.MarkKind.TheVariants.{Places as places, Hands as hands, Begins as begins, Rests as rests}
use Rattle.promises.specs.declared.serving_promise.marks.Mark.{Mark}
use Rattle.promises.specs.ServingPromise.Served.{View}
use Rattle.promises.specs.ServingPromise.Steps.{IsDrained}
use Rattle.promises.proofs.ServingPromise.CacheLaws.{none_yet}
use Rattle.promises.specs.ServingPromise.Trials.{ack, done, fault, placed, synced, write}
use Rattle.promises.specs.ServingPromise.Turning.{after_flush, before_flush, draining_view, drive_at, faulted, handed_marks}
use Rattle.promises.specs.declared.serving_promise.answers.Drained.TheVariants as drained
use Rattle.promises.specs.declared.serving_promise.answers.Submitted.TheVariants as submitted
use Rattle.promises.specs.OrderLaws.Rows.{IsKept, IsOrdered, at_once, fails, flushed, served, session_drains, smaller, sync_stands, telling, to_flush, with_acks, with_events, with_history, with_marks, with_ops, with_replies, without_reply}
use Rattle.promises.specs.OrderLaws.Sides.{HasOneMoment, IsAnswered, IsBrought, IsReplied, MayFollow, MovesOn, TurnsInOrder}

synced_then : (at : Moment) (k : ℕ) (reply : Option Reply) → slice_get (before_flush at).replies k ≡ Some None → slice_get (after_flush at 34 handed_marks (Some 3)).replies k ≡ Some reply
    → IsBrought (to_flush at) flushed k reply
synced_then at zero reply o n = absurd (cc)
synced_then at (suc zero) reply o n = absurd (cc)
synced_then at (suc (suc zero)) reply o n = subst (IsBrought (to_flush at) flushed 2) (same_Some (Some synced) reply n) (record { waits = refl; fault = refl; synced = refl })
synced_then at (suc (suc (suc k))) reply o n = absurd (cc)

-- a flush that is done, and the sync's answer behind it, are a turn in order
pub flush_is : (at : Moment) → TurnsInOrder (drive_at 33 (Some (dp 11))) (drive_at 34 (Some (dp 11))) (before_flush at) (after_flush at 34 handed_marks (Some 3)) flushed
flush_is at = record {
  follows = record { trail = refl; standing = refl };
  replied = synced_then at;
  moves = record { rises = λ k d less. absurd (omega (arith, less)); limits = refl; untold = λ e. e };
}

-- a sync's answer before its flush may not follow
pub before_flush_isnt : (at : Moment) → ¬ MayFollow (before_flush at) (after_flush at 34 handed_marks (Some 3)) (Synced 2 ∷ Worked (dp 11) None ∷ [])
before_flush_isnt at m = true≢false (sym m.trail)

-- after its flush a sync isn't replied to with another answer
pub other_reply_isnt : (at : Moment) → ¬ IsReplied (to_flush at) flushed 2 done
other_reply_isnt at r = true≢false (sym r.synced)

-- after its flush a sync isn't left without a reply
pub no_reply_isnt : (at : Moment) → ¬ IsBrought (to_flush at) flushed 2 None
no_reply_isnt at waits = true≢false (sym waits)

-- as long as no event comes, a sync may stay without a reply
pub waits_still_is : (at : Moment) → IsBrought (to_flush at) [] 2 None
waits_still_is at = refl

-- a sync isn't told that it is synced before its flush
pub early_reply_isnt : (at : Moment) → ¬ IsReplied (to_flush at) [] 2 synced
early_reply_isnt at r = true≢false r.waits

-- where the first op of a sync fails, the sync is told that fault
pub fault_is : IsReplied sync_stands (fails 0 1) 2 (fault 0 1)
fault_is = record { waits = refl; fault = refl; synced = refl }

-- the second number of the first fault
abbrev second : List Twin → ℕ
second [] = 0
second (t ∷ later) = t.after

-- a sync isn't told another fault than the one that happened
pub other_fault_isnt : ¬ IsReplied sync_stands (fails 0 1) 2 (fault 0 2)
other_fault_isnt r = let two : ◌≡◌ {A = ℕ} 2 1 = ap second r.fault in absurd (omega (arith, two))

-- a sync whose op failed isn't told that it is synced
pub synced_though_failed_isnt : ¬ IsReplied sync_stands (fails 0 1) 2 synced
synced_though_failed_isnt r = true≢false r.synced

-- the fault of a session's drain isn't told to a place
pub fault_of_nobody_isnt : ¬ IsReplied session_drains (fails 0 1) 2 (fault 0 1)
fault_of_nobody_isnt r = let one : ◌≡◌ {A = ℕ} 1 0 = ap second r.fault in absurd (omega (arith, one))

one_rise : (before now : ℕ) (t : Twin) → IsRise before now t.before t.after → All (λ (t : Twin). IsRise before now t.before t.after) (t ∷ [])
one_rise before now t rise zero d less = rise
one_rise before now t rise (suc k) d less = absurd (omega (arith, less))

-- a fault moves a drive on whose count rose by it
pub rise_is : MovesOn (drive_at 30 None) (faulted 1 (drive_at 31 None)) (fails 0 1)
rise_is = record { rises = one_rise 0 1 (twin 0 1) (record { lowest = omega arith; rose = omega arith; highest = omega arith }); limits = refl; untold = λ e. e }

-- a fault whose two numbers are equal doesn't move a drive on
pub no_rise_isnt : ¬ MovesOn (drive_at 30 None) (faulted 1 (drive_at 31 None)) (fails 1 1)
no_rise_isnt m = absurd (omega (arith, (m.rises 0 (twin 0 0) (omega arith)).rose))

-- a drain whose step failed doesn't go on as if it hadn't
pub lost_fault_isnt : (at : Moment) (new : View ℕ) → ¬ IsDrained (draining_view at) new 1 (Worked (dp 22) (Some (twin 0 1)) ∷ []) drained.More
lost_fault_isnt at new d = let one : ◌≡◌ {A = ℕ} 1 0 = ap second d.0 in absurd (omega (arith, one))

-- a sync that finds nothing to wait for is answered at once that it is synced
pub at_once_is : IsAnswered (after_all at_once) at_once 0 (submitted.Ready synced)
at_once_is = (refl, refl, refl)

-- such a sync isn't answered with something else
pub done_at_once_isnt : ¬ IsAnswered (after_all at_once) at_once 0 (submitted.Ready done)
done_at_once_isnt a = true≢false (sym a.2)

-- such a sync isn't answered with a fault
pub fault_at_once_isnt : ¬ IsAnswered (after_all at_once) at_once 0 (submitted.Ready (fault 0 1))
fault_at_once_isnt a = let none : Some (twin 0 1) ≡ None = a.1 in cc

-- such a sync isn't given a ticket
pub waits_isnt : ¬ IsAnswered (after_all at_once) at_once 0 (submitted.Wait 0)
waits_isnt a = true≢false (sym a)

-- a sync whose ops stand isn't answered at once
pub ready_while_waiting_isnt : ¬ IsAnswered sync_stands [] 2 (submitted.Ready done)
ready_while_waiting_isnt a = true≢false a.0

-- a clock that always gives the one moment gives it next
pub moment_is : (at : Moment) → HasOneMoment (before_flush at)
moment_is at = refl

-- ---- a volume that is served in order

one_only : {X : Type 0} (P : X → Type 0) (x : X) → P x → All P (x ∷ [])
one_only P x h zero d less = h
one_only P x h (suc k) d less = absurd (omega (arith, less))

two_only : {X : Type 0} (P : X → Type 0) (x y : X) → P x → P y → All P (x ∷ y ∷ [])
two_only P x y h g zero d less = h
two_only P x y h g (suc zero) d less = g
two_only P x y h g (suc (suc k)) d less = absurd (omega (arith, less))

none_at : (k : ℕ) → slice_get (Some done ∷ []) k ≡ Some None → ⊥
none_at zero e = cc
none_at (suc k) e = cc

numbers : (at : Moment) (b : Bool) → map (λ (p : Placed). p.nth) (cond b (placed at 1 0 fates.Done ∷ []) []) ≡ range_with_len 0 (length (map (λ (p : Placed). p.nth) (cond b (placed at 1 0 fates.Done ∷ []) [])))
numbers at true = refl
numbers at false = refl

within_calls : (at : Moment) (b : Bool) → length (map (λ (p : Placed). p.nth) (cond b (placed at 1 0 fates.Done ∷ []) [])) ≤ length (map (λ (l : ScriptLine). l.call) (cond b (record { who = 1; call = write [] } ∷ []) []))
within_calls at true = omega arith
within_calls at false = omega arith

told_nothing : (at : Moment) (k : ℕ) → told_at (placed at 1 0 fates.Done ∷ []) (Some done ∷ []) k ≡ []
told_nothing at zero = refl
told_nothing at (suc k) = refl

told_none : (b : Bool) → cons_option (cond b None None) [] ++ kept_for 0 [] ≡ []
told_none true = refl
told_none false = refl

-- the marks of the one session, where it is the one that is asked about
one_place : (b : Bool) → filter_map place_in (map (λ (m : Mark). m.kind) (cond b (mark 1 (places 0) ∷ []) [])) ≡ cons_option (cond b (Some 0) None) []
one_place true = refl
one_place false = refl

no_hand : (b : Bool) (k : ℕ) (reply : Reply) → Contains (filter_map hand_in (map (λ (m : Mark). m.kind) (cond b (mark 1 (places 0) ∷ []) []))) (k, reply) → ⊥
no_hand true k reply has = omega (arith, has.1)
no_hand false k reply has = omega (arith, has.1)

never_drains : (b : Bool) → fold after idle (map (λ (m : Mark). m.kind) (cond b (mark 1 (places 0) ∷ []) [])) ≡ draining → ⊥
never_drains true e = cc
never_drains false e = cc

-- the kinds of two marks
kinds_of_two : Bool → List MarkKind
kinds_of_two b = map (λ (m : Mark). m.kind) (cond b (mark 1 (places 0) ∷ cond b (mark 1 (hands 0 done) ∷ []) []) (cond b (mark 1 (hands 0 done) ∷ []) []))

two_place : (b : Bool) → filter_map place_in (kinds_of_two b) ≡ cons_option (cond b (Some 0) None) []
unfolding kinds_of_two
two_place true = refl
two_place false = refl

two_hand : (b : Bool) (k : ℕ) (reply : Reply) → Contains (filter_map hand_in (kinds_of_two b)) (k, reply) → slice_get (Some done ∷ []) k ≡ Some (Some reply)
unfolding kinds_of_two
two_hand true k reply (zero, less, is) = subst (λ (e : ℕ × Reply). slice_get (Some done ∷ []) e.0 ≡ Some (Some e.1)) is refl
two_hand true k reply (suc n, less, is) = absurd (omega (arith, less))
two_hand false k reply has = absurd (omega (arith, has.1))

two_rest : (b : Bool) → fold after idle (kinds_of_two b) ≡ draining → ⊥
unfolding kinds_of_two
two_rest true e = cc
two_rest false e = cc

two_go_on : (b : Bool) → is_course (kinds_of_two b) ≡ true
unfolding kinds_of_two
two_go_on true = refl
two_go_on false = refl

-- a volume with one write that was placed and has its reply is kept in order
pub served_is : (at : Moment) → IsKept (served at)
unfolding kinds_of_two
served_is at = record {
  orderly = record {
    placed = record { in_order = λ who. numbers at (1 == who); within = λ who. within_calls at (1 == who) };
    moments = one_only (λ (p : Placed). p.at ≡ at) (placed at 1 0 fates.Done) refl;
    trail = refl;
    standing = refl;
    waiting = record { none_yet = λ k e. absurd (none_at k e); waits = λ k e. cc };
    syncs = refl;
    acks = record { places = refl; events = refl; rising = λ i j d less within. absurd (omega (arith, within)) };
    reached = λ ack has. absurd (omega (arith, has.1));
    faults = record { calls = λ k. told_nothing at k; sessions = λ who. told_none (1 == who); rises = omega arith };
    marks = record {
      sessions_are = two_only (λ (m : Mark). (1 ≤ m.who) × (m.who ≤ 1)) (mark 1 (places 0)) (mark 1 (hands 0 done)) (omega arith, omega arith) (omega arith, omega arith);
      places = λ who. two_place (1 == who);
      hands = λ who k reply has. two_hand (1 == who) k reply has;
      drains = λ who e. absurd (two_rest (1 == who) e);
      drained = λ who either. absurd (⊎_elim (λ e. true≢false (sym e)) (λ less. omega (arith, less)) either);
    };
    limits = refl;
    untold = λ e. e;
    cached = none_yet;
  };
  sessions = one_only (λ (l : ScriptLine). (1 ≤ l.who) × (l.who ≤ most_sessions)) (record { who = 1; call = write [] }) (omega arith, omega arith);
  count = refl;
  done = λ k p e none. absurd (none_at k none);
  apart = λ k. refl;
  rising = refl;
  commands = λ k d less. absurd (omega (arith, less));
  once = λ who. omega arith;
  more = λ who e. absurd (two_rest (1 == who) e);
  course = λ who. two_go_on (1 == who);
}

-- ---- one part is damaged

abbrev first_number : List ℕ → ℕ
first_number [] = 0
first_number (n ∷ later) = n

-- a history that begins with a session's second call is out of order
pub later_number_isnt : (at : Moment) → ¬ IsOrdered (with_history (placed at 1 1 fates.Done ∷ []) (served at))
later_number_isnt at o = let one : ◌≡◌ {A = ℕ} 1 0 = ap first_number (o.placed.in_order 1) in absurd (omega (arith, one))

-- a history with a call more than the script has is out of order
pub call_too_many_isnt : (at : Moment) → ¬ IsOrdered (with_history (placed at 1 0 fates.Done ∷ placed at 1 1 fates.Done ∷ []) (served at))
call_too_many_isnt at o = let two : 2 ≤ 1 = o.placed.within 1 in absurd (omega (arith, two))

-- a placement of a moment other than the run's one is out of order
pub other_moment_isnt : (at other : Moment) → other ≢ at → ¬ IsOrdered (with_history (placed other 1 0 fates.Done ∷ []) (served at))
other_moment_isnt at other differ o = differ (o.moments 0 (placed other 1 0 fates.Done) (omega arith))

-- a rest of a session that doesn't drain is out of order
pub rest_alone_isnt : (at : Moment) → ¬ IsOrdered (with_events (Rests 1 ∷ []) (served at))
rest_alone_isnt at o = true≢false (sym o.trail)

-- an op that stands though no event queued it is out of order
pub op_left_isnt : (at : Moment) → ¬ IsOrdered (with_ops (Flush (dp 7) ∷ []) (served at))
op_left_isnt at o = let one : ◌≡◌ {A = ℕ} 1 0 = ap length o.standing in absurd (omega (arith, one))

-- a place without a reply for which nothing comes is out of order
pub waits_for_nothing_isnt : (at : Moment) → ¬ IsOrdered (with_replies (None ∷ []) (served at))
waits_for_nothing_isnt at o = true≢false (sym (o.waiting.none_yet 0 refl))

-- a place with its reply that still waits for a block is out of order
pub answered_early_isnt : (at : Moment) → ¬ IsOrdered (with_events (Wants 0 (dp 7) ∷ []) (served at))
answered_early_isnt at o = let none : Some (Some done) ≡ Some None = o.waiting.waits 0 refl in cc

-- a sync that is begun and answered for a write is out of order
pub sync_of_nobody_isnt : (at : Moment) → ¬ IsOrdered (with_events (Syncs 0 ∷ Synced 0 ∷ []) (served at))
sync_of_nobody_isnt at o = let one : ◌≡◌ {A = ℕ} 1 0 = ap length o.syncs in absurd (omega (arith, one))

-- an acknowledgement of a place that no event answered is out of order
pub ack_of_nothing_isnt : (at : Moment) → ¬ IsOrdered (with_acks (ack 0 30 ∷ []) (served at))
ack_of_nothing_isnt at o = let one : ◌≡◌ {A = ℕ} 1 0 = ap length o.acks.places in absurd (omega (arith, one))

-- a reply that says synced where no event answers it is out of order
pub untold_ack_isnt : (at : Moment) → ¬ IsOrdered (with_replies (Some synced ∷ []) (served at))
untold_ack_isnt at o = let one : ◌≡◌ {A = ℕ} 0 1 = ap length o.acks.places in absurd (omega (arith, one))

-- a reply with a fault where no event failed is out of order
pub untold_fault_isnt : (at : Moment) → ¬ IsOrdered (with_replies (Some (fault 0 1) ∷ []) (served at))
untold_fault_isnt at o = let one : ◌≡◌ {A = ℕ} 1 0 = ap length (o.faults.calls 0) in absurd (omega (arith, one))

-- a drive with fewer faults than at the start is out of order
pub fewer_faults_isnt : (at : Moment) → ¬ IsOrderly (faulted 1 (drive_at 30 None)) (drive_at 30 None) (served at)
fewer_faults_isnt at o = let less : 1 ≤ 0 = o.faults.rises in absurd (omega (arith, less))

-- a placement without its mark is out of order
pub mark_missing_isnt : (at : Moment) → ¬ IsOrdered (with_marks [] (served at))
mark_missing_isnt at o = let one : ◌≡◌ {A = ℕ} 0 1 = ap length (o.marks.places 1) in absurd (omega (arith, one))

-- a mark of a session that there isn't is out of order
pub stranger_isnt : (at : Moment) → ¬ IsOrdered (with_marks (mark 1 (places 0) ∷ mark 1 (hands 0 done) ∷ mark 2 rests ∷ []) (served at))
stranger_isnt at o = let two : 2 ≤ 1 = (o.marks.sessions_are 2 (mark 2 rests) (omega arith)).1 in absurd (omega (arith, two))

-- a mark that hands out another reply than the one there is out of order
pub other_hand_isnt : (at : Moment) → ¬ IsOrdered (with_marks (mark 1 (places 0) ∷ mark 1 (hands 0 synced) ∷ []) (served at))
other_hand_isnt at o = let other : Some (Some done) ≡ Some (Some synced) = o.marks.hands 1 0 synced (0, omega arith, refl) in cc

-- a mark of a drain that no event began is out of order
pub drains_alone_isnt : (at : Moment) → ¬ IsOrdered (with_marks (mark 1 (places 0) ∷ mark 1 (hands 0 done) ∷ mark 1 begins ∷ []) (served at))
drains_alone_isnt at o = ⊎_elim (λ now. true≢false (sym now)) (λ one. let none : ◌≡◌ {A = ℕ} 0 1 = one in absurd (omega (arith, none))) (o.marks.drains 1 refl)

-- a drain that has no mark is out of order
pub drain_unmarked_isnt : (at : Moment) → ¬ IsOrdered (with_events (queues 7 65 ++ Drains 1 ∷ []) (served at))
drain_unmarked_isnt at o = let other : idle ≡ draining = o.marks.drained 1 (inl refl) in cc

-- a drive with fewer positions than at the start is out of order
pub smaller_drive_isnt : (at : Moment) → ¬ IsOrderly (drive_at 30 None) smaller (served at)
smaller_drive_isnt at o = let four : ◌≡◌ {A = ℕ} 4 64 = ap (λ (l : Limits). l.cap_ip) o.limits in absurd (omega (arith, four))

-- a drive that tells a cartridge where it told none at the start is out of order
pub told_later_isnt : (at : Moment) → ¬ IsOrderly (drive_at 30 None) telling (served at)
told_later_isnt at o = let none : telling.held ≡ None = o.untold refl in cc

-- ---- the promise alone

-- a volume whose call has no reply, neither there nor to come, is still orderly
pub orderly_is : (at : Moment) → IsOrdered (without_reply at)
orderly_is at = record {
  placed = record { in_order = λ who. numbers at (1 == who); within = λ who. within_calls at (1 == who) };
  moments = one_only (λ (p : Placed). p.at ≡ at) (placed at 1 0 fates.Done) refl;
  trail = refl;
  standing = refl;
  waiting = record { none_yet = λ k e. cc; waits = λ k e. cc };
  syncs = refl;
  acks = record { places = refl; events = refl; rising = λ i j d less within. absurd (omega (arith, within)) };
  reached = λ ack has. absurd (omega (arith, has.1));
  faults = record { calls = λ k. refl; sessions = λ who. refl; rises = omega arith };
  marks = record {
    sessions_are = one_only (λ (m : Mark). (1 ≤ m.who) × (m.who ≤ 1)) (mark 1 (places 0)) (omega arith, omega arith);
    places = λ who. one_place (1 == who);
    hands = λ who k reply has. absurd (no_hand (1 == who) k reply has);
    drains = λ who e. absurd (never_drains (1 == who) e);
    drained = λ who either. absurd (⊎_elim (λ e. true≢false (sym e)) (λ less. omega (arith, less)) either);
  };
  limits = refl;
  untold = λ e. e;
  cached = none_yet;
}

-- such a volume isn't kept in order, which asks for a reply of each placement
pub kept_isnt : (at : Moment) → ¬ IsKept (without_reply at)
kept_isnt at kept = absurd (omega (arith, kept.count))
