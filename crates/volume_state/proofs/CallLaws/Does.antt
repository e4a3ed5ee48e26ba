-- A step that did the first op.
use Rattle.std.specs.Prelude.{◌≡◌, ◌⊎◌, ◌||◌, ℕ, ◌<◌, Bool, true, false, cond, drop, suc, List, [], ◌∷◌, ◌++◌, All, fold, length, map, Option, Some, None, IfSome, slice_get}
use Rattle.std.specs.List.{list_all, list_any}
use Rattle.std.proofs.Common.{inl, inr, refl, sym, ap, subst, ◌∙◌, arith, append-nil}
use Rattle.std.proofs.lemmas.Bool.{both_ways, cases_Bool}
use Rattle.std.proofs.lemmas.List.Elements.{All-cons}
use Rattle.std.proofs.lemmas.Option.{same_Some, slice_get_within}
use Rattle.tape_types.specs.Cartridges.{next}
use Rattle.tape_types.specs.Counts.{IsRise}
use Rattle.tape_types.specs.declared.cartridges.Cartridge.{Cartridge}
use Rattle.tape_types.specs.declared.cartridges.Part.TheVariants.{Dp}
use Rattle.tape_types.specs.declared.cartridges.Place.{Place}
use Rattle.tape_types.specs.declared.moments.Moment.{Moment}
use Rattle.tape_drive.specs.Commands.{item_at}
use Rattle.tape_drive.specs.declared.drive.Drive.{Ghosts}
use Rattle.plain_tree.specs.Calls.{answer}
use Rattle.plain_tree.specs.History.{call_at}
use Rattle.plain_tree.specs.declared.calls.Call.{Call}
use Rattle.plain_tree.specs.declared.calls.Call.TheVariants.{Sync}
use Rattle.plain_tree.specs.declared.calls.Placed.{Placed}
use Rattle.session_script.specs.declared.logs.Event.{Event}
use Rattle.session_script.specs.declared.logs.Event.TheVariants.{Synced, Worked}
use Rattle.session_script.specs.declared.logs.Reply.{Reply}
use Rattle.session_script.specs.declared.logs.Reply.TheVariants as the_replies
use Rattle.head_core.specs.Steps.{most_commands}
use Rattle.head_core.specs.declared.work.StepDone.{StepDone}
use Rattle.head_queue.specs.EventLaws.Trail.{IsTrail, after, after_all, is_trail_from, of_call, steps}
use Rattle.head_queue.specs.EventLaws.Waiting as waiting
use Rattle.head_queue.specs.EventLaws.Waiting.{State, first_of, waiting_op}
use Rattle.tape_layout.specs.Ops.{is_flush, place_of}
use Rattle.tape_layout.specs.declared.ops.Op.{Op}
use Rattle.space_laws.specs.Standing.{Given, Standing, is_on, standing}
use Rattle.promises.specs.ServingPromise.Acks.{answers, synced_places}
use Rattle.promises.specs.ServingPromise.Served.{Fixed, View, given, headed, is_waiting}
use Rattle.promises.specs.ServingPromise.Steps.{HeadIsBehind, HeadIsRead, IsOnTape, StepsOnce, does_dp_flush, item_of, on_after, one_step}
use Rattle.promises.specs.ServingPromise.Submits.{Adds}
use Rattle.promises.specs.OrderLaws.Kept.{seen}
use Rattle.promises.specs.OrderLaws.Sides.{IsBrought, TurnsInOrder}
use Rattle.promises.proofs.OrderLaws.Apart.{still_untouched}
use Rattle.promises.proofs.OrderLaws.Frames.{is_turning, no_step_no_fault, syncs_it, wants_it, worked_stays}
use Rattle.promises.proofs.OrderLaws.Owned.{after_more}
use Rattle.promises.proofs.OrderLaws.Turning.{all_turn, answers_step, unanswered}
use Rattle.promises.proofs.CrashLaws.Stepped.{on_already, on_never, on_turned}
use Rattle.promises.proofs.CrashLaws.Trails.{rest_allowed}
use Rattle.promises.specs.ReplyLaws.Within.{AnswersTruly, IsAnswerAt}
use Rattle.promises.proofs.ReplyLaws.Happened.{trail_behind}
use Rattle.held_volume.specs.Stocks.{IsStock}
use Rattle.event_journal.specs.Trails.{due_ticket, state}
use Rattle.promises.specs.PromiseLaws.Kept.{IsKept, Plan}
use Rattle.volume_state.specs.PlanLaws.Planned.{IsOnWay, IsPlan, Items, ends_in, tape_on}
use Rattle.volume_state.proofs.PlanLaws.Plans.{plans_hold}
use Rattle.volume_state.proofs.PlanLaws.Tells.{tapes_tell}
use Rattle.volume_state.proofs.PlanLaws.Ways.{ways_go_on}
use Rattle.promises.specs.GroupLaws.Groups.{IsGrouped}
use Rattle.volume_state.specs.StateLaws.Parts.{Parts, view_of}
use Rattle.volume_state.specs.StateLaws.Stepping.{DoesOp, acks_at, all_synced, on_done, settles_dp, synced_events}
use Rattle.volume_state.specs.StateLaws.Tied.{AreFilesRight, AreReading, IsKeptRightly, IsTied}
use Rattle.volume_state.proofs.CallLaws.Uses.{cached_done, keeps_none}
use Rattle.volume_state.specs.CallLaws.StepLaws.{Stepped}
use Rattle.volume_state.proofs.CallLaws.Answered.{all_count, rests, synced, synced_else, synced_here}
use Rattle.volume_state.proofs.CallLaws.Counts.{step_counts, two_at_most}
use Rattle.volume_state.proofs.CallLaws.StepDriven.{op_behind, op_stands, was_told, was_untold}
use Rattle.volume_state.proofs.CallLaws.StepStandings.{less_stock, on_turns, on_within, same_standing, stock_done}
use Rattle.volume_state.proofs.CallLaws.States.{Leaves, answered_waits, done_leaves, first_waits, none_drained, none_owned, not_synced, of_synced, synced_answers, synced_leave, synced_tickets}
use Rattle.volume_state.proofs.CallLaws.Syncs.{syncs_at}
use Rattle.volume_state.proofs.CallLaws.Waits.{files_done, reads_done}

-- ---- small facts

none_some : (reply : Reply) → Some None ≡ Some (Some reply) → ⊥
none_some reply e = cc

head_by : (o : Option waiting.Op) (t : ℕ) (head : Option Place) → HeadIsBehind o (Synced t) head
head_by None t head = tt
head_by (Some op) t head = tt

on_tape_by : (held : Option Cartridge) (P : Cartridge → Type 0) → ((c : Cartridge) → held ≡ Some c → P c)
    → IfSome held P
on_tape_by None P h = tt
on_tape_by (Some c) P h = h c refl

no_flush : (o : Option waiting.Op) (tickets : List ℕ) → list_any (does_dp_flush o) (synced_events tickets) ≡ false
no_flush o [] = refl
no_flush None (t ∷ tickets) = no_flush None tickets
no_flush (Some op) (t ∷ tickets) = no_flush (Some op) tickets

or_none : (a b : Bool) → b ≡ false → (a || b) ≡ a
or_none true b e = refl
or_none false b e = e

-- the first op is a flush of the data partition
flushes : (o : Option waiting.Op) (op : Op) (tickets : List ℕ) → o ≡ Some (headed op)
    → list_any (does_dp_flush o) (Worked (place_of op) None ∷ synced_events tickets) ≡ settles_dp op
flushes o op tickets is =
    ap (λ (x : Option waiting.Op). list_any (does_dp_flush x) (Worked (place_of op) None ∷ synced_events tickets)) is
    ∙ or_none (settles_dp op) (list_any (does_dp_flush (Some (headed op))) (synced_events tickets)) (no_flush (Some (headed op)) tickets)

on_is : {D : Type 0} (old : View D) (op : Op) (added : List Event)
    → list_any (does_dp_flush (waiting_op (after_all old.events))) added ≡ settles_dp op
    → on_done op (length old.history) old.on ≡ on_after old added
on_is old op added is = by old.on refl
  where
    none : (b : Bool) → settles_dp op ≡ b → old.on ≡ None
        → cond (settles_dp op) (Some (length old.history)) None ≡ on_after old added
    none true s e = ap (λ b. cond b (Some (length old.history)) None) s ∙ sym (on_turned old added e (is ∙ s))
    none false s e = ap (λ b. cond b (Some (length old.history)) None) s ∙ sym (on_never old added e (is ∙ s))

    by : (on : Option ℕ) → old.on ≡ on → on_done op (length old.history) old.on ≡ on_after old added
    by (Some first) e = ap (on_done op (length old.history)) e ∙ sym (on_already old added first e)
    by None e = ap (on_done op (length old.history)) e ∙ none (settles_dp op) refl e

module _ {D : Type 0} (drive : Ghosts D) (fixed : Fixed D) (plan : Plan drive fixed) (planned : Items) (next_at : Option Moment)
    (old new : Parts D) (op : Op) (end : StepDone) (tickets : List ℕ) (kept : IsKept drive fixed plan (view_of fixed next_at old))
    (tied : IsTied drive fixed planned old) (did : DoesOp drive op end tickets old new) where
  abbrev later : List Op
  later = new.stock.layout.ops

  abbrev st : State
  st = state old.trail

  abbrev added : List Event
  added = Worked (place_of op) None ∷ synced_events tickets

  -- all that the step leaves, in the words of what there was
  abbrev now : Parts D
  now = record new {
    stock = less_stock op later old.stock;
    on = on_done op (length old.listed.history) old.on;
    trail = record new.trail {
      events = old.trail.events ++ added;
      acks = old.trail.acks ++ acks_at (drive.commands new.drive) tickets;
      kept = old.trail.kept;
    };
    listed = record new.listed {
      history = old.listed.history;
      replies = all_synced tickets old.listed.replies;
      marks = old.listed.marks;
      calls = old.listed.calls;
      sessions = old.listed.sessions;
    };
    queue = old.queue;
    reads = old.reads;
    cached = old.cached;
  }

  pub now_is : now ≡ new
  now_is = λ i. record new {
    stock = (sym did.done.stock) i;
    on = (sym did.done.on) i;
    trail = record new.trail { events = (sym did.done.events) i; acks = (sym did.done.acks) i; kept = (sym did.done.kept) i };
    listed = record new.listed {
      history = (sym did.done.listed.history) i;
      replies = (sym did.done.replies) i;
      marks = (sym did.done.listed.marks) i;
      calls = (sym did.done.listed.calls) i;
      sessions = (sym did.done.listed.sessions) i;
    };
    queue = (sym did.done.queue) i;
    reads = (sym did.done.reads) i;
    cached = (sym did.done.cached) i;
  }

  abbrev before : View D
  before = view_of fixed next_at old

  abbrev after_it : View D
  after_it = view_of fixed next_at now

  trail : is_trail_from st added ≡ true
  trail = trail_behind old.trail.events added (subst IsTrail did.done.events did.done.trail)

  standing_are : map headed (op ∷ later) ≡ waiting.ops st
  standing_are = ap (map headed) (sym did.done.first) ∙ kept.order.orderly.standing

  waits : waiting_op st ≡ Some (headed op)
  waits = first_waits st (place_of op) None (synced_events tickets) op later trail standing_are

  leaves : Leaves st (after_all (old.trail.events ++ added)) (map headed later)
  leaves = subst (λ (s : State). Leaves st s (map headed later)) (sym (after_more old.trail.events added))
      (synced_leave tickets st (after st (Worked (place_of op) None)) (map headed later)
      (subst (Leaves st (after st (Worked (place_of op) None))) (ap (drop 1) (sym standing_are)) (done_leaves st (place_of op) (headed op) waits)))

  -- ---- replies

  turns : list_all is_turning added ≡ true
  turns = all_turn added (one_step (Worked (place_of op) None) (synced_events tickets) refl (synced_answers tickets))

  keeps : (k : ℕ) (reply : Reply) → slice_get old.listed.replies k ≡ Some (Some reply)
      → slice_get (all_synced tickets old.listed.replies) k ≡ Some (Some reply)
  keeps k reply is =
      synced_else tickets old.listed.replies k
      (unanswered st added k trail turns (rests st old.listed.replies k reply kept.order.orderly.waiting is)) ∙ is

  waits_on : (k : ℕ) → is_waiting (after st (Worked (place_of op) None)) k ≡ is_waiting st k
  waits_on k =
      let stays = worked_stays st (waiting_op st) in
      ap (λ l. list_any (wants_it k) l || list_any (syncs_it k) (after st (Worked (place_of op) None)).syncs) stays.requests
      ∙ ap (λ l. list_any (wants_it k) st.requests || list_any (syncs_it k) l) stays.syncs

  answered_rests : (k : ℕ) → list_any (answers k) (synced_events tickets) ≡ true
      → is_waiting (fold after st added) k ≡ false
  answered_rests k has = by (cases_Bool (is_waiting (fold after st added) k))
    where
      by : (is_waiting (fold after st added) k ≡ true) ⊎ (is_waiting (fold after st added) k ≡ false)
          → is_waiting (fold after st added) k ≡ false
      by (inr rests) = rests
      by (inl waits) = absurd (both_ways (list_any (answers k) added)
          (still_untouched st (synced_places old.listed.replies) added k kept.order.apart kept.order.rising trail turns waits).unanswered has)

  brought : (k : ℕ) (reply : Option Reply) → slice_get old.listed.replies k ≡ Some None
      → slice_get (all_synced tickets old.listed.replies) k ≡ Some reply
      → IsBrought st added k reply
  brought k reply was is = by (cases_Bool (list_any (answers k) (synced_events tickets)))
    where
      by : (list_any (answers k) (synced_events tickets) ≡ true) ⊎ (list_any (answers k) (synced_events tickets) ≡ false) → IsBrought st added k reply
      by (inl has) = subst (IsBrought st added k)
          (same_Some (Some synced) reply (sym (synced_here tickets old.listed.replies k (slice_get_within old.listed.replies k None was) has) ∙ is))
          (record { waits = answered_rests k has; fault = sym (none_owned st (place_of op) tickets (of_call k)); synced = sym has })
      by (inr none) = subst (IsBrought st added k) (same_Some None reply (sym was ∙ sym (synced_else tickets old.listed.replies k none) ∙ is))
          (not_synced tickets (after st (Worked (place_of op) None)) k none ∙ waits_on k ∙ kept.order.orderly.waiting.none_yet k was)

  -- ---- what the step shows

  one : steps added ≡ 1
  one = ap (λ l. suc (length l)) (answers_step (synced_events tickets) (synced_answers tickets))

  adds : Adds (seen drive new.drive) before after_it added
  adds = record {
    events = refl;
    acks = ap (λ l. old.trail.acks ++ acks_at (drive.commands new.drive) l) (sym (synced_tickets tickets));
  }

  behind : is_flush op ≡ false → drive.head new.drive ≡ Some (next (place_of op))
  behind none = did.step.made.head ∙ op_behind op end (drive.head old.drive) did.well did.step.ends none

  on_tape : IsOnTape (seen drive new.drive) (first_of old.stock.layout.ops) (Worked (place_of op) None)
  on_tape = subst (λ (l : List Op). IsOnTape (seen drive new.drive) (first_of l) (Worked (place_of op) None)) (sym did.done.first)
      (on_tape_by (drive.held new.drive) (λ c. IfSome (item_of op) (λ x. item_at (place_of op) c ≡ Some x))
      (λ c held. let t = was_told drive op end old.drive new.drive did.step c held in
      op_stands op end t.0 c did.well (tapes_tell.reaches planned op later t.0 (subst (λ (l : List Op). IsOnWay planned l t.0) did.done.first (tied.way t.0 t.1))) t.2))

  tape_by : (t : ℕ) → IsOnTape (seen drive new.drive) (first_of old.stock.layout.ops) (Synced t)
  tape_by t = by (first_of old.stock.layout.ops)
    where
      by : (o : Option Op) → IsOnTape (seen drive new.drive) o (Synced t)
      by None = tt
      by (Some op) = tt

  step : StepsOnce drive.MOST (seen drive old.drive) (seen drive new.drive) before after_it added
  step = record {
    shape = one_step (Worked (place_of op) None) (synced_events tickets) refl (synced_answers tickets);
    counts = step_counts drive (place_of op) (most_commands op) end old.drive new.drive before after_it added did.step.made (two_at_most op) one;
    op_head = All-cons (λ (e : Event). HeadIsBehind (waiting_op st) e (drive.head new.drive)) (Worked (place_of op) None) (synced_events tickets)
        (subst (λ (o : Option waiting.Op). HeadIsBehind o (Worked (place_of op) None) (drive.head new.drive)) (sym waits) behind)
        (of_synced (λ (e : Event). HeadIsBehind (waiting_op st) e (drive.head new.drive)) (λ t. head_by (waiting_op st) t (drive.head new.drive)) tickets);
    read_head = All-cons (λ (e : Event). HeadIsRead (seen drive old.drive) e (drive.head new.drive)) (Worked (place_of op) None) (synced_events tickets) tt
        (of_synced (λ (e : Event). HeadIsRead (seen drive old.drive) e (drive.head new.drive)) (λ t. tt) tickets);
    on_tape = All-cons (λ (e : Event). IsOnTape (seen drive new.drive) (first_of old.stock.layout.ops) e) (Worked (place_of op) None) (synced_events tickets) on_tape
        (of_synced (λ (e : Event). IsOnTape (seen drive new.drive) (first_of old.stock.layout.ops) e) tape_by tickets);
    on = on_is before op added (flushes (waiting_op st) op tickets waits);
    cached = (old.cached, refl, keeps_none (drive.held old.drive) tickets old.cached);
  }

  order : TurnsInOrder (seen drive old.drive) (seen drive new.drive) before after_it added
  order = record {
    follows = record { trail = trail; standing = sym leaves.ops };
    replied = brought;
    moves = record {
      rises = subst (All (λ t. IsRise (drive.faults old.drive) (drive.faults new.drive) t.before t.after))
          (sym (no_step_no_fault (synced_events tickets) (answers_step (synced_events tickets) (synced_answers tickets)))) (λ k d less. absurd (omega (arith, less)));
      limits = did.step.made.limits;
      untold = did.step.made.untold;
    };
  }

  -- a sync is answered as the tree answers it
  came : (k : ℕ) (p : Placed) (call : Call) (reply : Reply) → slice_get old.listed.history k ≡ Some p
      → call_at (given before (seen drive fixed.first)).calls p ≡ Some call
      → slice_get old.listed.replies k ≡ Some None
      → slice_get (all_synced tickets old.listed.replies) k ≡ Some (Some reply)
      → IsAnswerAt (given before (seen drive fixed.first)) old.on old.listed.history (old.trail.events ++ added) k call reply
  came k p call reply at is was there = by (cases_Bool (list_any (answers k) (synced_events tickets)))
    where
      same : (a b : Reply) → Some (Some a) ≡ Some (Some b) → a ≡ b
      same a b e = cc

      by : (list_any (answers k) (synced_events tickets) ≡ true) ⊎ (list_any (answers k) (synced_events tickets) ≡ false)
          → IsAnswerAt (given before (seen drive fixed.first)) old.on old.listed.history (old.trail.events ++ added) k call reply
      by (inr none) = absurd (none_some reply (sym was ∙ sym (synced_else tickets old.listed.replies k none) ∙ there))
      by (inl has) =
          let st1 = after st (Worked (place_of op) None) in
          let waited : list_any (syncs_it k) st.syncs ≡ true =
          sym (ap (list_any (syncs_it k)) (worked_stays st (waiting_op st)).syncs) ∙ answered_waits tickets st1 k (rest_allowed st (Worked (place_of op) None) (synced_events tickets) trail) has in
          let s = syncs_at (given before (seen drive fixed.first)).calls old.listed.history old.trail.events k kept.order.orderly.syncs waited in
          let placed : s.placed ≡ p = same_Some s.placed p (sym s.at ∙ at) in
          let its : Sync ≡ call = same_Some Sync call (sym s.sync ∙ ap (call_at (given before (seen drive fixed.first)).calls) placed ∙ is) in
          inl (sym (same synced reply (sym (synced_here tickets old.listed.replies k (slice_get_within old.listed.replies k None was) has) ∙ there))
          ∙ ap (λ c. the_replies.Answer (answer (standing (given before (seen drive fixed.first)) old.on old.listed.history k).tree c)) its)

  truth : AnswersTruly (seen drive fixed.first) before after_it
  truth = record { came = came; added = added; events = refl; ops = ap (λ (l : List Op). drop 1 l) (sym did.done.first) }

  pub stepped : Stepped drive fixed before after_it added
  stepped = record {
    history = refl;
    marks = refl;
    replies = record { count = all_count tickets old.listed.replies; each = keeps };
    adds = adds;
    step = step;
    one = one;
    kept = sym (ap (λ l. old.trail.kept ++ l) (none_drained st (place_of op) tickets) ∙ append-nil old.trail.kept);
    order = order;
    truth = λ can. truth;
    driven = λ can. (op, end, did.done.first, did.step, did.well);
  }

  -- ---- what stays tied

  abbrev g : Given
  g = given before (seen drive fixed.first)

  abbrev here : ℕ
  here = length old.listed.history

  abbrev stood : Standing
  stood = standing g old.on old.listed.history here

  abbrev stands : Standing
  stands = standing g (on_done op here old.on) old.listed.history here

  same : stands ≡ stood
  same = same_standing op g old.on old.listed.history here

  old_plan : IsPlan planned (op ∷ later)
  old_plan = subst (IsPlan planned) did.done.first tied.plan

  stock : IsStock (tape_on planned) g (is_on g.mounted (on_done op here old.on) here) stands (less_stock op later old.stock)
  stock = subst (λ (s : Standing). IsStock (tape_on planned) g (is_on g.mounted (on_done op here old.on) here) s (less_stock op later old.stock)) (sym same)
      (subst (λ b. IsStock (tape_on planned) g b stood (less_stock op later old.stock)) (sym (on_turns op g.mounted old.on here tied.on_is))
      (stock_done (tape_on planned) g (is_on g.mounted old.on here) stood old.stock op later tied.stock))

  way : (c : Cartridge) → drive.held new.drive ≡ Some c → IsOnWay planned later c
  way c held =
      let t = was_told drive op end old.drive new.drive did.step c held in
      ways_go_on.done planned op later end t.0 c (subst (λ (l : List Op). IsOnWay planned l t.0) did.done.first (tied.way t.0 t.1)) t.2 did.well

  pub tied_on : IsTied drive fixed planned now
  tied_on = record {
    limits = tied.limits;
    mount = tied.mount;
    told = λ none. tied.told (was_untold drive op end old.drive new.drive did.step none);
    queue = tied.queue ∙ sym leaves.requests;
    arrived = tied.arrived ∙ sym leaves.arrived;
    none_due = subst (λ (es : List Event). due_ticket (after_all es) ≡ None) did.done.events did.done.none_due;
    on_is = on_within op old.on here tied.on_is;
    calls = tied.calls;
    sessions = tied.sessions;
    stock = stock;
    ends = ap (λ (s : Standing). s.space.ends) same ∙ tied.ends;
    back = subst (λ (s : Standing). IfSome s.space.last_dp (λ pos. pos < length (planned Dp))) (sym same) tied.back;
    grouped = leaves.grouped stands.space (subst (λ (s : Standing). IsGrouped s.space st) (sym same) tied.grouped);
    files = files_done stands.files planned op later old_plan
        (subst (λ (s : Standing). AreFilesRight s.files (ends_in planned) (op ∷ later)) (sym same)
        (subst (λ (l : List Op). AreFilesRight stood.files (ends_in planned) l) did.done.first tied.files));
    room = tied.room;
    plan = plans_hold.done planned op later old_plan;
    way = way;
    reads = reads_done g (on_done op here old.on) old.on old.listed.history planned (drive.held fixed.first) st (after_all (old.trail.events ++ added))
        (λ k. same_standing op g old.on old.listed.history k) leaves.requests op later old.reads
        (subst (λ (l : List Op). AreReading g old.on old.listed.history planned (drive.held fixed.first) l st old.reads) did.done.first tied.reads);
    cached = cached_done planned op later (drive.held fixed.first) old.cached
        (subst (λ (l : List Op). All (IsKeptRightly planned l (drive.held fixed.first)) old.cached) did.done.first tied.cached);
  }

  -- a step that did the first op shows all that is asked, and leaves the volume tied
  pub does : Stepped drive fixed before (view_of fixed next_at new) added × IsTied drive fixed planned new
  does = subst (λ (p : Parts D). Stepped drive fixed before (view_of fixed next_at p) added × IsTied drive fixed planned p) now_is (stepped, tied_on)
