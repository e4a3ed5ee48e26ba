-- A step for a request, whatever it brings.
use Rattle.std.specs.Prelude.{◌≡◌, ◌==◌, ◌||◌, ℕ, Bool, true, false, List, [], ◌∷◌, ◌++◌, All, filter, filter_map, length, map, Option, Some, None, slice_get}
use Rattle.std.specs.List.{list_any}
use Rattle.std.proofs.Common.{refl, sym, ap, subst, ◌∙◌, arith, append-nil}
use Rattle.std.proofs.lemmas.Bool.{eqb-true}
use Rattle.std.proofs.lemmas.List.Elements.{All-cons}
use Rattle.tape_types.specs.Counts.{IsRise}
use Rattle.tape_types.specs.declared.cartridges.Place.{Place}
use Rattle.tape_types.specs.declared.cartridges.Twin.{Twin}
use Rattle.tape_types.specs.declared.moments.Moment.{Moment}
use Rattle.tape_drive.specs.declared.drive.Drive.{Ghosts}
use Rattle.plain_tree.specs.History.{call_at}
use Rattle.plain_tree.specs.declared.calls.Call.{Call}
use Rattle.plain_tree.specs.declared.calls.Placed.{Placed}
use Rattle.session_script.specs.declared.logs.Event.{Event}
use Rattle.session_script.specs.declared.logs.Event.TheVariants.{Served}
use Rattle.session_script.specs.declared.logs.Reply.{Reply}
use Rattle.head_core.specs.Steps.{IsReadStep}
use Rattle.head_core.specs.declared.work.StepDone.{StepDone}
use Rattle.head_queue.specs.Waiting.{request}
use Rattle.head_queue.specs.EventLaws.Trail.{IsTrail, after, after_all, fault_of, is_trail_from}
use Rattle.head_queue.specs.EventLaws.Waiting as waiting
use Rattle.head_queue.specs.EventLaws.Waiting.{Request, State, first_of, waiting_op}
use Rattle.tape_layout.specs.declared.ops.Op.{Op}
use Rattle.space_laws.specs.Space.{Space}
use Rattle.space_laws.specs.Standing.{Given}
use Rattle.promises.specs.ServingPromise.Served.{Fixed, View, given, is_waiting}
use Rattle.promises.specs.ServingPromise.Steps.{HeadIsBehind, HeadIsRead, IsOnTape, StepsOnce, does_dp_flush, on_after, one_step}
use Rattle.promises.specs.OrderLaws.Kept.{seen}
use Rattle.promises.specs.OrderLaws.Sides.{IsBrought}
use Rattle.promises.proofs.OrderLaws.Frames.{syncs_it, wants_it}
use Rattle.promises.proofs.OrderLaws.Lists.{any_filter_same}
use Rattle.promises.proofs.OrderLaws.Owned.{after_more}
use Rattle.promises.proofs.OrderLaws.Turning.{drain_faults_from}
use Rattle.promises.proofs.CrashLaws.Stepped.{on_already, on_never}
use Rattle.promises.specs.ReplyLaws.Within.{IsAnswerAt}
use Rattle.promises.proofs.ReplyLaws.Happened.{trail_behind}
use Rattle.event_journal.specs.Trails.{due_ticket, state}
use Rattle.promises.specs.PromiseLaws.Kept.{CanRead, IsKept, Plan}
use Rattle.volume_state.specs.PlanLaws.Planned.{Items}
use Rattle.promises.specs.GroupLaws.Groups.{IsGrouped}
use Rattle.volume_state.specs.StateLaws.Parts.{Parts, view_of}
use Rattle.volume_state.specs.StateLaws.Stepping.{ReadsOnly}
use Rattle.volume_state.specs.StateLaws.Tied.{AreReading, IsKeptRightly, IsTied}
use Rattle.promises.specs.ServingPromise.Cached.{KeepsBlock}
use Rattle.volume_state.specs.CallLaws.StepLaws.{Stepped}
use Rattle.volume_state.proofs.CallLaws.Counts.{step_counts}

-- ---- small facts

head_by : (o : Option waiting.Op) (ticket : ℕ) (place : Place) (fault : Option Twin) (head : Option Place)
    → HeadIsBehind o (Served ticket place fault) head
head_by None ticket place fault head = tt
head_by (Some op) ticket place fault head = tt

tape_by : {D : Type 0} (drive : Ghosts D) (d : D) (o : Option Op) (ticket : ℕ) (place : Place) (fault : Option Twin)
    → IsOnTape (seen drive d) o (Served ticket place fault)
tape_by drive d None ticket place fault = tt
tape_by drive d (Some op) ticket place fault = tt

no_flush : (o : Option waiting.Op) (ticket : ℕ) (place : Place) (fault : Option Twin)
    → list_any (does_dp_flush o) (Served ticket place fault ∷ []) ≡ false
no_flush None ticket place fault = refl
no_flush (Some op) ticket place fault = refl

-- an event that does no flush leaves placement as it is
pub on_stays : {D : Type 0} (old : View D) (added : List Event)
    → list_any (does_dp_flush (waiting_op (after_all old.events))) added ≡ false → old.on ≡ on_after old added
on_stays old added none = by old.on refl
  where
    by : (on : Option ℕ) → old.on ≡ on → old.on ≡ on_after old added
    by (Some first) e = e ∙ sym (on_already old added first e)
    by None e = e ∙ sym (on_never old added e none)

served_leaves : (st : State) (ticket : ℕ) (place : Place) (fault : Option Twin) (rs : List Request)
    → (after st (Served ticket place fault)).requests ≡ rs
    → (waiting.ops (after st (Served ticket place fault)) ≡ waiting.ops st) × ((after st (Served ticket place fault)).arrived ≡ st.arrived)
    × ((after st (Served ticket place fault)).syncs ≡ st.syncs) × (due_ticket (after st (Served ticket place fault)) ≡ due_ticket st)
served_leaves st ticket place None rs is = (refl, refl, refl, refl)
served_leaves st ticket place (Some counts) rs is = (refl, refl, refl, refl)

served_grouped : (st : State) (ticket : ℕ) (place : Place) (fault : Option Twin) (space : Space) → IsGrouped space st
    → IsGrouped space (after st (Served ticket place fault))
served_grouped st ticket place None space g = record { due = g.due; changed = g.changed }
served_grouped st ticket place (Some counts) space g = record { due = g.due; changed = g.changed }

-- where the read has another ticket, it waits as before
pub others_wait : (st : State) (ticket : ℕ) (place : Place) (fault : Option Twin) (p : Request → Bool)
    → ((r : Request) → (r.ticket == ticket) ≡ false → p r ≡ true)
    → (after st (Served ticket place fault)).requests ≡ filter p st.requests → (k : ℕ) → (k == ticket) ≡ false
    → is_waiting (after st (Served ticket place fault)) k ≡ is_waiting st k
others_wait st ticket place fault p passes asked k other =
    let same : list_any (wants_it k) (filter p st.requests) ≡ list_any (wants_it k) st.requests =
    any_filter_same (wants_it k) p st.requests (λ r h. passes r (subst (λ n. (n == ticket) ≡ false) (sym (eqb-true r.ticket k h)) other)) in
    ap (λ b. b || list_any (syncs_it k) (after st (Served ticket place fault)).syncs) (ap (list_any (wants_it k)) asked ∙ same)
    ∙ ap (λ l. list_any (wants_it k) st.requests || list_any (syncs_it k) l) (served_leaves st ticket place fault (filter p st.requests) asked).2

-- ---- the step

module _ {D : Type 0} (drive : Ghosts D) (fixed : Fixed D) (plan : Plan drive fixed) (planned : Items) (next_at : Option Moment)
    (old new : Parts D) (ticket : ℕ) (place : Place) (fault : Option Twin) (end : StepDone) (kept : IsKept drive fixed plan (view_of fixed next_at old))
    (tied : IsTied drive fixed planned old) (step : IsReadStep drive place end old.drive new.drive) (only : ReadsOnly old new)
    (events : new.trail.events ≡ old.trail.events ++ Served ticket place fault ∷ []) where
  abbrev st : State
  st = state old.trail

  abbrev e : Event
  e = Served ticket place fault

  abbrev g : Given
  g = given (view_of fixed next_at old) (seen drive fixed.first)

  -- the event of a step for a request may come
  pub trail : is_trail_from st (e ∷ []) ≡ true
  trail = trail_behind old.trail.events (e ∷ []) (subst IsTrail events only.trail)

  -- what the step shows of its replies, its request and its read
  pub record Shows : Type 0 where
    pub head : HeadIsRead (seen drive old.drive) e (drive.head new.drive)
    pub count : length new.listed.replies ≡ length old.listed.replies
    pub keeps : (k : ℕ) (reply : Reply) → slice_get old.listed.replies k ≡ Some (Some reply)
        → slice_get new.listed.replies k ≡ Some (Some reply)
    pub brought : (k : ℕ) (reply : Option Reply) → slice_get old.listed.replies k ≡ Some None
        → slice_get new.listed.replies k ≡ Some reply
        → IsBrought st (e ∷ []) k reply
    pub came : CanRead drive fixed → (k : ℕ) (p : Placed) (call : Call) (reply : Reply)
        → slice_get old.listed.history k ≡ Some p → call_at g.calls p ≡ Some call
        → slice_get old.listed.replies k ≡ Some None → slice_get new.listed.replies k ≡ Some (Some reply)
        → IsAnswerAt g old.on old.listed.history (old.trail.events ++ e ∷ []) k call reply
    pub rises : All (λ (t : Twin). IsRise (drive.faults old.drive) (drive.faults new.drive) t.before t.after) (filter_map fault_of (e ∷ []))
    pub queue : map request new.queue.waiting ≡ (after st e).requests
    pub reads : AreReading g old.on old.listed.history planned (drive.held fixed.first) old.stock.layout.ops (after st e) new.reads
    pub keeps_block : KeepsBlock (drive.held old.drive) e old.cached new.cached
    pub cached : All (IsKeptRightly planned old.stock.layout.ops (drive.held fixed.first)) new.cached

  module _ (shows : Shows) where
    abbrev now : Parts D
    now = record new {
      stock = old.stock;
      on = old.on;
      trail = record new.trail { events = old.trail.events ++ e ∷ []; acks = old.trail.acks; kept = old.trail.kept };
      listed = record new.listed { history = old.listed.history; marks = old.listed.marks; calls = old.listed.calls; sessions = old.listed.sessions };
      queue = record new.queue { arrived = old.queue.arrived };
    }

    now_is : now ≡ new
    now_is = λ i. record new {
      stock = (sym only.stock) i;
      on = (sym only.on) i;
      trail = record new.trail { events = (sym events) i; acks = (sym only.acks) i; kept = (sym only.kept) i };
      listed = record new.listed {
        history = (sym only.listed.history) i;
        marks = (sym only.listed.marks) i;
        calls = (sym only.listed.calls) i;
        sessions = (sym only.listed.sessions) i;
      };
      queue = record new.queue { arrived = (sym only.arrived) i };
    }

    abbrev before : View D
    before = view_of fixed next_at old

    abbrev after_it : View D
    after_it = view_of fixed next_at now

    leaves : (waiting.ops (after st e) ≡ waiting.ops st) × ((after st e).arrived ≡ st.arrived) × ((after st e).syncs ≡ st.syncs) × (due_ticket (after st e) ≡ due_ticket st)
    leaves = served_leaves st ticket place fault (after st e).requests refl

    -- the state that the events leave
    state_is : after_all (old.trail.events ++ e ∷ []) ≡ after st e
    state_is = after_more old.trail.events (e ∷ [])

    none_drained : (o : Option Twin) → drain_faults_from st (Served ticket place o ∷ []) ≡ []
    none_drained None = refl
    none_drained (Some counts) = refl

    once : StepsOnce drive.MOST (seen drive old.drive) (seen drive new.drive) before after_it (e ∷ [])
    once = record {
      shape = one_step e [] refl (λ k d less. absurd (omega (arith, less)));
      counts = step_counts drive place 2 end old.drive new.drive before after_it (e ∷ []) step.made (omega arith) refl;
      op_head = All-cons (λ (x : Event). HeadIsBehind (waiting_op st) x (drive.head new.drive)) e [] (head_by (waiting_op st) ticket place fault (drive.head new.drive)) (λ k d less. absurd (omega (arith, less)));
      read_head = All-cons (λ (x : Event). HeadIsRead (seen drive old.drive) x (drive.head new.drive)) e [] shows.head (λ k d less. absurd (omega (arith, less)));
      on_tape = All-cons (λ (x : Event). IsOnTape (seen drive new.drive) (first_of old.stock.layout.ops) x) e []
          (tape_by drive new.drive (first_of old.stock.layout.ops) ticket place fault) (λ k d less. absurd (omega (arith, less)));
      on = on_stays before (e ∷ []) (no_flush (waiting_op st) ticket place fault);
      cached = (new.cached, shows.keeps_block, refl);
    }

    stepped : Stepped drive fixed before after_it (e ∷ [])
    stepped = record {
      history = refl;
      marks = refl;
      replies = record { count = shows.count; each = shows.keeps };
      adds = record { events = refl; acks = sym (append-nil old.trail.acks) };
      step = once;
      one = refl;
      kept = sym (ap (λ l. old.trail.kept ++ l) (none_drained fault) ∙ append-nil old.trail.kept);
      order = record {
        follows = record { trail = trail; standing = kept.order.orderly.standing ∙ sym leaves.0 ∙ sym (ap (λ (s : State). waiting.ops s) state_is) };
        replied = shows.brought;
        moves = record { rises = shows.rises; limits = step.made.limits; untold = step.made.untold };
      };
      truth = λ can. record { came = shows.came can; added = e ∷ []; events = refl; ops = refl };
      driven = λ can. (end, refl, step);
    }

    tied_on : IsTied drive fixed planned now
    tied_on = record {
      limits = tied.limits;
      mount = tied.mount;
      told = λ none. tied.told (sym step.looks.held ∙ none);
      queue = shows.queue ∙ sym (ap (λ (s : State). s.requests) state_is);
      arrived = tied.arrived ∙ sym leaves.1 ∙ sym (ap (λ (s : State). s.arrived) state_is);
      none_due = ap due_ticket state_is ∙ leaves.3 ∙ tied.none_due;
      on_is = tied.on_is;
      calls = tied.calls;
      sessions = tied.sessions;
      stock = tied.stock;
      ends = tied.ends;
      back = tied.back;
      grouped = subst (IsGrouped _) (sym state_is) (served_grouped st ticket place fault _ tied.grouped);
      files = tied.files;
      room = tied.room;
      plan = tied.plan;
      way = λ c held. tied.way c (sym step.looks.held ∙ held);
      reads = subst (λ (s : State). AreReading g old.on old.listed.history planned (drive.held fixed.first) old.stock.layout.ops s new.reads) (sym state_is) shows.reads;
      cached = shows.cached;
    }

    -- a step for a request shows all that is asked, and leaves the volume tied
    pub serves : Stepped drive fixed before (view_of fixed next_at new) (e ∷ []) × IsTied drive fixed planned new
    serves = subst (λ (p : Parts D). Stepped drive fixed before (view_of fixed next_at p) (e ∷ []) × IsTied drive fixed planned p) now_is (stepped, tied_on)
