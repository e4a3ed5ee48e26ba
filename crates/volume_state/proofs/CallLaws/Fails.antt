-- A step in which the first op failed.
use Rattle.std.specs.Prelude.{◌≡◌, ◌==◌, ◌||◌, ℕ, ◌+◌, true, false, cond, drop, List, [], ◌∷◌, ◌++◌, Contains, length, Option, Some, None, slice_get}
use Rattle.std.specs.List.{cons_option, list_any}
use Rattle.std.proofs.Common.{⊎_elim, inr, refl, sym, ap, subst, ◌∙◌, arith, append-nil}
use Rattle.std.proofs.lemmas.Bool.{cases_Bool, eq-eqb, or_left, or_right}
use Rattle.tape_types.specs.Counts.{IsRise}
use Rattle.tape_types.specs.declared.cartridges.Cartridge.{Cartridge}
use Rattle.tape_types.specs.declared.cartridges.Place.{Place}
use Rattle.tape_types.specs.declared.cartridges.Twin.{Twin}
use Rattle.tape_types.specs.declared.moments.Moment.{Moment}
use Rattle.tape_drive.specs.declared.drive.Drive.{Ghosts}
use Rattle.plain_tree.specs.declared.calls.Call.{Call}
use Rattle.plain_tree.specs.declared.calls.Placed.{Placed}
use Rattle.session_script.specs.declared.logs.Event.{Event}
use Rattle.session_script.specs.declared.logs.Event.TheVariants.{Worked}
use Rattle.session_script.specs.declared.logs.Reply.{Reply}
use Rattle.session_script.specs.declared.logs.Reply.TheVariants as the_replies
use Rattle.head_core.specs.Steps.{most_commands}
use Rattle.head_core.specs.declared.work.StepDone.TheVariants as ends
use Rattle.head_queue.specs.EventLaws.Trail.{IsTrail, after, after_all, both, is_trail_from, of_call, op_owner, owned_by}
use Rattle.head_queue.specs.EventLaws.Waiting as waiting
use Rattle.head_queue.specs.EventLaws.Waiting.{Request, State, Waiter, first_of, waiting_op}
use Rattle.tape_layout.specs.Ops.{place_of}
use Rattle.tape_layout.specs.declared.ops.Op.{Op}
use Rattle.space_laws.specs.Standing.{Given}
use Rattle.promises.specs.ServingPromise.Acks.{synced_places}
use Rattle.promises.specs.ServingPromise.Served.{Fixed, View, given, is_waiting}
use Rattle.promises.specs.ServingPromise.Steps.{HeadIsBehind, HeadIsRead, IsOnTape, StepsOnce, does_dp_flush, one_step, session_of}
use Rattle.promises.specs.OrderLaws.Kept.{seen}
use Rattle.promises.specs.OrderLaws.Sides.{IsBrought, owned_from}
use Rattle.promises.proofs.OrderLaws.Apart.{still_untouched}
use Rattle.promises.proofs.OrderLaws.Frames.{syncs_it, wants_it}
use Rattle.promises.proofs.OrderLaws.Owned.{after_more}
use Rattle.promises.proofs.OrderLaws.Told.{owned_more}
use Rattle.promises.proofs.OrderLaws.Turning.{all_turn, owned-cons, owned_head}
use Rattle.promises.specs.ReplyLaws.Within.{IsAnswerAt}
use Rattle.promises.proofs.ReplyLaws.Happened.{trail_behind}
use Rattle.event_journal.specs.Trails.{due_of, due_ticket, first_waiter, kept_by, kept_for_drain, longest, state}
use Rattle.promises.specs.PromiseLaws.Kept.{IsKept, Plan}
use Rattle.volume_state.specs.PlanLaws.Planned.{IsOnWay, Items}
use Rattle.volume_state.proofs.PlanLaws.Ways.{ways_go_on}
use Rattle.promises.specs.GroupLaws.Groups.{IsGrouped}
use Rattle.volume_state.specs.StateLaws.Parts.{Parts, view_of}
use Rattle.volume_state.specs.StateLaws.Stepping.{FailsOp, replied, told_fault}
use Rattle.volume_state.specs.StateLaws.Tied.{IsTied}
use Rattle.volume_state.specs.CallLaws.StepLaws.{Stepped}
use Rattle.volume_state.proofs.CallLaws.Answered.{Brings, none_brought, one_brought, one_came, one_kept, told_count}
use Rattle.volume_state.proofs.CallLaws.Counts.{step_counts, two_at_most}
use Rattle.volume_state.proofs.CallLaws.StepDriven.{was_told, was_untold}
use Rattle.volume_state.proofs.CallLaws.StepDues.{DueWithin, are_due, is_late, none_due}
use Rattle.volume_state.proofs.CallLaws.Misses.{last_in, one_of, rise_of}
use Rattle.volume_state.proofs.CallLaws.Serves.{on_stays}
use Rattle.volume_state.proofs.CallLaws.States.{Leaves, failed_leaves}
use Rattle.volume_state.proofs.CallLaws.Waits.{reads_stay}
use Rattle.volume_state.proofs.CallLaws.Splits.{flip}

-- ---- small facts

head_by : (o : Option waiting.Op) (place : Place) (counts : Twin) (head : Option Place)
    → HeadIsBehind o (Worked place (Some counts)) head
head_by None place counts head = tt
head_by (Some op) place counts head = tt

tape_by : {D : Type 0} (drive : Ghosts D) (d : D) (o : Option Op) (place : Place) (counts : Twin)
    → IsOnTape (seen drive d) o (Worked place (Some counts))
tape_by drive d None place counts = tt
tape_by drive d (Some op) place counts = tt

no_flush : (o : Option waiting.Op) (place : Place) (counts : Twin)
    → list_any (does_dp_flush o) (Worked place (Some counts) ∷ []) ≡ false
no_flush None place counts = refl
no_flush (Some op) place counts = refl

-- the sync that has waited longest waits no more
record IsLess (old new : State) : Type 0 where
  syncs : new.syncs ≡ drop 1 old.syncs
  done : new.done ≡ old.done

less_by : (head at : Place) (arrived : ℕ) (requests : List Request) (done : ℕ) (ended : List waiting.Op) (group : List Place) (syncs : List Waiter) (drains : List ℕ) (counts : Twin)
    → IsLess (record { head = head; arrived = arrived; requests = requests; done = done; ended = ended; group = group; syncs = syncs; drains = drains })
    (after (record { head = head; arrived = arrived; requests = requests; done = done; ended = ended; group = group; syncs = syncs; drains = drains }) (Worked at (Some counts)))
less_by head at arrived requests done ended group [] drains counts = record { syncs = refl; done = refl }
less_by head at arrived requests done ended group (s ∷ syncs) drains counts = record { syncs = refl; done = refl }

failed_less : (st : State) (place : Place) (counts : Twin) → IsLess st (after st (Worked place (Some counts)))
failed_less st place counts = less_by st.head place st.arrived st.requests st.done st.ended st.group st.syncs st.drains counts

-- the next one isn't due either
none_next : (done high : ℕ) (syncs : List Waiter) → due_of done syncs ≡ None → DueWithin 0 high syncs
    → due_of done (drop 1 syncs) ≡ None
none_next done high [] none d = refl
none_next done high (s ∷ more) none d = none_due done s.due high more (is_late done s more none) d.2

kept_is : (syncs : List Waiter) (drains : List ℕ) (counts : Twin)
    → kept_by syncs drains counts ≡ cons_option (both (session_of (op_owner syncs drains)) (Some counts)) []
kept_is (s ∷ more) drains counts = refl
kept_is [] (who ∷ more) counts = refl
kept_is [] [] counts = refl

owned_one : (syncs : List Waiter) (drains : List ℕ) (s : Waiter) (more : List Waiter) (counts : Twin)
    → syncs ≡ s ∷ more
    → counts ∷ [] ≡ owned_head (of_call s.ticket) (both (op_owner syncs drains) (Some counts)) ++ []
owned_one syncs drains s more counts is =
    sym (ap (λ (l : List Waiter). owned_head (of_call s.ticket) (both (op_owner l drains) (Some counts)) ++ []) is
    ∙ ap (λ b. cond b (counts ∷ []) [] ++ []) (eq-eqb s.ticket s.ticket refl))

no_more : (a : Twin) (l : List Twin) → l ≡ a ∷ [] → l ≡ [] → ⊥
no_more a l is none = omega (arith, ap length is, ap length none)

module _ {D : Type 0} (drive : Ghosts D) (fixed : Fixed D) (plan : Plan drive fixed) (planned : Items) (next_at : Option Moment)
    (old new : Parts D) (op : Op) (later : List Op) (counts : Twin) (kept : IsKept drive fixed plan (view_of fixed next_at old))
    (tied : IsTied drive fixed planned old) (did : FailsOp drive op later counts old new) where
  abbrev st : State
  st = state old.trail

  abbrev place : Place
  place = place_of op

  abbrev e : Event
  e = Worked place (Some counts)

  abbrev left : State
  left = after st e

  abbrev g : Given
  g = given (view_of fixed next_at old) (seen drive fixed.first)

  abbrev told : List (Option Reply)
  told = told_fault (first_waiter st) counts old.listed.replies

  abbrev fault : Reply
  fault = the_replies.Fault counts

  abbrev now : Parts D
  now = record new {
    stock = old.stock;
    on = old.on;
    trail = record new.trail { events = old.trail.events ++ e ∷ []; acks = old.trail.acks; kept = old.trail.kept ++ kept_for_drain st counts };
    listed = record new.listed { history = old.listed.history; replies = told; marks = old.listed.marks; calls = old.listed.calls; sessions = old.listed.sessions };
    queue = old.queue;
    reads = old.reads;
    cached = old.cached;
  }

  now_is : now ≡ new
  now_is = λ i. record new {
    stock = (sym did.told.stock) i;
    on = (sym did.told.on) i;
    trail = record new.trail { events = (sym did.told.events) i; acks = (sym did.told.acks) i; kept = (sym did.told.kept) i };
    listed = record new.listed {
      history = (sym did.told.listed.history) i;
      replies = (sym did.told.replies) i;
      marks = (sym did.told.listed.marks) i;
      calls = (sym did.told.listed.calls) i;
      sessions = (sym did.told.listed.sessions) i;
    };
    queue = (sym did.told.queue) i;
    reads = (sym did.told.reads) i;
    cached = (sym did.told.cached) i;
  }

  abbrev before : View D
  before = view_of fixed next_at old

  abbrev after_it : View D
  after_it = view_of fixed next_at now

  trail : is_trail_from st (e ∷ []) ≡ true
  trail = trail_behind old.trail.events (e ∷ []) (subst IsTrail did.told.events did.told.trail)

  leaves : Leaves st left (waiting.ops st)
  leaves = failed_leaves st place counts

  less : IsLess st left
  less = failed_less st place counts

  state_is : after_all (old.trail.events ++ e ∷ []) ≡ left
  state_is = after_more old.trail.events (e ∷ [])

  -- ---- replies

  record Replies : Type 0 where
    count : length told ≡ length old.listed.replies
    keeps : (k : ℕ) (reply : Reply) → slice_get old.listed.replies k ≡ Some (Some reply)
        → slice_get told k ≡ Some (Some reply)
    brought : (k : ℕ) (reply : Option Reply) → slice_get old.listed.replies k ≡ Some None
        → slice_get told k ≡ Some reply → IsBrought st (e ∷ []) k reply
    came : (k : ℕ) (p : Placed) (call : Call) (reply : Reply) → slice_get old.listed.replies k ≡ Some None
        → slice_get told k ≡ Some (Some reply)
        → IsAnswerAt g old.on old.listed.history (old.trail.events ++ e ∷ []) k call reply

  not_yet : (reply : Reply) → Some None ≡ Some (Some reply) → ⊥
  not_yet reply e = cc

  -- nobody is told
  module _ (same : told ≡ old.listed.replies) (none : st.syncs ≡ []) where
    still : (k : ℕ) → is_waiting st k ≡ true → is_waiting left k ≡ true
    still k waits =
        ap (λ l. list_any (wants_it k) l || list_any (syncs_it k) left.syncs) leaves.requests
        ∙ ap (λ l. list_any (wants_it k) st.requests || list_any (syncs_it k) l) (less.syncs ∙ ap (drop 1) none ∙ sym none) ∙ waits

    no_replies : Replies
    no_replies = record {
      count = ap length same;
      keeps = λ k reply is. ap (λ l. slice_get l k) same ∙ is;
      brought = λ k reply was is. none_brought st (e ∷ []) old.listed.replies kept.order.orderly.waiting still k reply was (sym (ap (λ l. slice_get l k) same) ∙ is);
      came = λ k p call reply was there. absurd (not_yet reply (sym was ∙ sym (ap (λ l. slice_get l k) same) ∙ there));
    }

  -- the sync that has waited longest is told
  module _ (s : Waiter) (more : List Waiter) (is : st.syncs ≡ s ∷ more) where
    told_is : told ≡ replied s.ticket fault old.listed.replies
    told_is = ap (λ l. told_fault (longest l st.drains) counts old.listed.replies) is

    synced : list_any (syncs_it s.ticket) st.syncs ≡ true
    synced = ap (list_any (syncs_it s.ticket)) is
        ∙ or_left (s.ticket == s.ticket) (list_any (syncs_it s.ticket) more) (eq-eqb s.ticket s.ticket refl)

    waited : slice_get old.listed.replies s.ticket ≡ Some None
    waited = kept.order.orderly.waiting.waits s.ticket (or_right (list_any (wants_it s.ticket) st.requests) (list_any (syncs_it s.ticket) st.syncs) synced)

    owned : counts ∷ [] ≡ owned_from st (of_call s.ticket) (e ∷ [])
    owned = owned_one st.syncs st.drains s more counts is
        ∙ sym (owned-cons st (of_call s.ticket) e [])

    rests : is_waiting left s.ticket ≡ false
    rests = ⊎_elim
        (λ waits. absurd (no_more counts (owned_from st (of_call s.ticket) (e ∷ [])) (sym owned)
        (still_untouched st (synced_places old.listed.replies) (e ∷ []) s.ticket kept.order.apart kept.order.rising trail
        (all_turn (e ∷ []) (one_step e [] refl (λ k d less. absurd (omega (arith, less))))) waits).unowned))
        (λ none. none) (cases_Bool (is_waiting left s.ticket))

    others : (k : ℕ) → (k == s.ticket) ≡ false → is_waiting left k ≡ is_waiting st k
    others k other =
        ap (λ l. list_any (wants_it k) l || list_any (syncs_it k) left.syncs) leaves.requests
        ∙ ap (λ l. list_any (wants_it k) st.requests || list_any (syncs_it k) l) (less.syncs ∙ ap (drop 1) is)
        ∙ ap (λ b. list_any (wants_it k) st.requests || (b || list_any (syncs_it k) more)) (sym (flip k s.ticket other))
        ∙ ap (λ l. list_any (wants_it k) st.requests || list_any (syncs_it k) l) (sym is)

    brings : Brings st (e ∷ []) old.listed.replies s.ticket fault
    brings = record { waited = waited; gives = record { waits = rests; fault = owned; synced = refl }; others = others }

    its_came : (k : ℕ) (p : Placed) (call : Call) (reply : Reply) → slice_get old.listed.replies k ≡ Some None
        → slice_get told k ≡ Some (Some reply)
        → IsAnswerAt g old.on old.listed.history (old.trail.events ++ e ∷ []) k call reply
    its_came k p call reply was there =
        let c = one_came old.listed.replies s.ticket fault k reply waited was (sym (ap (λ l. slice_get l k) told_is) ∙ there) in
        let all : owned_by (of_call s.ticket) (old.trail.events ++ e ∷ []) ≡ owned_by (of_call s.ticket) old.trail.events ++ counts ∷ [] =
        owned_more (of_call s.ticket) old.trail.events (e ∷ []) ∙ ap (λ l. owned_by (of_call s.ticket) old.trail.events ++ l) (sym owned) in
        inr (
          counts,
          subst (λ n. Contains (owned_by (of_call n) (old.trail.events ++ e ∷ [])) counts) (sym c.0)
              (subst (λ l. Contains l counts) (sym all) (last_in (owned_by (of_call s.ticket) old.trail.events) counts)),
          sym c.1,
        )

    its_reply : Replies
    its_reply = record {
      count = ap length told_is ∙ told_count old.listed.replies s.ticket fault;
      keeps = λ k reply at. ap (λ l. slice_get l k) told_is
          ∙ one_kept st old.listed.replies s.ticket fault waited k reply at;
      brought = λ k reply was at. one_brought st (e ∷ []) old.listed.replies s.ticket fault kept.order.orderly.waiting brings k reply was (sym (ap (λ l. slice_get l k) told_is) ∙ at);
      came = its_came;
    }

  no_sync_told : (drains : List ℕ) → told_fault (longest [] drains) counts old.listed.replies ≡ old.listed.replies
  no_sync_told [] = refl
  no_sync_told (who ∷ more) = refl

  replies_by : (syncs : List Waiter) → st.syncs ≡ syncs → Replies
  replies_by [] is = no_replies (ap (λ l. told_fault (longest l st.drains) counts old.listed.replies) is ∙ no_sync_told st.drains) is
  replies_by (s ∷ more) is = its_reply s more is

  replies : Replies
  replies = replies_by st.syncs refl

  -- ---- what the step shows

  once : StepsOnce drive.MOST (seen drive old.drive) (seen drive new.drive) before after_it (e ∷ [])
  once = record {
    shape = one_step e [] refl (λ k d less. absurd (omega (arith, less)));
    counts = step_counts drive place (most_commands op) (ends.Failed counts) old.drive new.drive before after_it (e ∷ []) did.step.made (two_at_most op) refl;
    op_head = one_of (λ (x : Event). HeadIsBehind (waiting_op st) x (drive.head new.drive)) e (head_by (waiting_op st) place counts (drive.head new.drive));
    read_head = one_of (λ (x : Event). HeadIsRead (seen drive old.drive) x (drive.head new.drive)) e tt;
    on_tape = one_of (λ (x : Event). IsOnTape (seen drive new.drive) (first_of old.stock.layout.ops) x) e (tape_by drive new.drive (first_of old.stock.layout.ops) place counts);
    on = on_stays before (e ∷ []) (no_flush (waiting_op st) place counts);
    cached = (old.cached, refl, refl);
  }

  stepped : Stepped drive fixed before after_it (e ∷ [])
  stepped = record {
    history = refl;
    marks = refl;
    replies = record { count = replies.count; each = replies.keeps };
    adds = record { events = refl; acks = sym (append-nil old.trail.acks) };
    step = once;
    one = refl;
    kept = ap (λ l. old.trail.kept ++ l) (kept_is st.syncs st.drains counts);
    order = record {
      follows = record { trail = trail; standing = kept.order.orderly.standing ∙ sym leaves.ops ∙ sym (ap (λ (s : State). waiting.ops s) state_is) };
      replied = replies.brought;
      moves = record {
        rises = one_of (λ (t : Twin). IsRise (drive.faults old.drive) (drive.faults new.drive) t.before t.after) counts
            (rise_of (drive.faults old.drive) (drive.faults new.drive) counts did.step.made.faults);
        limits = did.step.made.limits;
        untold = did.step.made.untold;
      };
    };
    truth = λ can. record { came = λ k p call reply at is was there. replies.came k p call reply was there; added = e ∷ []; events = refl; ops = refl };
    driven = λ can. (op, later, counts, did.first, refl, did.step);
  }

  -- ---- what stays tied

  way : (c : Cartridge) → drive.held new.drive ≡ Some c → IsOnWay planned old.stock.layout.ops c
  way c held =
      let t = was_told drive op (ends.Failed counts) old.drive new.drive did.step c held in
      ways_go_on.failed planned op old.stock.layout.ops later counts t.0 c (tied.way t.0 t.1) did.first t.2

  tied_on : IsTied drive fixed planned now
  tied_on = record {
    limits = tied.limits;
    mount = tied.mount;
    told = λ none. tied.told (was_untold drive op (ends.Failed counts) old.drive new.drive did.step none);
    queue = tied.queue ∙ sym leaves.requests ∙ sym (ap (λ (s : State). s.requests) state_is);
    arrived = tied.arrived ∙ sym leaves.arrived ∙ sym (ap (λ (s : State). s.arrived) state_is);
    none_due = ap due_ticket state_is ∙ ap (λ n. due_of n left.syncs) less.done ∙ ap (due_of st.done) less.syncs
        ∙ none_next st.done (st.done + length st.ended) st.syncs tied.none_due (are_due old.trail.events);
    on_is = tied.on_is;
    calls = tied.calls;
    sessions = tied.sessions;
    stock = tied.stock;
    ends = tied.ends;
    back = tied.back;
    grouped = subst (IsGrouped _) (sym state_is) (leaves.grouped _ tied.grouped);
    files = tied.files;
    room = tied.room;
    plan = tied.plan;
    way = way;
    reads = reads_stay g old.on old.on old.listed.history planned (drive.held fixed.first) st (after_all (old.trail.events ++ e ∷ [])) (λ k. refl)
        (ap (λ (s : State). s.requests) state_is ∙ leaves.requests) old.stock.layout.ops old.reads tied.reads;
    cached = tied.cached;
  }

  -- a step in which the first op failed shows all that is asked, and leaves the volume tied
  pub fails : Stepped drive fixed before (view_of fixed next_at new) (e ∷ []) × IsTied drive fixed planned new
  fails = subst (λ (p : Parts D). Stepped drive fixed before (view_of fixed next_at p) (e ∷ []) × IsTied drive fixed planned p) now_is (stepped, tied_on)
