-- A write that is put off: its session drains.
use Rattle.std.proofs.Common.{◌≡◌, ℕ, ◌≤◌, true, nat_lt, List, [], ◌∷◌, length, map, Option, Some, append-nil, refl, sym, ap, subst, ◌∙◌, arith}
use Rattle.std.specs.Prelude.{IfSome, ◌&&◌}
use Rattle.tape_types.specs.declared.moments.Moment.{Moment}
use Rattle.tape_drive.specs.declared.drive.Drive.{Ghosts}
use Rattle.plain_tree.specs.declared.calls.Call.{Call}
use Rattle.plain_tree.specs.declared.calls.Call.TheVariants as calls
use Rattle.plain_tree.specs.declared.calls.Placed.{Placed}
use Rattle.session_script.specs.declared.logs.Event.{Event}
use Rattle.session_script.specs.declared.logs.Event.TheVariants.{Drains}
use Rattle.head_queue.specs.Waiting.{request}
use Rattle.head_queue.specs.EventLaws.Trail.{after_all}
use Rattle.head_queue.specs.EventLaws.Trail.{after as next_state}
use Rattle.head_queue.specs.EventLaws.Waiting.{State, ops}
use Rattle.space_laws.specs.Standing.{Standing, is_on, standing}
use Rattle.promises.specs.ServingPromise.Replies.{is_write}
use Rattle.promises.specs.ServingPromise.Served.{Fixed, headed}
use Rattle.promises.specs.ServingPromise.Submits as model
use Rattle.promises.specs.ServingPromise.Submits.{Asks, AsksUnlessVoid, call_of, is_put_off, standing_ops}
use Rattle.block_cache.specs.Kept.{Kept}
use Rattle.promises.specs.declared.serving_promise.answers.Submitted.TheVariants as submitted
use Rattle.promises.specs.PromiseLaws.Kept.{Plan, SubmitsRightly}
use Rattle.held_volume.specs.Stocks.{IsStock, Stocked}
use Rattle.event_journal.specs.Trails.{due_ticket, state}
use Rattle.volume_state.specs.PlanLaws.Planned.{Items, tape_on, with_ops}
use Rattle.promises.proofs.CrashLaws.Submitted.{state_after}
use Rattle.volume_state.specs.StateLaws.Parts.{Parts, view_of}
use Rattle.volume_state.specs.StateLaws.Placing.{PutsOff}
use Rattle.volume_state.specs.StateLaws.Tied.{IsTied}
use Rattle.volume_state.specs.CallLaws.SubmitLaws.{IsSubmission, Shown}
use Rattle.volume_state.proofs.CallLaws.Placed.{given_in, on_in, reads_to, stands_in, tied_still}
use Rattle.volume_state.proofs.CallLaws.Uses.{cached_still}
use Rattle.volume_state.proofs.CallLaws.Rightly.{adds_none, follows_by, longer_than}

-- only a write is put off, which asks for no block
wants_none : (st : Standing) (past : List Event) (cached next : List Kept) (who n : ℕ) (call : Call) → next ≡ cached → (is_write call && nat_lt 64 n) ≡ true → Asks st past (Drains who ∷ []) cached next (Some call)
wants_none st past cached next who n (calls.Write path offset bytes) same off = (refl, same)
wants_none st past cached next who n _ same off = absurd cc

module _ {D : Type 0} (drive : Ghosts D) (fixed : Fixed D) (plan : Plan drive fixed) (planned : Items) (before after : Option Moment) (who nth : ℕ) (call : Call) (at : Moment) (old new : Parts D)
    (s : IsSubmission drive fixed plan planned before after who nth call at submitted.Drain old new) (v : PutsOff who old new) where
  ops_are : new.stock.layout.ops ≡ old.stock.layout.ops
  ops_are = ap (λ (k : Stocked). k.layout.ops) v.stock

  state_is : state new.trail ≡ next_state (state old.trail) (Drains who)
  state_is = state_after old.trail.events new.trail.events (Drains who ∷ []) v.events

  standing_is : map headed new.stock.layout.ops ≡ ops (after_all new.trail.events)
  standing_is = ap (map headed) ops_are ∙ s.kept.order.orderly.standing ∙ sym (ap ops state_is)

  stands : stands_in drive fixed new ≡ stands_in drive fixed old
  stands = ap (λ (o : Option ℕ). standing (given_in drive fixed old) o new.listed.history (length new.listed.history)) v.moves.on
      ∙ ap (λ (ps : List Placed). standing (given_in drive fixed old) old.on ps (length ps)) v.history

  on_is : on_in drive fixed new ≡ on_in drive fixed old
  on_is = ap (λ (o : Option ℕ). is_on (given_in drive fixed old).mounted o (length new.listed.history)) v.moves.on
      ∙ ap (λ (ps : List Placed). is_on (given_in drive fixed old).mounted old.on (length ps)) v.history

  rightly_shown : SubmitsRightly drive fixed plan (view_of fixed before old) (view_of fixed after new) who nth (Drains who ∷ []) submitted.Drain
  rightly_shown = record {
    order = record {
      moment = s.one_moment;
      follows = follows_by drive fixed before after old new (Drains who ∷ []) v.moves.trail v.events standing_is;
      answered = tt;
    };
    truth = λ can. ops_are;
    ops = λ can. adds_none drive fixed before after old new v.history ops_are;
    size = λ can. omega (arith, s.tied.mount.blocks.0);
    due = λ can q history done sync. absurd (longer_than old.listed.history new.listed.history q history v.history);
  }

  tied_after : IsTied drive fixed (with_ops [] planned) new
  tied_after = tied_still drive fixed planned old new s.tied (record {
    drive_is = v.moves.drive;
    ops = ops_are;
    calls = v.calls;
    sessions = v.sessions;
    stands = stands;
    on_stays_on = on_is;
    reached = subst (λ (o : Option ℕ). IfSome o (λ first. first ≤ length new.listed.history)) (sym v.moves.on)
        (subst (λ (ps : List Placed). IfSome old.on (λ first. first ≤ length ps)) (sym v.history) s.tied.on_is);
    stock = λ st is. subst (λ (k : Stocked). IsStock (tape_on planned) (given_in drive fixed old) (on_in drive fixed old) st k) (sym v.stock) is;
    queue = ap (map request) v.wants.waiting ∙ s.tied.queue ∙ sym (ap (λ (st : State). st.requests) state_is);
    arrived = v.wants.arrived ∙ s.tied.arrived ∙ sym (ap (λ (st : State). st.arrived) state_is);
    none_due = ap due_ticket state_is ∙ s.tied.none_due;
    group = ap (λ (st : State). st.group) state_is;
    reads = reads_to (given_in drive fixed old) old.on new.on old.listed.history new.listed.history planned (drive.held fixed.first) old.stock.layout.ops new.stock.layout.ops
        (state old.trail) (state new.trail) old.reads new.reads v.moves.on v.history ops_are v.wants.reads (ap (λ (st : State). st.requests) state_is) s.tied.reads;
    cached = cached_still planned old.stock.layout.ops (drive.held fixed.first) old.cached new.cached v.cached s.tied.cached;
  })

  -- a write that is put off shows all that is asked of it
  pub shown : Shown drive fixed plan planned before after who nth submitted.Drain [] old new
  shown = record {
    submits = record {
      fixed = refl;
      drive = v.moves.drive;
      on = v.moves.on;
      kept = v.moves.kept;
      placing = record { history = v.history; replies = v.replies; next = s.unasked refl };
      added = Drains who ∷ [];
      adds = record { events = v.events; acks = v.acks ∙ sym (append-nil old.trail.acks) };
      of_it = refl;
      asks = subst (λ (c : Option Call). AsksUnlessVoid submitted.Drain (stands_in drive fixed old) old.trail.events (Drains who ∷ []) old.cached new.cached c) (sym s.is_call)
          (wants_none (stands_in drive fixed old) old.trail.events old.cached new.cached who (standing_ops (view_of fixed before old)) call v.cached (s.put_off.only refl));
      marks = v.marks;
      drain = subst (λ (c : Option Call). model.PutsOff (is_put_off (view_of fixed before old) c) submitted.Drain) (sym s.is_call) s.put_off;
    };
    rightly = rightly_shown;
    tied = tied_after;
  }
