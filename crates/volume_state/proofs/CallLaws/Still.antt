-- A placement with its reply that leaves the stock's ops, the events and all that waits.
use Rattle.std.proofs.Common.{◌≡◌, ℕ, ◌≤◌, false, List, [], ◌∷◌, ◌++◌, length, map, Option, Some, None, append-nil, length-append, refl, sym, ap, subst, ◌∙◌, arith}
use Rattle.std.specs.Prelude.{All, IfSome}
use Rattle.tape_types.specs.declared.moments.Moment.{Moment}
use Rattle.tape_drive.specs.declared.drive.Drive.{Ghosts}
use Rattle.plain_tree.specs.declared.calls.Call.{Call}
use Rattle.plain_tree.specs.declared.calls.Fate.{Fate}
use Rattle.plain_tree.specs.declared.calls.Placed.{Placed}
use Rattle.session_script.specs.declared.logs.Event.{Event}
use Rattle.session_script.specs.declared.logs.Reply.{Reply}
use Rattle.head_queue.specs.Waiting.{request}
use Rattle.head_queue.specs.EventLaws.Trail.{after_all}
use Rattle.head_queue.specs.EventLaws.Waiting.{State, ops}
use Rattle.tape_layout.specs.declared.ops.Op.{Op}
use Rattle.tape_layout.specs.Ops.{place_of}
use Rattle.space_laws.specs.Standing.{Standing, admitted_at}
use Rattle.promises.specs.ServingPromise.Acks.{is_synced}
use Rattle.promises.specs.ServingPromise.Faults.{told}
use Rattle.promises.specs.ServingPromise.Served.{Fixed, View, headed, is_waiting}
use Rattle.promises.specs.ServingPromise.Submits as model
use Rattle.promises.specs.ServingPromise.Submits.{AsksUnlessVoid, IsOfFate, call_of, fate_for, is_put_off}
use Rattle.promises.specs.declared.serving_promise.answers.Submitted.TheVariants as submitted
use Rattle.promises.specs.OrderLaws.Kept.{seen}
use Rattle.promises.specs.ReplyLaws.Sides.{IsReadyHere, PlacesTruly, ops_here}
use Rattle.promises.proofs.ReplyLaws.Places.{admits}
use Rattle.promises.specs.CrashLaws.Laws.{CanServe}
use Rattle.promises.specs.PromiseLaws.Kept.{CanRead, Plan, SubmitsRightly, SyncsAreDue}
use Rattle.held_volume.specs.Stocks.{IsStock}
use Rattle.event_journal.specs.Trails.{due_ticket, state}
use Rattle.volume_state.specs.PlanLaws.Planned.{Items, tape_on, with_ops}
use Rattle.volume_state.specs.StateLaws.Parts.{Parts, view_of}
use Rattle.volume_state.specs.StateLaws.Placing.{AsksNothing, PlacesCall}
use Rattle.volume_state.specs.StateLaws.Tied.{IsKeptRightly, IsTied}
use Rattle.volume_state.specs.CallLaws.SubmitLaws.{IsSubmission, Shown}
use Rattle.volume_state.proofs.CallLaws.Placed.{given_in, on_after, on_in, reached_later, reads_later, reads_to, stands_in, tied_still}
use Rattle.volume_state.proofs.CallLaws.Rightly.{adds_by, follows_by, rests_here}

module _ {D : Type 0} (drive : Ghosts D) (fixed : Fixed D) (plan : Plan drive fixed) (planned : Items)
    (before after : Option Moment) (who nth : ℕ) (call : Call) (at : Moment) (reply : Reply) (fate : Fate) (old new : Parts D)
    (s : IsSubmission drive fixed plan planned before after who nth call at (submitted.Ready reply) old new)
    (fate_is : fate_for reply ≡ fate) (asks : AsksNothing old new) (places : PlacesCall who nth at fate (Some reply) old new)
    (ops_are : new.stock.layout.ops ≡ old.stock.layout.ops) where
  abbrev v : View D
  v = view_of fixed before old

  abbrev w : View D
  w = view_of fixed after new

  abbrev here : ℕ
  here = length old.listed.history

  abbrev pub placed : Placed
  placed = record { who = who; nth = nth; at = at; fate = fate }

  events_are : new.trail.events ≡ old.trail.events ++ []
  events_are = asks.events ∙ sym (append-nil old.trail.events)

  state_is : state new.trail ≡ state old.trail
  state_is = ap after_all asks.events

  standing : map headed new.stock.layout.ops ≡ ops (after_all new.trail.events)
  standing = ap (map headed) ops_are ∙ s.kept.order.orderly.standing ∙ sym (ap (λ (es : List Event). ops (after_all es)) asks.events)

  rests : is_waiting (after_all new.trail.events) here ≡ false
  rests = ap (λ (es : List Event). is_waiting (after_all es) here) asks.events ∙ rests_here drive fixed before after old new s.kept.order

  abbrev admitted_here : Option Call → List Op
  admitted_here c = ops_here (given_in drive fixed old) (on_in drive fixed old) (stands_in drive fixed old) fate c at

  admits_none : admitted_here (Some call) ≡ [] → admitted_at (given_in drive fixed old) old.on old.listed.history here placed ≡ []
  admits_none none =
      admits (given_in drive fixed old) old.on old.listed.history here placed
      ∙ ap (λ (c : Option Call). admitted_here c) s.is_call ∙ none

  truly : IsReadyHere (given_in drive fixed old) (on_in drive fixed old) (stands_in drive fixed old) call at reply → admitted_here (Some call) ≡ []
      → PlacesTruly (seen drive fixed.first) v w who nth fate (Some reply)
  truly ready none = record {
    call = call;
    is_call = s.is_call;
    at = at;
    history = places.history;
    ready = ready;
    added = [];
    events = events_are;
    queues = sym (ap (map place_of) none);
    ops = ops_are ∙ sym (append-nil old.stock.layout.ops) ∙ ap (λ (l : List Op). old.stock.layout.ops ++ l) (sym none);
  }

  reached : IfSome new.on (λ first. first ≤ length new.listed.history)
  reached = subst (λ (o : Option ℕ). IfSome o (λ first. first ≤ length new.listed.history)) (sym asks.moves.on)
      (subst (λ (n : ℕ). IfSome old.on (λ first. first ≤ n))
      (sym (ap (λ (ps : List Placed). length ps) places.history ∙ length-append old.listed.history (placed ∷ [])))
      (reached_later old.on here s.tied.on_is))

  rightly_shown : told (Some reply) ≡ None → is_synced (Some reply) ≡ false
      → (CanRead drive fixed → IsReadyHere (given_in drive fixed old) (on_in drive fixed old) (stands_in drive fixed old) call at reply) → admitted_here (Some call) ≡ []
      → ((can : CanServe drive fixed) → SyncsAreDue (drive.limits fixed.first) (plan can) v w)
      → SubmitsRightly drive fixed plan v w who nth [] (submitted.Ready reply)
  rightly_shown no_fault no_sync ready none due = record {
    order = record {
      moment = s.one_moment;
      follows = follows_by drive fixed before after old new [] asks.moves.trail events_are standing;
      answered = (rests, no_fault, no_sync);
    };
    truth = λ can. subst (λ (f : Fate). PlacesTruly (seen drive fixed.first) v w who nth f (Some reply)) (sym fate_is) (truly (ready can) none);
    ops = λ can. adds_by drive fixed before after old new placed [] places.history (ops_are ∙ sym (append-nil old.stock.layout.ops)) (admits_none none);
    size = λ can. omega (arith, s.tied.mount.blocks.0);
    due = due;
  }

  tied_after : stands_in drive fixed new ≡ stands_in drive fixed old
      → ((st : Standing) → IsStock (tape_on planned) (given_in drive fixed old) (on_in drive fixed old) st old.stock
      → IsStock (tape_on planned) (given_in drive fixed old) (on_in drive fixed old) st new.stock)
      → All (IsKeptRightly planned old.stock.layout.ops (drive.held fixed.first)) new.cached
      → IsTied drive fixed (with_ops [] planned) new
  tied_after stands stock cached = tied_still drive fixed planned old new s.tied (record {
    drive_is = asks.moves.drive;
    ops = ops_are;
    calls = places.calls;
    sessions = places.sessions;
    stands = stands;
    on_stays_on = on_after drive fixed old new placed asks.moves.on places.history s.tied.on_is;
    reached = reached;
    stock = stock;
    queue = ap (map request) asks.wants.waiting ∙ s.tied.queue ∙ sym (ap (λ (st : State). st.requests) state_is);
    arrived = asks.wants.arrived ∙ s.tied.arrived ∙ sym (ap (λ (st : State). st.arrived) state_is);
    none_due = ap due_ticket state_is ∙ s.tied.none_due;
    group = ap (λ (st : State). st.group) state_is;
    reads = reads_to (given_in drive fixed old) old.on new.on (old.listed.history ++ placed ∷ []) new.listed.history planned (drive.held fixed.first) old.stock.layout.ops new.stock.layout.ops
        (state old.trail) (state new.trail) old.reads new.reads asks.moves.on places.history ops_are asks.wants.reads (ap (λ (st : State). st.requests) state_is)
        (reads_later (given_in drive fixed old) old.on old.listed.history placed planned (drive.held fixed.first) old.stock.layout.ops (state old.trail) old.reads s.tied.reads);
    cached = cached;
  })

  -- a reply that comes at once and changes nothing else shows all that is asked
  pub still_shown : IsOfFate fate here old.trail.events (Some call) []
      → AsksUnlessVoid (submitted.Ready reply) (stands_in drive fixed old) old.trail.events [] old.cached new.cached (Some call)
      → told (Some reply) ≡ None → is_synced (Some reply) ≡ false
      → (CanRead drive fixed → IsReadyHere (given_in drive fixed old) (on_in drive fixed old) (stands_in drive fixed old) call at reply) → admitted_here (Some call) ≡ []
      → ((can : CanServe drive fixed) → SyncsAreDue (drive.limits fixed.first) (plan can) v w)
      → stands_in drive fixed new ≡ stands_in drive fixed old
      → ((st : Standing) → IsStock (tape_on planned) (given_in drive fixed old) (on_in drive fixed old) st old.stock
      → IsStock (tape_on planned) (given_in drive fixed old) (on_in drive fixed old) st new.stock)
      → All (IsKeptRightly planned old.stock.layout.ops (drive.held fixed.first)) new.cached
      → Shown drive fixed plan planned before after who nth (submitted.Ready reply) [] old new
  still_shown of_it wants no_fault no_sync ready none due stands stock cached = record {
    submits = record {
      fixed = refl;
      drive = asks.moves.drive;
      on = asks.moves.on;
      kept = asks.moves.kept;
      placing = record {
        placed = placed;
        fate_is = sym fate_is;
        history = places.history;
        who_is = refl;
        nth_is = refl;
        moment = s.moment;
        replies = places.replies;
      };
      added = [];
      adds = record { events = events_are; acks = asks.acks ∙ sym (append-nil old.trail.acks) };
      of_it = subst (λ (f : Fate). IsOfFate f here old.trail.events (call_of v who nth) []) (sym fate_is)
          (subst (λ (c : Option Call). IsOfFate fate here old.trail.events c []) (sym s.is_call) of_it);
      asks = subst (λ (c : Option Call). AsksUnlessVoid (submitted.Ready reply) (stands_in drive fixed old) old.trail.events [] old.cached new.cached c) (sym s.is_call) wants;
      marks = places.marks;
      drain = subst (λ (c : Option Call). model.PutsOff (is_put_off v c) (submitted.Ready reply)) (sym s.is_call) s.put_off;
    };
    rightly = rightly_shown no_fault no_sync ready none due;
    tied = tied_after stands stock cached;
  }
