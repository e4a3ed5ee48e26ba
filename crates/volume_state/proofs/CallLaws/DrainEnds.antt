-- How a turn of a session that drains ends: what it adds, and what is asked of it.
use Rattle.std.proofs.Common.{◌≡◌, ◌==◌, ◌||◌, not, ℕ, Bool, true, false, cond, List, [], ◌∷◌, ◌++◌, drop, length, map, Option, Some, None, inl, inr, ⊎_elim, append-nil, append_assoc, refl, sym, ap, subst, ◌∙◌, arith}
use Rattle.std.specs.Prelude.{IfSome, filter_map, slice_get}
use Rattle.std.specs.List.{cons_option, list_any}
use Rattle.std.proofs.lemmas.List.Elements.{filter_map-append}
use Rattle.tape_types.proofs.LongerLists.{slice_get-seam}
use Rattle.tape_types.specs.declared.cartridges.Twin.{Twin}
use Rattle.tape_types.specs.declared.moments.Moment.{Moment}
use Rattle.tape_drive.specs.declared.drive.Drive.{Ghosts}
use Rattle.plain_tree.specs.declared.calls.Call.{Call}
use Rattle.plain_tree.specs.declared.calls.Fate.TheVariants as fates
use Rattle.plain_tree.specs.declared.calls.Placed.{Placed}
use Rattle.session_script.specs.declared.logs.Ack.{Ack}
use Rattle.session_script.specs.declared.logs.Event.{Event}
use Rattle.session_script.specs.declared.logs.Event.TheVariants.{Rests}
use Rattle.session_script.specs.declared.logs.Reply.{Reply}
use Rattle.session_script.specs.declared.logs.Reply.TheVariants as the_replies
use Rattle.head_queue.specs.EventLaws.Trail.{IsTrail, after_all, is_trail_from, of_call, owned_by, steps}
use Rattle.head_queue.specs.EventLaws.Trail.{after as next_state}
use Rattle.head_queue.specs.EventLaws.Waiting as waiting
use Rattle.head_queue.specs.EventLaws.Waiting.{State}
use Rattle.tape_layout.specs.declared.ops.Op.{Op}
use Rattle.promises.specs.ServingPromise.Acks.{synced_ticket}
use Rattle.promises.specs.ServingPromise.Asking.{is_write_at}
use Rattle.promises.specs.ServingPromise.Faults.{kept_for}
use Rattle.promises.specs.ServingPromise.Marks.{draining, mark, phase, placed_and_handed, places_of}
use Rattle.promises.specs.ServingPromise.Replies.{IsFaultOf, is_write}
use Rattle.promises.specs.ServingPromise.Served.{Fixed, View, headed}
use Rattle.promises.specs.ServingPromise.Steps.{DrainsOnce, drain_faults, without_session}
use Rattle.promises.specs.ServingPromise.Submits.{acks_for, call_of}
use Rattle.promises.specs.declared.serving_promise.answers.Drained.{Drained}
use Rattle.promises.specs.declared.serving_promise.answers.Drained.TheVariants as the_drained
use Rattle.promises.specs.declared.serving_promise.marks.MarkKind.TheVariants as kinds
use Rattle.promises.specs.declared.serving_promise.marks.Mark.{Mark}
use Rattle.promises.specs.OrderLaws.Kept.{seen}
use Rattle.promises.specs.OrderLaws.Laws.{IsInOrder}
use Rattle.promises.specs.OrderLaws.Sides.{AsksOneMoment, DrainsInOrder, MovesOn}
use Rattle.promises.proofs.OrderLaws.Frames.{no_step_owned}
use Rattle.promises.proofs.OrderLaws.Told.{owned_more}
use Rattle.promises.proofs.OrderLaws.TurnLaw.{drain_turns_keep}
use Rattle.promises.specs.ReplyLaws.Draining.{DrainsForWrites}
use Rattle.promises.specs.ReplyLaws.Sides.{VoidsTruly, does_op}
use Rattle.promises.specs.ReplyLaws.Within.{AnswersTruly}
use Rattle.promises.proofs.ReplyLaws.Happened.{trail_behind}
use Rattle.promises.proofs.ReplyLaws.Owned.{told_faults_are_owned}
use Rattle.promises.specs.CrashLaws.Changes.{AreDriven}
use Rattle.promises.proofs.CrashLaws.Submitted.{state_after}
use Rattle.held_volume.specs.Stocks.{Stocked}
use Rattle.promises.specs.PromiseLaws.Kept.{CanRead, DrainsRightly}
use Rattle.volume_state.specs.PlanLaws.Planned.{Items}
use Rattle.volume_state.specs.StateLaws.Parts.{Parts, view_of}
use Rattle.volume_state.specs.StateLaws.Tied.{IsTied}
use Rattle.volume_state.specs.CallLaws.Draining.{IsFull, RestsNow, TakesFault}
use Rattle.volume_state.specs.CallLaws.Running.{HasAnswers}
use Rattle.volume_state.proofs.CallLaws.DrainAnswers.{answers_fault, answers_rest}
use Rattle.volume_state.proofs.CallLaws.DrainMade.{Went, driven_on, standing_count, step_on}
use Rattle.volume_state.proofs.CallLaws.DrainTies.{tied_faulted, tied_resting}

-- ---- small facts

-- where no fault is kept for a session, none goes
without_none : (who : ℕ) (kept : List (ℕ × Twin)) → kept_for who kept ≡ [] → without_session who kept ≡ kept
without_none who [] none = refl
without_none who (x ∷ kept) none = by (x.0 == who) none (without_none who kept)
  where
    by : (b : Bool) → cons_option (cond b (Some x.1) None) (kept_for who kept) ≡ [] → (kept_for who kept ≡ [] → without_session who kept ≡ kept)
        → cond (not b) (x ∷ without_session who kept) (without_session who kept) ≡ x ∷ kept
    by true h more = absurd (cc)
    by false h more = ap (λ l. x ∷ l) (more h)

-- a rest adds no ack, and does no op
acks_rest : (commands who : ℕ) (made : List Event) → acks_for commands (made ++ Rests who ∷ []) ≡ acks_for commands made
acks_rest commands who made =
    ap (λ (tickets : List ℕ). map (λ ticket. record { place = ticket; command = commands }) tickets)
    (filter_map-append synced_ticket made (Rests who ∷ []) ∙ append-nil (filter_map synced_ticket made))

rest_does_none : (who : ℕ) (made : List Event) → list_any does_op (made ++ Rests who ∷ []) ≡ list_any does_op made
rest_does_none who [] = refl
rest_does_none who (e ∷ made) = ap (λ b. does_op e || b) (rest_does_none who made)

write_of : (o : Option Call) → is_write_at o ≡ true → (call : Call) × (o ≡ Some call) × (is_write call ≡ true)
write_of None is = absurd (cc)
write_of (Some call) is = (call, refl, is)

-- what a turn shows, and what it leaves
pub record Ends {D : Type 0} (drive : Ghosts D) (fixed : Fixed D) (planned : Items) (before after : Option Moment) (who : ℕ)
    (answer : Drained) (old new : Parts D) : Type 0 where
  pub once : DrainsOnce drive.MOST (seen drive old.drive) (seen drive new.drive) (view_of fixed before old) (view_of fixed after new) who answer
  pub rightly : DrainsRightly drive fixed (view_of fixed before old) (view_of fixed after new) who once.made answer
  pub driven : AreDriven drive (view_of fixed before old) (view_of fixed after new) once.made
  pub tied : IsTied drive fixed planned new
  pub answers : HasAnswers new

module _ {D : Type 0} (drive : Ghosts D) (fixed : Fixed D) (planned : Items) (before : Option Moment) (who : ℕ) (old mid : Parts D) (made : List Event)
    (order : IsInOrder drive (view_of fixed before old)) (drains : phase who old.listed.marks ≡ draining)
    (went : Went drive fixed planned before who old mid made) where
  abbrev v : View D
  v = view_of fixed before old

  abbrev u : View D
  u = view_of fixed before mid

  drains_then : phase who mid.listed.marks ≡ draining
  drains_then = ap (λ (ms : List Mark). phase who ms) went.came.marks ∙ drains

  -- ---- it is told of its fault

  module _ (after : Option Moment) (at : Moment) (counts : Twin) (new : Parts D) (writes : DrainsForWrites v) (moment : IfSome before (λ m. at ≡ m))
      (asks : AsksOneMoment v (the_drained.Fault counts)) (t : TakesFault who (length (places_of who old.listed.marks)) at counts mid new) where
    abbrev fault : Reply
    fault = the_replies.Fault counts

    abbrev placed : Placed
    placed = record { who = who; nth = length (places_of who old.listed.marks); at = at; fate = fates.Void }

    abbrev w : View D
    w = view_of fixed after new

    history_is : new.listed.history ≡ old.listed.history ++ placed ∷ []
    history_is = t.places.history ∙ ap (λ (ps : List Placed). ps ++ placed ∷ []) went.came.history

    replies_are : new.listed.replies ≡ old.listed.replies ++ Some fault ∷ []
    replies_are = t.places.replies
        ∙ ap (λ (rs : List (Option Reply)). rs ++ Some fault ∷ []) (went.untold (omega (arith, ap (λ (l : List Twin). length l) t.is_kept)))

    abbrev fault_once : DrainsOnce drive.MOST (seen drive old.drive) (seen drive new.drive) v w who (the_drained.Fault counts)
    fault_once = record {
      fixed = refl;
      made = made;
      adds = record {
        events = t.events ∙ went.came.adds.events ∙ ap (λ (l : List Event). old.trail.events ++ l) (sym (append-nil made));
        acks = t.tape.acks ∙ went.came.adds.acks ∙ ap (λ (d : D). old.trail.acks ++ acks_for (drive.commands d) made) (sym t.tape.drive)
            ∙ ap (λ (l : List Event). old.trail.acks ++ acks_for (drive.commands new.drive) l) (sym (append-nil made));
      };
      step = step_on drive v u w t.tape.drive t.tape.on (ap (λ (k : Stocked). k.layout.ops) t.tape.stock) t.tape.cached drive.MOST made went.came.step;
      none = went.none;
      kept = t.kept ∙ ap (λ (l : List (ℕ × Twin)). without_session who l) went.came.kept;
      marks = t.places.marks ∙ ap (λ (ms : List Mark). ms ++ placed_and_handed who (length mid.listed.history) fault) went.came.marks
          ∙ ap (λ (ps : List Placed). old.listed.marks ++ placed_and_handed who (length ps) fault) went.came.history;
      answered = (
        ap (λ (l : List (ℕ × Twin)). kept_for who l) (sym went.came.kept) ∙ t.is_kept,
        record { placed = placed; fate_is = refl; history = history_is; who_is = refl; nth_is = refl; moment = moment; replies = replies_are },
      );
    }

    fault_order : DrainsInOrder (seen drive old.drive) (seen drive new.drive) v w who made (the_drained.Fault counts)
    fault_order = record {
      moment = asks;
      follows = record {
        trail = subst (λ (l : List Event). is_trail_from (after_all old.trail.events) l ≡ true) (sym (append-nil made)) went.came.order.follows.trail;
        standing = ap (λ (k : Stocked). map headed k.layout.ops) t.tape.stock ∙ went.came.order.follows.standing
            ∙ sym (ap (λ (es : List Event). waiting.ops (after_all es)) t.events);
      };
      replied = tt;
      moves = subst (λ (d : D). MovesOn (seen drive old.drive) (seen drive d) made) (sym t.tape.drive) went.came.order.moves;
    }

    order_then : IsInOrder drive w
    order_then = drain_turns_keep drive drive.MOST v w who (the_drained.Fault counts) order drains fault_once fault_order

    at_last : slice_get new.listed.replies (length old.listed.history) ≡ Some (Some fault)
    at_last = ap (λ (rs : List (Option Reply)). slice_get rs (length old.listed.history)) replies_are
        ∙ ap (λ n. slice_get (old.listed.replies ++ Some fault ∷ []) n) (sym order.count) ∙ slice_get-seam old.listed.replies (Some fault)

    voids : CanRead drive fixed → VoidsTruly (seen drive fixed.first) v w who counts
    voids can =
        let a = went.came.truth can in
        let call = write_of (call_of v who (length (places_of who old.listed.marks))) (writes who drains) in
        record {
          call = call.0;
          is_call = call.1;
          writes = call.2;
          owned = told_faults_are_owned new.listed.history new.trail.events new.listed.replies new.trail.kept (drive.faults fixed.first) (drive.faults new.drive)
              order_then.orderly.faults (length old.listed.history) placed counts
              (ap (λ (ps : List Placed). slice_get ps (length old.listed.history)) history_is ∙ slice_get-seam old.listed.history placed) at_last;
          added = a.added;
          events = t.events ∙ a.events;
          ops = ap (λ (k : Stocked). k.layout.ops) t.tape.stock ∙ a.ops;
        }

    driven_fault : AreDriven drive v w made
    driven_fault = driven_on drive v u w t.tape.drive t.tape.on
        (ap (λ (k : Stocked). k.layout.ops) t.tape.stock) t.tape.cached made went.came.driven

    -- a drain that ends with its fault adds what is promised of it
    pub fault_ends : Ends drive fixed planned before after who (the_drained.Fault counts) old new
    fault_ends = record {
      once = fault_once;
      rightly = record {
        order = fault_order;
        truth = voids;
        driven = λ can. driven_fault;
      };
      driven = driven_fault;
      tied = tied_faulted drive fixed planned who (length (places_of who old.listed.marks)) at counts mid new went.tied t;
      answers = answers_fault who (length (places_of who old.listed.marks)) at counts mid new went.answers drains_then t;
    }

  -- ---- it rests

  module _ (after : Option Moment) (new : Parts D) (same : after ≡ before) (r : RestsNow who mid new) where
    abbrev rest : List Event
    rest = Rests who ∷ []

    abbrev resting : View D
    resting = view_of fixed after new

    events_are : new.trail.events ≡ old.trail.events ++ (made ++ rest)
    events_are = r.events ∙ ap (λ (l : List Event). l ++ rest) went.came.adds.events ∙ append_assoc old.trail.events made rest

    ops_are : new.stock.layout.ops ≡ mid.stock.layout.ops
    ops_are = ap (λ (k : Stocked). k.layout.ops) r.tape.stock

    state_is : after_all new.trail.events ≡ next_state (after_all mid.trail.events) (Rests who)
    state_is = state_after mid.trail.events new.trail.events rest r.events

    standing_is : map headed new.stock.layout.ops ≡ waiting.ops (after_all new.trail.events)
    standing_is = ap (λ (l : List Op). map headed l) ops_are ∙ went.came.order.follows.standing ∙ sym (ap (λ (st : State). waiting.ops st) state_is)

    none_kept : kept_for who (old.trail.kept ++ drain_faults v made) ≡ []
    none_kept = ap (λ (l : List (ℕ × Twin)). kept_for who l) (sym went.came.kept) ∙ r.none

    abbrev rest_once : DrainsOnce drive.MOST (seen drive old.drive) (seen drive new.drive) v resting who the_drained.Room
    rest_once = record {
      fixed = refl;
      made = made;
      adds = record {
        events = events_are;
        acks = r.tape.acks ∙ went.came.adds.acks ∙ ap (λ (d : D). old.trail.acks ++ acks_for (drive.commands d) made) (sym r.tape.drive)
            ∙ ap (λ (l : List Ack). old.trail.acks ++ l) (sym (acks_rest (drive.commands new.drive) who made));
      };
      step = step_on drive v u resting r.tape.drive r.tape.on ops_are r.tape.cached drive.MOST made went.came.step;
      none = went.none;
      kept = r.kept ∙ went.came.kept ∙ sym (without_none who (old.trail.kept ++ drain_faults v made) none_kept);
      marks = r.marks ∙ ap (λ (ms : List Mark). ms ++ mark who kinds.Rests ∷ []) went.came.marks;
      answered = (
        none_kept,
        omega (arith, r.room, standing_count new.stock.layout.ops new.trail.events standing_is, ap (λ (l : List Op). length l) ops_are),
        record {
          history = r.history ∙ went.came.history;
          next = same;
          replies = record {
            count = ap (λ (l : List (Option Reply)). length l) r.replies ∙ went.came.replies.count;
            each = λ k reply e. ap (λ (l : List (Option Reply)). slice_get l k) r.replies ∙ went.came.replies.each k reply e;
          };
        },
      );
    }

    rest_order : DrainsInOrder (seen drive old.drive) (seen drive new.drive) v resting who made the_drained.Room
    rest_order = record {
      moment = tt;
      follows = record {
        trail = trail_behind old.trail.events (made ++ rest) (subst IsTrail events_are r.trail);
        standing = standing_is;
      };
      replied = λ k reply was now. went.came.order.replied k reply was (ap (λ (l : List (Option Reply)). slice_get l k) (sym r.replies) ∙ now);
      moves = subst (λ (d : D). MovesOn (seen drive old.drive) (seen drive d) made) (sym r.tape.drive) went.came.order.moves;
    }

    -- a rest owns no fault
    owned_as : (k : ℕ) → owned_by (of_call k) mid.trail.events ≡ owned_by (of_call k) new.trail.events
    owned_as k = sym (ap (λ (es : List Event). owned_by (of_call k) es) r.events ∙ owned_more (of_call k) mid.trail.events rest
        ∙ ap (λ l. owned_by (of_call k) mid.trail.events ++ l) (no_step_owned (after_all mid.trail.events) (of_call k) rest refl)
        ∙ append-nil (owned_by (of_call k) mid.trail.events))

    rest_truly : CanRead drive fixed → AnswersTruly (seen drive fixed.first) v resting
    rest_truly can =
        let a = went.came.truth can in
        record {
          came = λ k p call reply is is_call was there. ⊎_elim (λ same. inl same)
              (λ owns. inr (subst (λ (l : List Twin). IsFaultOf l reply) (owned_as k) owns))
              (a.came k p call reply is is_call was (ap (λ (l : List (Option Reply)). slice_get l k) (sym r.replies) ∙ there));
          added = a.added ++ rest;
          events = r.events ∙ ap (λ (l : List Event). l ++ rest) a.events ∙ append_assoc old.trail.events a.added rest;
          ops = ops_are ∙ a.ops ∙ ap (λ b. cond b (drop 1 old.stock.layout.ops) old.stock.layout.ops) (sym (rest_does_none who a.added));
        }

    driven_rest : AreDriven drive v resting made
    driven_rest = driven_on drive v u resting r.tape.drive r.tape.on ops_are r.tape.cached made went.came.driven

    -- a drain that ends because there is room adds what is promised of it
    pub rest_ends : Ends drive fixed planned before after who the_drained.Room old new
    rest_ends = record {
      once = rest_once;
      rightly = record {
        order = rest_order;
        truth = rest_truly;
        driven = λ can. driven_rest;
      };
      driven = driven_rest;
      tied = tied_resting drive fixed planned who mid new went.tied r;
      answers = answers_rest who mid new went.answers drains_then r;
    }

  -- ---- it drains on

  module _ (after : Option Moment) (same : after ≡ before) (one : steps made ≡ 1) (full : IsFull who mid) where
    abbrev going_on : View D
    going_on = view_of fixed after mid

    none_left : kept_for who (old.trail.kept ++ drain_faults v made) ≡ []
    none_left = ap (λ (l : List (ℕ × Twin)). kept_for who l) (sym went.came.kept) ∙ full.none

    abbrev more_once : DrainsOnce drive.MOST (seen drive old.drive) (seen drive mid.drive) v going_on who the_drained.More
    more_once = record {
      fixed = refl;
      made = made;
      adds = record {
        events = went.came.adds.events ∙ ap (λ (l : List Event). old.trail.events ++ l) (sym (append-nil made));
        acks = went.came.adds.acks ∙ ap (λ (l : List Event). old.trail.acks ++ acks_for (drive.commands mid.drive) l) (sym (append-nil made));
      };
      step = step_on drive v u going_on refl refl refl refl drive.MOST made went.came.step;
      none = went.none;
      kept = went.came.kept ∙ sym (without_none who (old.trail.kept ++ drain_faults v made) none_left);
      marks = went.came.marks ∙ sym (append-nil old.listed.marks);
      answered = (
        none_left,
        omega (arith, full.many, standing_count mid.stock.layout.ops mid.trail.events went.came.order.follows.standing),
        one,
        record { history = went.came.history; next = same; replies = record { count = went.came.replies.count; each = went.came.replies.each } },
      );
    }

    more_order : DrainsInOrder (seen drive old.drive) (seen drive mid.drive) v going_on who made the_drained.More
    more_order = record {
      moment = tt;
      follows = record {
        trail = subst (λ (l : List Event). is_trail_from (after_all old.trail.events) l ≡ true) (sym (append-nil made)) went.came.order.follows.trail;
        standing = went.came.order.follows.standing;
      };
      replied = went.came.order.replied;
      moves = went.came.order.moves;
    }

    more_truly : CanRead drive fixed → AnswersTruly (seen drive fixed.first) v going_on
    more_truly can = let a = went.came.truth can in record { came = a.came; added = a.added; events = a.events; ops = a.ops }

    driven_more : AreDriven drive v going_on made
    driven_more = driven_on drive v u going_on refl refl refl refl made went.came.driven

    -- a drain that goes on adds what is promised of it
    pub more_ends : Ends drive fixed planned before after who the_drained.More old mid
    more_ends = record {
      once = more_once;
      rightly = record { order = more_order; truth = more_truly; driven = λ can. driven_more };
      driven = driven_more;
      tied = went.tied;
      answers = went.answers;
    }
