-- A call that changes the tree shows all that is asked of it.
use Rattle.std.proofs.Common.{◌≡◌, ℕ, ◌≤◌, Bool, true, false, List, ◌++◌, length, map, fold, Option, Some, None, refl, sym, ap, ◌∙◌, subst, arith, append-nil}
use Rattle.std.proofs.lemmas.List.{append_cancel_left}
use Rattle.tape_types.specs.declared.cartridges.Part.{Part}
use Rattle.tape_types.specs.declared.moments.Moment.{Moment}
use Rattle.tape_drive.specs.declared.drive.Drive.{Ghosts}
use Rattle.plain_tree.specs.Calls.{answer}
use Rattle.plain_tree.specs.Refusals.{refusal_of}
use Rattle.plain_tree.specs.Tree as plain
use Rattle.plain_tree.specs.declared.calls.Answer.TheVariants as the_answers
use Rattle.plain_tree.specs.declared.calls.Call.{Call}
use Rattle.plain_tree.specs.declared.calls.Call.TheVariants as calls
use Rattle.file_tree.specs.Tree.{plain_of, whole}
use Rattle.file_tree.specs.Valid.{IsFileOf}
use Rattle.session_script.specs.declared.logs.Event.{Event}
use Rattle.session_script.specs.declared.logs.Reply.TheVariants as the_replies
use Rattle.head_queue.specs.EventLaws.Trail.{after, after_all}
use Rattle.head_queue.specs.EventLaws.Waiting.{State}
use Rattle.tape_layout.specs.Ops.{end_of, place_of}
use Rattle.tape_layout.specs.declared.ops.Op.{Op}
use Rattle.tape_layout.specs.declared.standing.Ends.{Ends}
use Rattle.space_laws.specs.Space.{Ask, ops_of}
use Rattle.space_laws.specs.Standing.{Given, Standing, ask_of, files_after, rules, uid_at}
use Rattle.promises.specs.ServingPromise.Replies.{may_wait}
use Rattle.promises.specs.ServingPromise.Served.{Fixed, is_waiting}
use Rattle.promises.specs.ServingPromise.Submits as model
use Rattle.promises.specs.ServingPromise.Submits.{Asks, IsOfDone, acks_for, is_put_off, queues_at}
use Rattle.promises.specs.declared.serving_promise.answers.Submitted.{Submitted}
use Rattle.promises.specs.declared.serving_promise.answers.Submitted.TheVariants as submitted
use Rattle.promises.proofs.OrderLaws.Owned.{after_more}
use Rattle.promises.specs.PromiseLaws.Kept.{Plan}
use Rattle.event_journal.specs.Trails.{state}
use Rattle.held_volume.specs.Applied.{IsDone}
use Rattle.held_volume.specs.Stocks.{IsStock}
use Rattle.held_volume.proofs.Asks.{unrefused}
use Rattle.volume_state.specs.PlanLaws.Planned.{Items, ends_in, tape_on, with_ops}
use Rattle.volume_state.specs.StateLaws.Parts.{Parts, view_of}
use Rattle.volume_state.specs.StateLaws.Placing.{Changes}
use Rattle.volume_state.specs.StateLaws.Tied.{AreFilesRight}
use Rattle.volume_state.specs.CallLaws.SubmitLaws.{IsSubmission, Shown}
use Rattle.volume_state.proofs.CallLaws.Admitted.{IsOne, given_in, on_in, space_in, standing_in, tied_on}
use Rattle.volume_state.proofs.CallLaws.Asking.{asks_none, done_answer, last_before, no_index, of_done, queues_answer_none, queues_queued, queues_unanswered, queues_want_none}
use Rattle.volume_state.proofs.CallLaws.Grouped.{IsQueued, due_same, queued_by, waiting_same}
use Rattle.volume_state.proofs.CallLaws.SubmitStandings.{file_lies, files_right, stands_low}
use Rattle.volume_state.proofs.CallLaws.Truly.{adds_ops, call_then, follows_on, placed_of, places_one, places_truly}
use Rattle.volume_state.proofs.CallLaws.Rightly.{rests_here}

abbrev done : Submitted
done = submitted.Ready (the_replies.Answer the_answers.Done)

module _ {D : Type 0} (drive : Ghosts D) (fixed : Fixed D) (plan : Plan drive fixed) (planned : Items) (before next : Option Moment)
    (who nth : ℕ) (call : Call) (at : Moment) (old new : Parts D)
    (sub : IsSubmission drive fixed plan planned before next who nth call at done old new) (c : Changes who nth call at old new) where
  abbrev g : Given
  g = given_in drive fixed

  abbrev on : Bool
  on = on_in drive fixed old

  abbrev st : Standing
  st = standing_in drive fixed old

  abbrev ask : Ask
  ask = ask_of g st call at

  abbrev stock : IsStock (tape_on planned) g on st old.stock
  stock = sub.tied.stock

  free : refusal_of (plain_of whole old.stock.tree) call ≡ None
  free = (c.applied (tape_on planned) g on st stock).0

  is_done : IsDone (tape_on planned) g on st call at old.stock new.stock
  is_done = (c.applied (tape_on planned) g on st stock).1

  asked_is : c.asked ≡ ops_of (rules g) on st.space ask
  asked_is = append_cancel_left old.stock.layout.ops c.asked (ops_of (rules g) on st.space ask) (sym c.ops ∙ is_done.ops)

  abbrev queues : List Event
  queues = queues_at (map place_of c.asked)

  -- ---- the ops that stand, and who waits

  state_is : state new.trail ≡ fold after (state old.trail) queues
  state_is = ap after_all c.events ∙ after_more old.trail.events queues

  queued : IsQueued c.asked (space_in drive fixed old call (placed_of who nth at)) (state old.trail) (state new.trail)
  queued = subst (λ (s : State). IsQueued c.asked (space_in drive fixed old call (placed_of who nth at)) (state old.trail) s) (sym state_is)
      (subst (λ (l : List Op). IsQueued l (space_in drive fixed old call (placed_of who nth at)) (state old.trail)
      (fold after (state old.trail) (queues_at (map place_of l)))) (sym asked_is)
      (queued_by (rules g) on st.space (state old.trail) ask (no_index g st call at c.no_wait) sub.tied.grouped))

  -- ---- the files

  no_read : (path : List (List ℕ)) (offset count : ℕ) → call ≡ calls.Read path offset count → ⊥
  no_read path offset count is =
      let wrong : true ≡ false = sym (ap may_wait is) ∙ c.no_wait in cc wrong

  low : (part : Part) → 4 ≤ end_of part (ends_in planned)
  low part = subst (λ (e : Ends). 4 ≤ end_of part e) sub.tied.ends
      (stands_low g old.on old.listed.history (length old.listed.history) sub.tied.mount.ip_end.0 sub.tied.mount.dp_end.0 part)

  written : (path : List (List ℕ)) (offset : ℕ) (bytes : List ℕ) → call ≡ calls.Write path offset bytes
      → IsFileOf g.mounted.label.block (st.files (uid_at st.tree.nodes path))
  written path offset bytes is =
      subst (λ (n : ℕ). IsFileOf n (st.files (uid_at st.tree.nodes path))) stock.block_size
      (subst (λ (t : plain.Tree). IsFileOf old.stock.tree.block_size (st.files (uid_at t.nodes path))) stock.plain
      (file_lies (tape_on planned) old.stock.tree st.files path offset bytes sub.good stock.files
      (ap (refusal_of (plain_of whole old.stock.tree)) (sym is) ∙ free)))

  files : AreFilesRight (files_after g on st call ask) (ends_in (with_ops c.asked planned)) (old.stock.layout.ops ++ c.asked)
  files = subst (λ (l : List Op). AreFilesRight (files_after g on st call ask) (ends_in (with_ops l planned)) (old.stock.layout.ops ++ l)) (sym asked_is)
      (files_right g on st planned old.stock.layout.ops sub.tied.ends low (omega (arith, sub.tied.mount.blocks.0)) sub.tied.files call ask written)

  one : IsOne drive fixed planned call (placed_of who nth at) c.asked old new
  one = record {
    tied = sub.tied;
    fate = refl;
    is_call = sub.is_call;
    history = c.places.history;
    calls = c.places.calls;
    sessions = c.places.sessions;
    moves = c.moves;
    wants = c.wants;
    cached = c.cached;
    done = is_done;
    ops = c.ops;
    group = queued.admitted;
    none_due = due_same (state old.trail) (state new.trail) queued.done queued.syncs ∙ sub.tied.none_due;
    files = files;
    back = last_before (rules g) on st.space ask planned c.asked (no_index g st call at c.no_wait) sub.tied.back;
  }

  -- ---- what is shown

  answered : the_answers.Done ≡ answer st.tree call
  answered = sym (done_answer st.tree call c.no_wait c.no_look (unrefused (tape_on planned) old.stock.tree st.tree call no_read free stock.plain))

  rests : is_waiting (state new.trail) (length old.listed.history) ≡ false
  rests = waiting_same (state old.trail) (state new.trail) (length old.listed.history) queued.admitted.requests queued.syncs
      ∙ rests_here drive fixed before next old new sub.kept.order

  no_acks : new.trail.acks ≡ old.trail.acks ++ acks_for (drive.commands new.drive) queues
  no_acks = c.acks ∙ sym (append-nil old.trail.acks)
      ∙ ap (λ (l : List ℕ). old.trail.acks ++ map (λ ticket. record { place = ticket; command = drive.commands new.drive }) l)
      (sym (queues_answer_none (map place_of c.asked)))

  -- a call that changes the tree shows all that is asked of it
  pub shown : Shown drive fixed plan planned before next who nth done c.asked old new
  shown = record {
    submits = record {
      fixed = refl;
      drive = c.moves.drive;
      on = c.moves.on;
      kept = c.moves.kept;
      placing = places_one drive fixed plan planned before next who nth call at done old new sub c.asked one
          (Some (the_replies.Answer the_answers.Done)) c.places queues c.events;
      added = queues;
      adds = record { events = c.events; acks = no_acks };
      of_it = subst (λ (o : Option Call). IsOfDone (length old.listed.history) old.trail.events o queues) (sym sub.is_call)
          (of_done (rules g) on st.space (length old.listed.history) old.trail.events g st call at c.asked c.no_wait asked_is);
      asks = subst (λ (o : Option Call). Asks st old.trail.events queues old.cached new.cached o) (sym sub.is_call)
          (asks_none st old.trail.events queues old.cached new.cached call c.no_wait (queues_want_none (map place_of c.asked)) c.cached);
      marks = c.places.marks;
      drain = subst (λ (o : Option Call). model.PutsOff (is_put_off (view_of fixed before old) o) done) (sym sub.is_call) sub.put_off;
    };
    rightly = record {
      order = record {
        moment = sub.one_moment;
        follows = follows_on drive fixed plan planned before next who nth call at done old new sub c.asked one
            (Some (the_replies.Answer the_answers.Done)) c.places queues c.events;
        answered = (rests, refl, sym (queues_unanswered (length old.listed.history) (map place_of c.asked)));
      };
      truth = λ can. places_truly drive fixed plan planned before next who nth call at done old new sub c.asked one
          (Some (the_replies.Answer the_answers.Done)) c.places queues c.events (queues_queued (map place_of c.asked))
          (record { within = is_done.fits; answered = answered });
      ops = λ can. adds_ops drive fixed plan planned before next who nth call at done old new sub c.asked one
          (Some (the_replies.Answer the_answers.Done)) c.places queues c.events;
      size = λ can. omega (arith, sub.tied.mount.blocks.0);
      due = λ can p history fate is changed. absurd (
          let same = call_then drive fixed plan planned before next who nth call at done old new sub c.asked one
          (Some (the_replies.Answer the_answers.Done)) c.places queues c.events p calls.Sync history is in
          let wrong : true ≡ false = sym (ap may_wait same.0) ∙ c.no_wait in
          cc wrong);
    };
    tied = tied_on drive fixed planned call (placed_of who nth at) c.asked old new one;
  }
