-- Calls of a volume that their definitions accept, and calls that are damaged in one way.
use Rattle.std.specs.Prelude.{codes, ◌≡◌, ℕ, zero, suc, All, List, [], ◌∷◌, ◌++◌, length, Option, Some, None, slice_get}
use Rattle.std.proofs.Common.{refl, arith, sym, ap, ◌∙◌, ⊎_elim, true≢false, drop, get_or, map, true, inl}
use Rattle.tape_types.specs.declared.moments.Moment.{Moment}
use Rattle.tape_types.specs.declared.cartridges.Item.{Item}
use Rattle.tape_types.specs.declared.cartridges.Item.TheVariants.{Block}
use Rattle.tape_types.specs.declared.cartridges.Place.{Place}
use Rattle.plain_tree.specs.declared.calls.Call.{Call}
use Rattle.plain_tree.specs.declared.calls.Call.TheVariants.{Sync}
use Rattle.plain_tree.specs.declared.calls.Fate.TheVariants as fates
use Rattle.session_script.specs.declared.logs.Event.{Event}
use Rattle.session_script.specs.declared.logs.Event.TheVariants.{Synced, Syncs, Wants, Worked, Drains}
use Rattle.session_script.specs.declared.logs.Reply.{Reply}
use Rattle.head_queue.specs.EventLaws.Rows.{dp, queues, twin}
use Rattle.head_queue.specs.EventLaws.Waiting.{Op, first_of, waiting_op}
use Rattle.head_queue.specs.EventLaws.Trail.{after_all, is_answer, steps}
use Rattle.tape_layout.specs.declared.ops.Op.TheVariants.{Put}
use Rattle.promises.specs.ServingPromise.Steps.{DrainsOnce, HeadIsBehind, HeadIsRead, IsOnTape, Turns, on_after, one_step}
use Rattle.promises.specs.ServingPromise.Submits.{Submits, acks_for, queues_at, synced_at}
use Rattle.promises.specs.declared.serving_promise.answers.Submitted.TheVariants as submitted
use Rattle.promises.specs.ServingPromise.Trials.{done, fault, placed, read, synced, write}
use Rattle.promises.specs.ServingPromise.Turning.{after_flush, before_flush, before_third, both_view, placed_third, sync_added, syncs_first, sync_failed_view, drive_at, draining_view, faulted, holding, handed_marks, rested_view, waiting_marks, before_write, put_off}
use Rattle.promises.specs.declared.serving_promise.answers.Drained.TheVariants as drained
use Rattle.promises.specs.declared.serving_promise.answers.Turn.TheVariants as turns

all_of_one : {X : Type 0} (P : X → Type 0) (x : X) → P x → All P (x ∷ [])
all_of_one P x p zero d less = p
all_of_one P x p (suc k) d less = absurd (omega (arith, less))

all_of_two : {X : Type 0} (P : X → Type 0) (x y : X) → P x → P y → All P (x ∷ y ∷ [])
all_of_two P x y p q zero d less = p
all_of_two P x y p q (suc zero) d less = q
all_of_two P x y p q (suc (suc k)) d less = absurd (omega (arith, less))

-- the replies that were there stay
stay : (k : ℕ) (reply : Reply) → slice_get (Some done ∷ Some done ∷ None ∷ []) k ≡ Some (Some reply) → slice_get (Some done ∷ Some done ∷ Some synced ∷ []) k ≡ Some (Some reply)
stay zero reply e = e
stay (suc zero) reply e = e
stay (suc (suc zero)) reply e = cc
stay (suc (suc (suc k))) reply e = cc

-- the turn that does the flush of a sync
pub flush_turn_is : (at : Moment) → Turns 1 (drive_at 33 (Some (dp 11))) (drive_at 34 (Some (dp 11))) (before_flush at) (after_flush at 34 handed_marks (Some 3)) 1 2 (turns.Ready synced)
flush_turn_is at = record {
  fixed = refl;
  history = refl;
  next = refl;
  replies = record { count = refl; each = stay };
  added = Worked (dp 11) None ∷ Synced 2 ∷ [];
  adds = record { events = refl; acks = refl };
  step = record {
    shape = one_step (Worked (dp 11) None) (Synced 2 ∷ []) refl (all_of_one (λ a. is_answer a ≡ true) (Synced 2) refl);
    counts = record { still = λ e. absurd (omega (arith, e)); later = omega arith; at_least = omega arith; faults = omega arith; at_most = omega arith };
    op_head = all_of_two (λ e. HeadIsBehind (waiting_op (after_all (before_flush at).events)) e (Some (dp 11))) (Worked (dp 11) None) (Synced 2) (λ e. absurd (true≢false e)) tt;
    read_head = all_of_two (λ e. HeadIsRead (drive_at 33 (Some (dp 11))) e (Some (dp 11))) (Worked (dp 11) None) (Synced 2) tt tt;
    on_tape = all_of_two (λ e. IsOnTape (drive_at 34 (Some (dp 11))) (first_of (before_flush at).ops) e) (Worked (dp 11) None) (Synced 2) tt tt;
    on = refl;
    cached = ([], refl, ([], refl, refl));
  };
  none = λ reply e. cc;
  kept = refl;
  marks = refl;
  answered = refl;
}

-- what a turn of this kind could add: events that lead from one list to the other are just these
same_events : (at : Moment) (added : List Event) → (after_flush at 34 handed_marks (Some 3)).events ≡ (before_flush at).events ++ added → added ≡ Worked (dp 11) None ∷ Synced 2 ∷ []
same_events at added e = sym (ap (drop 10) e)

-- the ack bears the number with which the call returns, and none before it
pub ack_early_turn_isnt : (at : Moment) → ¬ Turns 1 (drive_at 33 (Some (dp 11))) (drive_at 34 (Some (dp 11))) (before_flush at) (after_flush at 33 handed_marks (Some 3)) 1 2 (turns.Ready synced)
ack_early_turn_isnt at t = omega (arith, ap (λ acks. get_or (map (λ a. a.command) acks) 0 0) (t.adds.acks ∙ ap (acks_for 34) (same_events at t.added t.adds.events)))

-- a step makes a command
pub no_command_isnt : (at : Moment) → ¬ Turns 1 (drive_at 33 (Some (dp 11))) (drive_at 33 (Some (dp 11))) (before_flush at) (after_flush at 33 handed_marks (Some 3)) 1 2 (turns.Ready synced)
no_command_isnt at t = omega (arith, t.step.counts.at_least, ap steps (same_events at t.added t.adds.events))

-- the count of faults doesn't fall
pub fewer_faults_isnt : (at : Moment) → ¬ Turns 1 (faulted 3 (drive_at 33 (Some (dp 11)))) (drive_at 34 (Some (dp 11))) (before_flush at) (after_flush at 34 handed_marks (Some 3)) 1 2 (turns.Ready synced)
fewer_faults_isnt at t = omega (arith, t.step.counts.faults)

-- the hand-out is marked
pub mark_missing_turn_isnt : (at : Moment) → ¬ Turns 1 (drive_at 33 (Some (dp 11))) (drive_at 34 (Some (dp 11))) (before_flush at) (after_flush at 34 waiting_marks (Some 3)) 1 2 (turns.Ready synced)
mark_missing_turn_isnt at t = omega (arith, ap length t.marks)

-- placement on the index partition is on from there on
pub on_missing_turn_isnt : (at : Moment) → ¬ Turns 1 (drive_at 33 (Some (dp 11))) (drive_at 34 (Some (dp 11))) (before_flush at) (after_flush at 34 handed_marks None) 1 2 (turns.Ready synced)
on_missing_turn_isnt at t = no_on (t.step.on ∙ ap (on_after (before_flush at)) (same_events at t.added t.adds.events))
  where
    no_on : ◌≡◌ {A = Option ℕ} None (Some 3) → ⊥
    no_on e = cc

-- the drain turn that makes room
pub rest_turn_is : (at : Moment) → DrainsOnce 1 (drive_at 30 (Some (dp 22))) (drive_at 32 (Some (dp 23))) (draining_view at) (rested_view at) 1 drained.Room
rest_turn_is at = record {
  fixed = refl;
  made = Worked (dp 22) None ∷ [];
  adds = record { events = refl; acks = refl };
  step = record {
    shape = one_step (Worked (dp 22) None) [] refl (λ k d less. absurd (omega (arith, less)));
    counts = record { still = λ e. absurd (omega (arith, e)); later = omega arith; at_least = omega arith; faults = omega arith; at_most = omega arith };
    op_head = all_of_one (λ e. HeadIsBehind (waiting_op (after_all (draining_view at).events)) e (Some (dp 23))) (Worked (dp 22) None) (λ e. refl);
    read_head = all_of_one (λ e. HeadIsRead (drive_at 30 (Some (dp 22))) e (Some (dp 23))) (Worked (dp 22) None) tt;
    on_tape = all_of_one (λ e. IsOnTape (drive_at 32 (Some (dp 23))) (first_of (draining_view at).ops) e) (Worked (dp 22) None) tt;
    on = refl;
    cached = ([], refl, refl);
  };
  none = λ either. absurd (⊎_elim (λ kept. omega (arith, kept)) (λ few. omega (arith, few)) either);
  kept = refl;
  marks = refl;
  answered = (refl, omega arith, record { history = refl; next = refl; replies = record { count = refl; each = λ k reply e. e } });
}

stay_failed : (k : ℕ) (reply : Reply) → slice_get (Some done ∷ Some done ∷ None ∷ []) k ≡ Some (Some reply) → slice_get (Some done ∷ Some done ∷ Some (fault 0 1) ∷ []) k ≡ Some (Some reply)
stay_failed zero reply e = e
stay_failed (suc zero) reply e = e
stay_failed (suc (suc zero)) reply e = cc
stay_failed (suc (suc (suc k))) reply e = cc

-- a drain turn whose step fails the sync of another session
pub sync_told_is : (at : Moment) → DrainsOnce 1 (drive_at 30 None) (drive_at 32 None) (both_view at) (sync_failed_view at done) 2 drained.More
sync_told_is at = record {
  fixed = refl;
  made = Worked (dp 7) (Some (twin 0 1)) ∷ [];
  adds = record { events = refl; acks = refl };
  step = record {
    shape = one_step (Worked (dp 7) (Some (twin 0 1))) [] refl (λ k d less. absurd (omega (arith, less)));
    counts = record { still = λ e. absurd (omega (arith, e)); later = omega arith; at_least = omega arith; faults = omega arith; at_most = omega arith };
    op_head = all_of_one (λ e. HeadIsBehind (waiting_op (after_all (both_view at).events)) e None) (Worked (dp 7) (Some (twin 0 1))) tt;
    read_head = all_of_one (λ e. HeadIsRead (drive_at 30 None) e None) (Worked (dp 7) (Some (twin 0 1))) tt;
    on_tape = all_of_one (λ e. IsOnTape (drive_at 32 None) (first_of (both_view at).ops) e) (Worked (dp 7) (Some (twin 0 1))) tt;
    on = refl;
    cached = ([], refl, refl);
  };
  none = λ either. absurd (⊎_elim (λ kept. omega (arith, kept)) (λ few. omega (arith, few)) either);
  kept = refl;
  marks = refl;
  answered = (refl, omega arith, refl, record { history = refl; next = refl; replies = record { count = refl; each = stay_failed } });
}

-- no reply that was there changes
pub reply_changed_isnt : (at : Moment) → ¬ DrainsOnce 1 (drive_at 30 None) (drive_at 32 None) (both_view at) (sync_failed_view at synced) 2 drained.More
reply_changed_isnt at d = changed (d.answered.3.replies.each 0 done refl)
  where
    changed : Some (Some synced) ≡ Some (Some done) → ⊥
    changed e = cc

-- a write is put off while 65 ops stand
pub drain_is : (at : Moment) → Submits (drive_at 0 None) (drive_at 30 None) (before_write at 65) (put_off (before_write at 65)) 1 0 submitted.Drain
drain_is at = record {
  fixed = refl;
  drive = refl;
  on = refl;
  kept = refl;
  placing = record { history = refl; replies = refl; next = refl };
  added = Drains 1 ∷ [];
  adds = record { events = refl; acks = refl };
  of_it = refl;
  asks = (refl, refl);
  marks = refl;
  drain = record { only = λ e. refl; each = λ e. inl refl };
}

-- a sync that waits adds its ops and then itself
pub sync_is : (at : Moment) → Submits (drive_at 0 None) (drive_at 30 None) (before_third at Sync) (placed_third at Sync sync_added) 1 2 (submitted.Wait 2)
sync_is at = record {
  fixed = refl;
  drive = refl;
  on = refl;
  kept = refl;
  placing = (refl, record { placed = placed at 1 2 fates.Done; fate_is = refl; history = refl; who_is = refl; nth_is = refl; moment = refl; replies = refl });
  added = sync_added;
  adds = record { events = refl; acks = refl };
  of_it = (refl, (dp 8 ∷ dp 9 ∷ dp 10 ∷ dp 11 ∷ [], refl));
  asks = (refl, refl);
  marks = refl;
  drain = record { only = λ e. cc; each = λ e. cc };
}

-- what a submission adds to these events is just this
same_added : (at : Moment) (call : Call) (events added : List Event) → (placed_third at call events).events ≡ (before_third at call).events ++ added → added ≡ events
same_added at call events added e = sym (ap (drop 1) e)

-- ops don't come before the sync that they are of
begins_with_syncs : (places : List Place) (rest : List Event) → queues_at places ++ Syncs 2 ∷ rest ≡ syncs_first → rest ≡ queues 8 4
begins_with_syncs [] rest e = ap (drop 1) e
begins_with_syncs (p ∷ places) rest e = cc

answer_alone : (standing : List Op) → synced_at 2 standing ≡ queues 8 4 → ⊥
answer_alone [] e = cc
answer_alone (op ∷ later) e = cc

-- a sync that begins before its ops are queued is none
pub syncs_first_isnt : (at : Moment) → ¬ Submits (drive_at 0 None) (drive_at 30 None) (before_third at Sync) (placed_third at Sync syncs_first) 1 2 (submitted.Wait 2)
syncs_first_isnt at s = answer_alone _ (begins_with_syncs s.of_it.1.0 _ (sym s.of_it.1.1 ∙ same_added at Sync syncs_first s.added s.adds.events))

-- a write doesn't wait, and a read brings no sync
pub write_waits_isnt : (at : Moment) → ¬ Submits (drive_at 0 None) (drive_at 30 None) (before_third at (write (codes "d"))) (placed_third at (write (codes "d")) (Syncs 2 ∷ [])) 1 2 (submitted.Wait 2)
write_waits_isnt at s = true≢false (sym s.of_it.0)

no_sync_of_read : (places : List Place) → map (λ place. Wants 2 place) places ≡ Syncs 2 ∷ [] → ⊥
no_sync_of_read [] e = cc
no_sync_of_read (p ∷ places) e = cc

-- a read that begins a sync is none
pub read_syncs_isnt : (at : Moment) → ¬ Submits (drive_at 0 None) (drive_at 30 None) (before_third at read) (placed_third at read (Syncs 2 ∷ [])) 1 2 (submitted.Wait 2)
read_syncs_isnt at s = no_sync_of_read s.of_it.1.0 (sym s.of_it.1.1 ∙ same_added at read (Syncs 2 ∷ []) s.added s.adds.events)

-- and isn't while 64 do
pub drain_at_64_isnt : (at : Moment) → ¬ Submits (drive_at 0 None) (drive_at 30 None) (before_write at 64) (put_off (before_write at 64)) 1 0 submitted.Drain
drain_at_64_isnt at s = true≢false (sym (s.drain.only refl))

-- the op that was done stands on the tape
pub on_tape_is : IsOnTape (holding (Block (codes "hello"))) (Some (Put (dp 0) (codes "hello"))) (Worked (dp 0) None)
on_tape_is = refl

-- and there are other bytes
pub other_on_tape_isnt : ¬ IsOnTape (holding (Block (codes "world"))) (Some (Put (dp 0) (codes "hello"))) (Worked (dp 0) None)
other_on_tape_isnt e = omega (arith, ap first_byte e)
  where
    first_byte : Option Item → ℕ
    first_byte (Some (Block (b ∷ bytes))) = b
    first_byte _ = 0
