-- What the head did, and what was made of it, is a step.
use Rattle.std.specs.Prelude.{ℕ, ◌≡◌, ◌==◌, Bool, true, false, List, ◌∷◌, ◌++◌, Option, Some, None, slice_get}
use Rattle.std.specs.List.{list_any}
use Rattle.tape_types.specs.declared.cartridges.Cartridge.{Cartridge}
use Rattle.tape_types.specs.declared.cartridges.Place.{Place}
use Rattle.tape_types.specs.declared.cartridges.Twin.{Twin}
use Rattle.tape_drive.specs.declared.drive.Drive.{Ghosts}
use Rattle.tape_drive.specs.declared.drive.Got.{Got}
use Rattle.std.proofs.Common.{sym, ap, subst, ◌∙◌}
use Rattle.session_script.specs.declared.logs.Event.{Event}
use Rattle.session_script.specs.declared.logs.Event.TheVariants.{Worked}
use Rattle.head_queue.specs.EventLaws.Trail.{after, after_op, behind}
use Rattle.head_queue.specs.EventLaws.Waiting.{State, waiting_op, Op as Waits}
use Rattle.head_core.specs.Steps.{IsFoundAt, IsOpStep, IsReadStep}
use Rattle.head_core.specs.declared.work.StepDone.{StepDone}
use Rattle.head_core.specs.declared.work.StepDone.TheVariants as ends
use Rattle.tape_layout.specs.declared.ops.Op.{Op}
use Rattle.promises.specs.CrashLaws.Changes.{IsWell}
use Rattle.volume_state.specs.StateLaws.Parts.{Parts}
use Rattle.volume_state.specs.StateLaws.Stepping.{DoesOp, FailsOp, FailsRead, ReadsBlock, ReadsOnly, Steps, acks_at}
use Rattle.head_queue.specs.Waiting.{Waiting}
use Rattle.event_journal.specs.Trails.{first_waiter, state}
use Rattle.volume_state.specs.CallLaws.Handing.{StepsOn}
use Rattle.volume_core.specs.VolumeSteps.Moves.{FinishesOp, KeepsAnswer, MissesBlock, TakesBlock, TellsFault}
use Rattle.volume_core.proofs.VolumeSteps.AnswerLemmas.{AreRight, fault_keeps, missed_keeps, read_keeps, synced_keep}

-- behind an op that is done the head stands where its event leaves it
pub stands_behind : (st : State) (place : Place) (flush : Bool) → waiting_op st ≡ Some (record { place = place; flush = flush })
    → behind (record { place = place; flush = flush }) ≡ (after st (Worked place None)).head
stands_behind st place flush waits = ap (λ (o : Option Waits). (after_op o st).head) (sym waits)

-- a step that adds some events
abbrev pub SomeStep : {D : Type 0} → Ghosts D → Parts D → Parts D → Type 0
SomeStep drive old new = (added : List Event) × StepsOn drive added old new

-- the head has moved
abbrev pub with_head : {D : Type 0} → D → List ℕ → Parts D → Parts D
with_head d block p = record p { drive = d; block = block }

module _ {D : Type 0} (drive : Ghosts D) where
  op_done : (op : Op) (end : StepDone) (tickets : List ℕ) (old new : Parts D) (d : D) (block : List ℕ)
      → IsOpStep drive op end old.drive d → IsWell end → FinishesOp (drive.commands d) op tickets (with_head d block old) new
      → DoesOp drive op end tickets old new
  op_done op end tickets old new d block step well f = record {
    step = subst (λ (now : D). IsOpStep drive op end old.drive now) (sym f.drive) step;
    well = well;
    done = record {
      first = f.done.first;
      stock = f.done.stock;
      on = f.done.on;
      events = f.done.events;
      trail = f.done.trail;
      none_due = f.done.none_due;
      acks = f.done.acks ∙ ap (λ (now : D). old.trail.acks ++ acks_at (drive.commands now) tickets) (sym f.drive);
      kept = f.done.kept;
      listed = record {
        history = f.done.listed.history;
        marks = f.done.listed.marks;
        calls = f.done.listed.calls;
        sessions = f.done.listed.sessions;
      };
      replies = f.done.replies;
      queue = f.done.queue;
      reads = f.done.reads;
      cached = f.done.cached;
    };
  }

  -- an op that the head did, with what was made of it, is a step
  pub does_op : (op : Op) (end : StepDone) (tickets : List ℕ) (old new : Parts D) (d : D) (block : List ℕ) → AreRight old
      → IsOpStep drive op end old.drive d → IsWell end → FinishesOp (drive.commands d) op tickets (with_head d block old) new
      → SomeStep drive old new
  does_op op end tickets old new d block right step well f = (
    _,
    record {
      steps = Steps.does op end tickets (op_done op end tickets old new d block step well f);
      answers = synced_keep tickets old new f.answered f.done.replies;
    },
  )

  op_failed : (op : Op) (later : List Op) (counts : Twin) (old new : Parts D) (d : D) (block : List ℕ) → old.stock.layout.ops ≡ op ∷ later
      → IsOpStep drive op (ends.Failed counts) old.drive d → TellsFault op counts (with_head d block old) new
      → FailsOp drive op later counts old new
  op_failed op later counts old new d block first step f = record {
    first = first;
    step = subst (λ (now : D). IsOpStep drive op (ends.Failed counts) old.drive now) (sym f.drive) step;
    told = record {
      stock = f.told.stock;
      on = f.told.on;
      events = f.told.events;
      trail = f.told.trail;
      acks = f.told.acks;
      kept = f.told.kept;
      listed = record {
        history = f.told.listed.history;
        marks = f.told.listed.marks;
        calls = f.told.listed.calls;
        sessions = f.told.listed.sessions;
      };
      replies = f.told.replies;
      queue = f.told.queue;
      reads = f.told.reads;
      cached = f.told.cached;
    };
  }

  -- an op that failed, with what was made of it, is a step
  pub fails_op : (op : Op) (later : List Op) (counts : Twin) (old new : Parts D) (d : D) (block : List ℕ) → old.stock.layout.ops ≡ op ∷ later
      → IsOpStep drive op (ends.Failed counts) old.drive d → TellsFault op counts (with_head d block old) new
      → SomeStep drive old new
  fails_op op later counts old new d block first step f = (
    _,
    record {
      steps = Steps.fails op later counts (op_failed op later counts old new d block first step f);
      answers = fault_keeps (first_waiter (state old.trail)) counts old new f.answered f.told.replies;
    },
  )

  only_reads : (old new : Parts D) (d : D) (block : List ℕ) → ReadsOnly (with_head d block old) new → ReadsOnly old new
  only_reads old new d block o = record {
    stock = o.stock;
    on = o.on;
    acks = o.acks;
    kept = o.kept;
    listed = record {
      history = o.listed.history;
      marks = o.listed.marks;
      calls = o.listed.calls;
      sessions = o.listed.sessions;
    };
    trail = o.trail;
    arrived = o.arrived;
  }

  block_read : (ticket : ℕ) (place : Place) (got : Got) (block : List ℕ) (old new : Parts D) (d : D)
      → IsReadStep drive place (ends.Read got) old.drive d
      → ((c : Cartridge) → drive.held old.drive ≡ Some c → IsFoundAt place (ends.Read got) block c)
      → TakesBlock ticket place got block (with_head d block old) new → ReadsBlock drive ticket place got block old new
  block_read ticket place got block old new d step found t = record {
    step = subst (λ (now : D). IsReadStep drive place (ends.Read got) old.drive now) (sym t.drive) step;
    found = found;
    taken = record {
      only = only_reads old new d block t.taken.only;
      events = t.taken.events;
      request = t.taken.request;
      queue = t.taken.queue;
      read = t.taken.read;
      next = t.taken.next;
      filled = t.taken.filled;
      reads = t.taken.reads;
      cached = t.taken.cached;
    };
  }

  answer_kept : (waits : Bool) (ticket : ℕ) (old new : Parts D) (d : D) (block : List ℕ)
      → KeepsAnswer waits ticket (with_head d block old) new → KeepsAnswer waits ticket old new
  answer_kept true ticket old new d block k = k
  answer_kept false ticket old new d block k = k

  -- a block that was read, with what was made of it, is a step
  pub reads_block : (ticket : ℕ) (place : Place) (got : Got) (block : List ℕ) (old new : Parts D) (d : D)
      → AreRight old → slice_get old.listed.replies ticket ≡ Some None
      → IsReadStep drive place (ends.Read got) old.drive d
      → ((c : Cartridge) → drive.held old.drive ≡ Some c → IsFoundAt place (ends.Read got) block c)
      → TakesBlock ticket place got block (with_head d block old) new → SomeStep drive old new
  reads_block ticket place got block old new d right none step found t = (
    _,
    record {
      steps = Steps.reads ticket place got block (block_read ticket place got block old new d step found t);
      answers = read_keeps ticket (list_any (λ (w : Waiting). w.owner == ticket) new.queue.waiting) t.taken.read.front t.taken.read.behind t.taken.next old new right none (answer_kept (list_any (λ (w : Waiting). w.owner == ticket) new.queue.waiting) ticket old new d block t.answered) t.taken.reads;
    },
  )

  read_failed : (ticket : ℕ) (place : Place) (counts : Twin) (old new : Parts D) (d : D) (block : List ℕ)
      → IsReadStep drive place (ends.Failed counts) old.drive d → MissesBlock ticket place counts (with_head d block old) new
      → FailsRead drive ticket place counts old new
  read_failed ticket place counts old new d block step m = record {
    step = subst (λ (now : D). IsReadStep drive place (ends.Failed counts) old.drive now) (sym m.drive) step;
    missed = record {
      only = only_reads old new d block m.missed.only;
      events = m.missed.events;
      request = m.missed.request;
      queue = m.missed.queue;
      read = m.missed.read;
      reads = m.missed.reads;
      replies = m.missed.replies;
      cached = m.missed.cached;
    };
  }

  -- a read that failed, with what was made of it, is a step
  pub fails_read : (ticket : ℕ) (place : Place) (counts : Twin) (old new : Parts D) (d : D) (block : List ℕ)
      → IsReadStep drive place (ends.Failed counts) old.drive d → MissesBlock ticket place counts (with_head d block old) new
      → SomeStep drive old new
  fails_read ticket place counts old new d block step m = (
    _,
    record {
      steps = Steps.misses ticket place counts (read_failed ticket place counts old new d block step m);
      answers = missed_keeps ticket counts old new m.answered m.missed.replies;
    },
  )
