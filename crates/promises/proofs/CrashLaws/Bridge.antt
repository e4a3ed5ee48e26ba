-- What a head says of an op is what the theory of crashes asks of it.
use Rattle.std.proofs.Common.{◌≡◌, inl, ℕ, Option, Some, refl, sym, subst, ◌∙◌}
use Rattle.std.proofs.lemmas.Option.{same_Some}
use Rattle.tape_types.specs.declared.cartridges.Cartridge.{Cartridge}
use Rattle.tape_types.specs.declared.cartridges.Item.{Item}
use Rattle.tape_types.specs.declared.cartridges.Item.TheVariants as item
use Rattle.tape_types.specs.declared.cartridges.Place.{Place}
use Rattle.tape_types.specs.declared.cartridges.Twin.{Twin}
use Rattle.tape_drive.specs.Commands.{IsWritten}
use Rattle.tape_drive.specs.Crashes.{Crashes, IsSure, NothingNew}
use Rattle.tape_drive.specs.Looks.{Looks}
use Rattle.tape_drive.specs.declared.drive.Drive.{Ghosts}
use Rattle.tape_layout.specs.declared.ops.Op.{Op}
use Rattle.tape_layout.specs.declared.ops.Op.TheVariants as ops
use Rattle.head_core.specs.Steps.{AfterOp, AfterPut, IsEndOfFlush, IsEndOfOp, IsOpStep, MakesSure, WithinOp}
use Rattle.head_core.specs.declared.work.StepDone.{StepDone}
use Rattle.head_core.specs.declared.work.StepDone.TheVariants as outcome
use Rattle.promises.specs.ImageLaws.Events.{IsDone, IsFailed, Within}
use Rattle.promises.specs.ImageLaws.Kept.{IsStep, IsSureAfter}
use Rattle.promises.specs.ImageLaws.Moments.{moment_of}
use Rattle.promises.specs.CrashLaws.Changes.{IsWell}
use Rattle.promises.specs.CrashLaws.Laws.{HeadsDoOps}

same_within : (op : Op) (before : Cartridge) (count : ℕ) (leaves_old leaves_new : Cartridge → Type 0) (since_old since_new : ℕ → Cartridge → Type 0)
    → Crashes (WithinOp op before) count leaves_old leaves_new since_old since_new → Crashes (Within op before) count leaves_old leaves_new since_old since_new
same_within (ops.Put place bytes) before count leaves_old leaves_new since_old since_new c = c
same_within (ops.Mark place) before count leaves_old leaves_new since_old since_new c = c
same_within (ops.Flush place) before count leaves_old leaves_new since_old since_new c = c

done_put : (place : Place) (x : Item) (end : StepDone) (before now : Cartridge) → IsWell end → AfterPut place x end before now
    → IsWritten place.part place.pos x before now
done_put place x (outcome.Read answer) before now well h = absurd h
done_put place x outcome.Wrote before now well h = h
done_put place x outcome.Flushed before now well h = absurd h
done_put place x (outcome.Failed counts) before now well h = absurd well

is_done : (op : Op) (end : StepDone) (before now : Cartridge) → IsWell end → AfterOp op end before now → IsDone op before now
is_done (ops.Put place bytes) end before now well h = done_put place (item.Block bytes) end before now well h
is_done (ops.Mark place) end before now well h = done_put place item.Mark end before now well h
is_done (ops.Flush place) end before now well h = h

is_failed : (op : Op) (counts : Twin) (before now : Cartridge) → AfterOp op (outcome.Failed counts) before now → IsFailed op before now
is_failed (ops.Put place bytes) counts before now h = h
is_failed (ops.Mark place) counts before now h = h
is_failed (ops.Flush place) counts before now h = h

flush_sure : (end : StepDone) (held : Option Cartridge) (leaves : Cartridge → Type 0) → IsEndOfFlush end → IsWell end → MakesSure end held leaves → IsSure held leaves
flush_sure (outcome.Read answer) held leaves ends well h = absurd ends
flush_sure outcome.Wrote held leaves ends well h = absurd ends
flush_sure outcome.Flushed held leaves ends well h = h
flush_sure (outcome.Failed counts) held leaves ends well h = absurd well

module _ {D : Type 0} (drive : Ghosts D) where
  sure_after : (op : Op) (end : StepDone) (new : D) (now : Cartridge) → IsEndOfOp op end → IsWell end → drive.held new ≡ Some now
      → MakesSure end (drive.held new) (drive.leaves new) → IsSureAfter op (moment_of drive new now)
  sure_after (ops.Put place bytes) end new now ends well told h = tt
  sure_after (ops.Mark place) end new now ends well told h = tt
  sure_after (ops.Flush place) end new now ends well told h =
      subst (λ (held : Option Cartridge). IsSure held (drive.leaves new)) told (flush_sure end (drive.held new) (drive.leaves new) ends well h)

  after_op : (op : Op) (end : StepDone) (old new : D) (before now : Cartridge) → IsOpStep drive op end old new → drive.held old ≡ Some before
      → drive.held new ≡ Some now → AfterOp op end before now
  after_op op end old new before now step told after =
      let it = step.told before told in
      subst (λ (c : Cartridge). AfterOp op end before c) (same_Some it.0 now (sym it.1 ∙ after)) it.2

  -- what a head says of an op is what the theory of crashes asks of it
  pub heads_do_ops : HeadsDoOps drive
  heads_do_ops = record {
    step = λ op end old new before now step told after. (
      step.made.commands.later,
      same_within op before (drive.commands old) (drive.leaves old) (drive.leaves new) (drive.left_since old) (drive.left_since new) (step.crash before told),
    );
    done = λ op end old new before now step well told after. (
      is_done op end before now well (after_op op end old new before now step told after),
      sure_after op end new now step.ends well after step.made.sure,
    );
    failed = λ op counts old new before now step told after.
        is_failed op counts before now (after_op op (outcome.Failed counts) old new before now step told after);
  }

  -- commands that only look leave nothing new
  pub looked : (most : ℕ) (old new : D) (held : Cartridge) → Looks drive most old new → IsStep NothingNew (moment_of drive old held) (moment_of drive new held)
  looked most old new held looks = (
    looks.reads.later,
    record {
      now = λ image left. (image, looks.reads.leaves image left, refl);
      since = λ t image reached left. inl (looks.reads.since t image reached left);
      kept = λ t image reached left. looks.reads.kept t image reached left;
    },
  )
