use Rattle.std.specs.Prelude.{ℕ, ◌≡◌, true, drop, None, Some}
use Rattle.std.proofs.Common.{refl, sym, subst}
use Rattle.tape_types.specs.declared.cartridges.Limits.{Limits}
use Rattle.tape_types.specs.declared.cartridges.Place.{Place}
use Rattle.session_script.specs.declared.logs.Event.TheVariants.{Worked}
use Rattle.head_queue.specs.EventLaws.Trail.{allows}
use Rattle.tape_layout.specs.Ops.{HasRoom}
use Rattle.head_core.specs.declared.work.StepDone.TheVariants as ends
use Rattle.event_journal.specs.Trails.{state}
use Rattle.volume_core.specs.VolumeSteps.Seen.{seen_parts}
use Rattle.volume_core.proofs.VolumeSteps.PickLemmas.{op_allowed, waits_first}
use Rattle.volume_core.proofs.VolumeSteps.StepLemmas.{does_op, fails_op}
use Rattle.volume_core.proofs.volume_steps.parts.Parts.do_op.Goals as goal

pub step-requires-clause-can : goal.step-requires-clause-can
step-requires-clause-can g c =
    let e = c.in-Some.ensures {u = tt} in
    c.requires.can.op c.in-Some.op.now _ c.args.self.now.stock.layout.block_size e.first
    (subst (λ (limits : Limits). HasRoom limits c.args.self.now.stock.layout.block_size c.in-Some.op.now) c.requires.ready.limits e.room)
    c.requires.ready.size

pub step-requires-clause-may : goal.step-requires-clause-may
step-requires-clause-may g c = c.requires.can.may c.in-Some.op.now _ (c.in-Some.ensures {u = tt}).first

pub fail_op-requires-clause-allowed : goal.fail_op-requires-clause-allowed
fail_op-requires-clause-allowed g c =
    subst (λ (at : Place). allows (state c.args.self.now.trail) (Worked at (Some c.in-Failed.counts)) ≡ true) (sym c.place-place.ensures)
    (op_allowed g.D.Drive (seen_parts c.args.self.now) c.requires.can c.requires.ready c.in-Some.op.now _ (Some c.in-Failed.counts)
    (c.in-Some.ensures {u = tt}).first c.requires.picked)

pub finish_op-requires-in-Wrote-clause-op : goal.finish_op-requires-in-Wrote-clause-op
finish_op-requires-in-Wrote-clause-op g c =
    let is = waits_first g.D.Drive (seen_parts c.args.self.now) c.requires.can c.requires.ready c.in-Some.op.now _
    (c.in-Some.ensures {u = tt}).first c.requires.picked in
    record {
      op = c.in-Some.op.now;
      later = drop 1 c.args.self.now.stock.layout.ops;
      first = (c.in-Some.ensures {u = tt}).first;
      place_is = c.place-place.ensures;
      flush_is = c.is_flush-flush.ensures;
      waits = is;
    }

pub finish_op-requires-in-Wrote-clause-allowed : goal.finish_op-requires-in-Wrote-clause-allowed
finish_op-requires-in-Wrote-clause-allowed g c =
    subst (λ (at : Place). allows (state c.args.self.now.trail) (Worked at None) ≡ true) (sym c.place-place.ensures)
    (op_allowed g.D.Drive (seen_parts c.args.self.now) c.requires.can c.requires.ready c.in-Some.op.now _ None
    (c.in-Some.ensures {u = tt}).first c.requires.picked)

pub finish_op-requires-in-Flushed-clause-op : goal.finish_op-requires-in-Flushed-clause-op
finish_op-requires-in-Flushed-clause-op g c =
    let is = waits_first g.D.Drive (seen_parts c.args.self.now) c.requires.can c.requires.ready c.in-Some.op.now _
    (c.in-Some.ensures {u = tt}).first c.requires.picked in
    record {
      op = c.in-Some.op.now;
      later = drop 1 c.args.self.now.stock.layout.ops;
      first = (c.in-Some.ensures {u = tt}).first;
      place_is = c.place-place.ensures;
      flush_is = c.is_flush-flush.ensures;
      waits = is;
    }

pub finish_op-requires-in-Flushed-clause-allowed :
    goal.finish_op-requires-in-Flushed-clause-allowed
finish_op-requires-in-Flushed-clause-allowed g c =
    subst (λ (at : Place). allows (state c.args.self.now.trail) (Worked at None) ≡ true) (sym c.place-place.ensures)
    (op_allowed g.D.Drive (seen_parts c.args.self.now) c.requires.can c.requires.ready c.in-Some.op.now _ None
    (c.in-Some.ensures {u = tt}).first c.requires.picked)

pub returns-in-Failed : goal.returns-in-Failed
returns-in-Failed g c =
    fails_op g.D.Drive c.in-Some.op.now _ c.in-Failed.counts (seen_parts c.args.self.now) (seen_parts c.fail_op.new.self)
    c.step.new.self.drive c.step.new.self.block (c.in-Some.ensures {u = tt}).first (c.in-Failed.ensures {u = tt}).step
    (c.fail_op.ensures c.in-Some.op.now c.place-place.ensures)

pub returns-in-Wrote : goal.returns-in-Wrote
returns-in-Wrote g c =
    let f = c.finish_op-in-Wrote.ensures c.in-Some.op.now _ (c.in-Some.ensures {u = tt}).first in
    does_op g.D.Drive c.in-Some.op.now ends.Wrote f.0 (seen_parts c.args.self.now) (seen_parts c.finish_op-in-Wrote.new.self)
    c.step.new.self.drive c.step.new.self.block c.requires.ready.answers (c.in-Wrote.ensures {u = tt}).step tt f.1

pub returns-in-Flushed : goal.returns-in-Flushed
returns-in-Flushed g c =
    let f = c.finish_op-in-Flushed.ensures c.in-Some.op.now _ (c.in-Some.ensures {u = tt}).first in
    does_op g.D.Drive c.in-Some.op.now ends.Flushed f.0 (seen_parts c.args.self.now) (seen_parts c.finish_op-in-Flushed.new.self)
    c.step.new.self.drive c.step.new.self.block c.requires.ready.answers (c.in-Flushed.ensures {u = tt}).step tt f.1
