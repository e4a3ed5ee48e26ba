use Rattle.std.specs.Prelude.{ℕ, ◌≡◌, List}
use Rattle.std.proofs.Common.{ap, subst}
use Rattle.volume_core.specs.VolumeSteps.Moves.{AnswersSyncs}
use Rattle.volume_core.specs.VolumeSteps.Seen.{seen_parts}
use Rattle.volume_core.proofs.VolumeSteps.OpLemmas.{finished, waits_worked}
use Rattle.volume_core.proofs.volume_steps.parts.Parts.finish_op.Goals as goal

pub take_op-requires-clause-op : goal.take_op-requires-clause-op
take_op-requires-clause-op g c = c.requires.op

pub take_op-requires-clause-allowed : goal.take_op-requires-clause-allowed
take_op-requires-clause-allowed g c = c.requires.allowed

pub take_op-requires-clause-near : goal.take_op-requires-clause-near
take_op-requires-clause-near g c = c.requires.near

pub answer_syncs-requires : goal.answer_syncs-requires
answer_syncs-requires g c = waits_worked c.args.place c.args.flush _ _ c.take_op.ensures c.requires.syncs

pub returns : goal.returns
returns g c op later first =
    let a = c.answer_syncs.ensures in
    let answers = subst (λ (n : ℕ). AnswersSyncs n a.0 (seen_parts c.take_op.new.self) (seen_parts c.answer_syncs.new.self)) (ap g.D.Drive.commands c.take_op.ensures.drive) a.1 in
    (a.0, finished _ c.args.place c.args.flush _ _ _ a.0 c.requires.op c.take_op.ensures answers op later first)
