use Rattle.std.specs.Prelude.{ℕ, ◌≡◌, None, Some}
use Rattle.std.proofs.Common.{refl, sym, subst}
use Rattle.volume_core.specs.VolumeSteps.Seen.{seen_parts}
use Rattle.volume_core.proofs.VolumeSteps.PickLemmas.{has_read, one_request, request_allowed}
use Rattle.volume_core.proofs.VolumeSteps.StepLemmas.{fails_read, reads_block}
use Rattle.volume_core.proofs.volume_steps.parts.Parts.serve.Goals as goal

pub step-requires-clause-can : goal.step-requires-clause-can
step-requires-clause-can g c = (c.requires.can.request c.args.owner c.args.place (one_request g.D.Drive (seen_parts c.args.self.now) c.requires.can c.requires.ready c.args.node c.args.owner c.args.place c.requires.picked)).0

pub fail_read-requires-clause-allowed : goal.fail_read-requires-clause-allowed
fail_read-requires-clause-allowed g c =
    request_allowed g.D.Drive (seen_parts c.args.self.now) c.requires.can c.requires.ready c.args.node c.args.owner c.args.place (Some c.in-Failed.counts) c.requires.picked

pub fail_read-requires-clause-read : goal.fail_read-requires-clause-read
fail_read-requires-clause-read g c = has_read g.D.Drive (seen_parts c.args.self.now) c.requires.can c.requires.ready c.args.owner c.args.place (one_request g.D.Drive (seen_parts c.args.self.now) c.requires.can c.requires.ready c.args.node c.args.owner c.args.place c.requires.picked)

pub fail_read-requires-clause-none : goal.fail_read-requires-clause-none
fail_read-requires-clause-none g c = (c.requires.can.request c.args.owner c.args.place (one_request g.D.Drive (seen_parts c.args.self.now) c.requires.can c.requires.ready c.args.node c.args.owner c.args.place c.requires.picked)).3

pub take_block-requires-clause-allowed : goal.take_block-requires-clause-allowed
take_block-requires-clause-allowed g c =
    request_allowed g.D.Drive (seen_parts c.args.self.now) c.requires.can c.requires.ready c.args.node c.args.owner c.args.place None c.requires.picked

pub take_block-requires-clause-near : goal.take_block-requires-clause-near
take_block-requires-clause-near g c = (c.requires.can.request c.args.owner c.args.place (one_request g.D.Drive (seen_parts c.args.self.now) c.requires.can c.requires.ready c.args.node c.args.owner c.args.place c.requires.picked)).1

pub take_block-requires-clause-read : goal.take_block-requires-clause-read
take_block-requires-clause-read g c = has_read g.D.Drive (seen_parts c.args.self.now) c.requires.can c.requires.ready c.args.owner c.args.place (one_request g.D.Drive (seen_parts c.args.self.now) c.requires.can c.requires.ready c.args.node c.args.owner c.args.place c.requires.picked)

pub take_block-requires-clause-none : goal.take_block-requires-clause-none
take_block-requires-clause-none g c = (c.requires.can.request c.args.owner c.args.place (one_request g.D.Drive (seen_parts c.args.self.now) c.requires.can c.requires.ready c.args.node c.args.owner c.args.place c.requires.picked)).3

pub returns-in-Failed : goal.returns-in-Failed
returns-in-Failed g c =
    fails_read g.D.Drive c.args.owner c.args.place c.in-Failed.counts (seen_parts c.args.self.now) (seen_parts c.fail_read.new.self)
    c.step.new.self.drive c.step.new.self.block (c.in-Failed.ensures {u = tt}).step c.fail_read.ensures

pub returns-in-Read : goal.returns-in-Read
returns-in-Read g c =
    reads_block g.D.Drive c.args.owner c.args.place c.in-Read.got c.step.new.self.block (seen_parts c.args.self.now)
    (seen_parts c.take_block.new.self) c.step.new.self.drive c.requires.ready.answers (c.requires.can.request c.args.owner c.args.place (one_request g.D.Drive (seen_parts c.args.self.now) c.requires.can c.requires.ready c.args.node c.args.owner c.args.place c.requires.picked)).3 (c.in-Read.ensures {u = tt}).step
    (c.in-Read.ensures {u = tt}).found c.take_block.ensures
