use Rattle.volume_core.specs.VolumeSteps.Seen.{seen_parts}
use Rattle.volume_core.proofs.VolumeSteps.AwaitLemmas.{read_refused}
use Rattle.volume_core.proofs.volume_steps.parts.Parts.read_bytes.Goals as goal

pub returns-in-Ok-clause-submits : goal.returns-in-Ok-clause-submits
returns-in-Ok-clause-submits g c = c.read_file.ensures.submits c.args.path.now (c.in-Ok.ensures {u = tt}).found

pub read_file-requires-clause-file : goal.read_file-requires-clause-file
read_file-requires-clause-file g c = (c.args.path.now, (c.in-Ok.ensures {u = tt}).found)

pub returns-in-Err-clause-submits : goal.returns-in-Err-clause-submits
returns-in-Err-clause-submits g c =
    let why = (c.in-Err.ensures {u = tt}).refused in
    read_refused g.D.Drive c.args.asked.who c.args.asked.nth c.args.path.now c.args.offset c.args.count
    c.args.asked.at c.in-Err.refusal c.answer.result (seen_parts c.args.self.now) (seen_parts c.answer.new.self) c.requires.can
    (why.found c.args.offset c.args.count) (why.each c.args.offset c.args.count) c.answer.ensures
