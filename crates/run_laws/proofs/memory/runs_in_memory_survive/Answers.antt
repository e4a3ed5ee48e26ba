use Rattle.run_laws.proofs.Images.{run_survives}
use Rattle.run_laws.proofs.memory.runs_in_memory_survive.Goals as goal

pub returns : goal.returns
returns c = run_survives c.args.drive.now (λ t image. (c.since_gives_all.ensures t image).1)
