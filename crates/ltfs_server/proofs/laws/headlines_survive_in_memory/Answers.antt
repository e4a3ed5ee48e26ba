use Rattle.tape_drive.specs.contracts.commands.MemDriveDrive.TheImpl.{ghosts}
use Rattle.ltfs_server.proofs.Sentences.{runs_so}
use Rattle.ltfs_server.proofs.laws.headlines_survive_in_memory.Goals as goal

pub returns : goal.returns
returns g = λ asked moment source first sink status log s facts tree generation ready.
    let now = g.args.drive.now in
    g.runs_in_memory_survive.ensures s.script moment first log facts tree generation
    (g.runs_are_in_memory.ensures s.script moment first now log (runs_so asked moment source ghosts first now sink status log s)) ready
