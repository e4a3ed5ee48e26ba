use Rattle.commands.specs.BasicCommands.Runs.{taken}
use Rattle.ltfs_server.proofs.Sentences.{sentence_holds}
use Rattle.ltfs_server.proofs.server.run.Goals as goal

pub returns-clause-headline : goal.returns-clause-headline
returns-clause-headline g c =
    sentence_holds (record { words = c.args.words.now.items; gives = g.C.Clock.gives c.args.clock; one = g.C.Clock.one c.args.clock; source = taken g.S.Source c.args.script.now c.run_asked.new.script })
    g.D.Drive _ _ _ _ _ c.run_asked.ensures
