use Rattle.commands.specs.BasicCommands.Sessions.{IsRunSoFar}
use Rattle.commands.proofs.basic_commands.session.run_script.Given as goal

abbrev pub invariant-loop-k : goal.invariant-loop-k
invariant-loop-k g l = IsRunSoFar l.fn.script l.k l.at (g.C.Clock.gives l.fn.clock) (g.C.Clock.gives l.clock) l.tree l.history.items l.replies.items
