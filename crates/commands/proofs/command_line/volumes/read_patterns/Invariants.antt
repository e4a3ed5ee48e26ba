use Rattle.std.proofs.Common.{◌≡◌, map, take}
use Rattle.commands.proofs.command_line.volumes.read_patterns.Given as goal

abbrev pub invariant-loop-piece : goal.invariant-loop-piece
invariant-loop-piece l = l.names ≡ map (λ t. t.now) (take l.piece-index l.piece-items)
