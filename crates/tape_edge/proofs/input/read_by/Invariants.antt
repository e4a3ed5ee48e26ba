use Rattle.std.proofs.Common.{◌+◌, ◌-◌, ◌≤◌, length}
use Rattle.std.specs.Io.KnownBytes.{Consumes}
use Rattle.tape_edge.proofs.input.read_by.Given as goal

abbrev pub invariant-loop-text : goal.invariant-loop-text
invariant-loop-text g l =
    Consumes (g.S.Source.left l.initial.source) (g.S.Source.left l.source) l.text.items
    × (g.S.Source.faults l.initial.source ≤ g.S.Source.faults l.source)

abbrev pub decreases-loop-text : goal.decreases-loop-text
decreases-loop-text g l = l.fn.most + 1 - length l.text.items
