use Rattle.std.specs.Io.KnownBytes.{Keeps}
use Rattle.tape_edge.proofs.patience.PatientWrite.flush.Given as goal

abbrev pub invariant-loop : goal.invariant-loop
invariant-loop g l = Keeps (g.W.Write.contents l.initial.self.inner) (g.W.Write.contents l.self.inner)
