use Rattle.tree_listing.specs.Steps.{AreKeysOnWay}
use Rattle.tree_listing.proofs.listing.write_keys.Given as goal

abbrev pub invariant-loop-xattr : goal.invariant-loop-xattr
invariant-loop-xattr g l =
    AreKeysOnWay l.xattrs l.xattr-index (g.K.Sink.written l.initial.out) (g.K.Sink.written l.out) l.initial.lines l.lines
    (g.K.Sink.faults l.initial.out) (g.K.Sink.faults l.out)
