use Rattle.tree_listing.specs.Steps.{IsOnWay}
use Rattle.tree_listing.proofs.listing.write_nodes.Given as goal

abbrev pub invariant-loop-node : goal.invariant-loop-node
invariant-loop-node g l =
    IsOnWay l.all l.nodes l.node-index (g.K.Sink.written l.initial.out) (g.K.Sink.written l.out) l.lines
    (g.K.Sink.faults l.initial.out) (g.K.Sink.faults l.out)
