use Rattle.std.proofs.Common.{ap, subst, sym}
use Rattle.tape_types.specs.NodeKeys.Keys.{KeyMap}
use Rattle.file_tree.specs.declared.changes.NodeRoom.{NodeRoom}
use Rattle.file_tree.specs.declared.nodes.Node.{Node}
use Rattle.file_tree.specs.Changes.{IsRoomier}
use Rattle.file_tree.proofs.changes.reserve_node.Goals as goal

pub returns-in-Key-clause-same : goal.returns-in-Key-clause-same
returns-in-Key-clause-same c =
    let next : Node = record c.args.node.now { keys = c.reserve.new.self } in
    subst (λ (room : NodeRoom). IsRoomier room c.args.node.now next) (sym c.in-Key.is) (record {
      spare = c.reserve.new.self.spare;
      is = ap (λ (m : KeyMap). record c.args.node.now { keys = record { map = m; spare = c.reserve.new.self.spare } }) c.reserve.ensures.map;
    })
