use Rattle.std.proofs.Common.{ap}
use Rattle.tape_types.specs.NodeKeys.Keys.{KeyMap}
use Rattle.file_tree.specs.Changes.{change_noted}
use Rattle.file_tree.proofs.changes.set_key.Goals as goal

pub returns : goal.returns
returns c = record {
  spare = c.set.new.self.spare;
  is = ap (λ (m : KeyMap). change_noted c.args.at (record c.args.node.now { keys = record { map = m; spare = c.set.new.self.spare } })) c.set.ensures.map;
}
