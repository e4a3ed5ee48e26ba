use Rattle.std.proofs.Common.{ap, ◌∙◌}
use Rattle.std.specs.FinMap as fin
use Rattle.tape_types.specs.NodeKeys.Keys.{KeyMap}
use Rattle.file_tree.specs.Changes.{change_noted}
use Rattle.file_tree.proofs.changes.drop_key.Goals as goal

pub returns : goal.returns
returns c = record {
  spare = c.drop_key.new.self.spare;
  is = ap (λ (m : KeyMap). change_noted c.args.at (record c.args.node.now { keys = record { map = m; spare = c.drop_key.new.self.spare } }))
      (c.drop_key.ensures.map ∙ ap (fin.remove c.args.node.now.keys.map) c.as_str.ensures);
}
