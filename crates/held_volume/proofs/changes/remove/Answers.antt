use Rattle.std.proofs.Common.{◌∙◌}
use Rattle.plain_tree.specs.declared.calls.Call.TheVariants as asks
use Rattle.file_tree.specs.Tree.{plain_of, whole}
use Rattle.held_volume.proofs.changes.remove.Goals as goal
use Rattle.held_volume.proofs.Asks.{removed_changes, unlocked_refusal}
use Rattle.held_volume.proofs.TreeSteps.{removed_step}

pub returns-in-Ok : goal.returns-in-Ok
returns-in-Ok c =
    let found = c.in-Ok.ensures {u = tt} in
    let free = unlocked_refusal (plain_of whole c.args.tree.now) (asks.Remove c.args.path.now) c.requires ∙ found.0 in
    let u = c.unlink.ensures in (
      free,
      removed_changes c.args.tree.now c.unlink.new.self c.args.at c.args.path.now free
          (removed_step c.args.tree.now c.unlink.new.self c.args.path.now c.in-Ok.number c.args.at c.count-count.ensures.good
          found.1 free (u.plain c.args.path.now found.1) u.gone u.numbers u.extents u.blocks u.volume),
    )
