use Rattle.std.proofs.Common.{[], ◌∙◌}
use Rattle.plain_tree.specs.declared.calls.Call.TheVariants as asks
use Rattle.file_tree.specs.Tree.{plain_of, whole}
use Rattle.held_volume.proofs.Asks.{unlocked_refusal}
use Rattle.held_volume.proofs.KeySteps.{drop_changes}
use Rattle.held_volume.proofs.attributes.drop_key.Goals as goal

pub returns-in-Ok : goal.returns-in-Ok
returns-in-Ok c =
    let found = c.in-Ok.ensures {u = tt} in
    let free = unlocked_refusal (plain_of whole c.args.tree.now) (asks.Dropx c.args.path.now c.args.key.now) c.requires ∙ found.0 in (
      free,
      drop_changes c.args.tree.now c.args.path.now c.args.key.now [] c.args.at c.drop_key.new.self c.drop_key.ensures.outline (c.drop_key.ensures.plain c.args.path.now found.1) free,
    )
