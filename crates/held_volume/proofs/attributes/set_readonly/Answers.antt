use Rattle.std.proofs.Common.{◌∙◌}
use Rattle.plain_tree.specs.declared.calls.Call.TheVariants as asks
use Rattle.file_tree.specs.Tree.{plain_of, whole}
use Rattle.held_volume.proofs.Asks.{unlocked_refusal}
use Rattle.held_volume.proofs.KeySteps.{flag_changes}
use Rattle.held_volume.proofs.attributes.set_readonly.Goals as goal

pub returns-else-is_readonly-on : goal.returns-else-is_readonly-on
returns-else-is_readonly-on c =
    let found = c.in-Ok.ensures {u = tt} in
    let free = unlocked_refusal (plain_of whole c.args.tree.now) (asks.Readonly c.args.path.now c.args.on) c.requires ∙ found.0 in (
      free,
      flag_changes c.args.tree.now c.args.path.now c.args.on c.args.at c.set_readonly.new.self c.is_readonly.result
          c.set_readonly.ensures.outline (c.set_readonly.ensures.plain c.args.path.now found.1) (λ tape. c.is_readonly.ensures tape c.args.path.now found.1) c.if-is_readonly-on.false free,
    )
