use Rattle.std.proofs.Common.{refl, subst}
use Rattle.tape_types.specs.Cartridges.{IsLimits}
use Rattle.commands.proofs.BasicCommands.MountedTree.{can_mount, is_listing}
use Rattle.commands.proofs.basic_commands.lists.find_tree.Goals as goal

pub from_index-requires : goal.from_index-requires
from_index-requires g c =
    let range = subst IsLimits c.limits-capacities_are_in_range.ensures.value c.limits-capacities_are_in_range.ensures.range in
    can_mount (g.D.Drive.limits c.args.drive.now) c.in-Ok.mounted range c.in-Ok.ensures.any

pub returns-in-Ok-from_index-clause-found : goal.returns-in-Ok-from_index-clause-found
returns-in-Ok-from_index-clause-found g c = λ held_one held.
    is_listing held_one c.in-Ok.mounted _ (c.in-Ok.ensures.found held_one held) c.in-Ok-from_index.ensures refl c.spot_of.ensures
