use Rattle.std.proofs.Common.{take}
use Rattle.std.specs.List.{AllByRecursion}
use Rattle.cartridge_meaning.specs.Meaning.{FitsNode}
use Rattle.mount_recover.proofs.extents.first_outside.Given as goal

abbrev pub invariant-loop-node : goal.invariant-loop-node
invariant-loop-node l = AllByRecursion (FitsNode l.label l.ends.ip l.ends.dp) (take l.node-index l.nodes)
