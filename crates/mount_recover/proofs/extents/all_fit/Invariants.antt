use Rattle.std.proofs.Common.{◌<◌, take}
use Rattle.std.specs.List.{AllByRecursion}
use Rattle.index_model.specs.declared.nodes.RawExtent.{RawExtent}
use Rattle.cartridge_meaning.specs.Meaning.{Fits}
use Rattle.mount_recover.proofs.extents.all_fit.Given as goal

abbrev pub invariant-loop-extent : goal.invariant-loop-extent
invariant-loop-extent l = AllByRecursion (λ (e : RawExtent). 0 < e.count → Fits l.label l.ends.ip l.ends.dp e) (take l.extent-index l.extents)
