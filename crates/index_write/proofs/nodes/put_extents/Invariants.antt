use Rattle.std.proofs.Common.{◌≡◌, ◌++◌, take}
use Rattle.std.specs.List.{flat_map}
use Rattle.ltfs_documents.specs.DocFields.Written.{Keeps}
use Rattle.index_model.specs.Canonical.{extent}
use Rattle.index_write.proofs.nodes.put_extents.Given as goal

abbrev pub invariant-loop-extent : goal.invariant-loop-extent
invariant-loop-extent l = (l.out.items ≡ l.fn.out.items ++ flat_map extent (take l.extent-index l.extents)) × Keeps l.fn.out.items l.out.items
