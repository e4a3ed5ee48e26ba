use Rattle.std.proofs.Common.{◌≡◌, ◌++◌, take}
use Rattle.std.specs.List.{flat_map}
use Rattle.ltfs_documents.specs.DocFields.Written.{Keeps}
use Rattle.ltfs_documents.specs.declared.doc_fields.tags.Tag.TheVariants.{Name}
use Rattle.index_model.specs.Canonical.{name}
use Rattle.index_write.proofs.volume.put_patterns.Given as goal

abbrev pub invariant-loop-at : goal.invariant-loop-at
invariant-loop-at l = (l.out.items ≡ l.fn.out.items ++ flat_map (name Name) (take l.at l.names)) × Keeps l.fn.out.items l.out.items
