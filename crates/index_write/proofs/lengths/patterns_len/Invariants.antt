use Rattle.std.proofs.Common.{◌≡◌, take}
use Rattle.std.specs.List.{flat_map}
use Rattle.ltfs_documents.specs.declared.doc_fields.tags.Tag.TheVariants.{Name}
use Rattle.index_model.specs.Canonical.{name}
use Rattle.index_write.specs.Sizes.{size}
use Rattle.index_write.proofs.lengths.patterns_len.Given as goal

abbrev pub invariant-loop-at : goal.invariant-loop-at
invariant-loop-at l = l.sum ≡ size (flat_map (name Name) (take l.at l.names))
