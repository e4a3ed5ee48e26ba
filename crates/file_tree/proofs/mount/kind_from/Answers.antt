use Rattle.std.proofs.Common.{sym, List, subst}
use Rattle.index_model.specs.declared.nodes.RawExtent.{RawExtent}
use Rattle.file_tree.specs.Raws.{AreRaws}
use Rattle.file_tree.proofs.mount.kind_from.Goals as goal

pub extents_from-requires : goal.extents_from-requires
extents_from-requires c = subst (λ (l : List RawExtent). AreRaws c.args.letters c.args.block_size c.in-File.length l) (sym c.as_slice.ensures) (c.requires.raws c.in-File.length c.in-File.extents c.in-File.is)
