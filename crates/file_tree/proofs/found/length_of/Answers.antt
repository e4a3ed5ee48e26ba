use Rattle.std.proofs.Common.{◌∙◌, ap, sym, length}
use Rattle.plain_tree.specs.Tree.{cells_of_kind}
use Rattle.file_tree.specs.Tree.{plain_kind_of}
use Rattle.file_tree.specs.declared.nodes.HeldKind.{HeldKind}
use Rattle.file_tree.proofs.ReadLemmas.{length_same}
use Rattle.file_tree.proofs.found.length_of.Goals as goal

pub returns-in-File : goal.returns-in-File
returns-in-File c tape = c.length.ensures ∙ length_same tape c.in-File.extents ∙ ap (λ (k : HeldKind). length (cells_of_kind (plain_kind_of tape k))) (sym c.in-File.is)
