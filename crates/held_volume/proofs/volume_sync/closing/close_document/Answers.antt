use Rattle.std.proofs.Common.{◌≡◌, Vec, ℕ, Global, IfOk, subst}
use Rattle.file_tree.specs.Carried.{index_of_tree}
use Rattle.file_tree.specs.declared.carried.Heading.{Heading}
use Rattle.space_laws.specs.Files.{canon}
use Rattle.held_volume.specs.VolumeSync.Frames.{letters_of}
use Rattle.held_volume.proofs.volume_sync.closing.close_document.Goals as goal

pub returns-clause-text : goal.returns-clause-text
returns-clause-text c =
    subst (λ (h : Heading). IfOk c.index_document.result (λ (doc : Vec ℕ Global). doc.items ≡ canon (index_of_tree (letters_of c.args.frame.now) h c.args.frame.now.carried c.args.tree.now)))
    c.in_ok-heading.ensures c.index_document.ensures.text
