use Rattle.std.proofs.Common.{◌++◌, List, ℕ, ap, sym, subst, ◌∙◌}
use Rattle.index_model.specs.Canonical.{canonical}
use Rattle.index_model.specs.Order.{AreInOrder}
use Rattle.index_model.specs.Values.{IndexValue, Tells}
use Rattle.index_model.specs.declared.indexes.Index.{Index}
use Rattle.index_model.specs.declared.nodes.Node.{Node}
use Rattle.file_tree.proofs.OrderLemmas.{told_in_order}
use Rattle.file_tree.specs.Carried.{index_of_tree}
use Rattle.file_tree.specs.Mounts.{Letters}
use Rattle.space_laws.specs.Files.{canon}
use Rattle.held_volume.proofs.VolumeSync.Texts.{text_is}
use Rattle.held_volume.proofs.volume_sync.documents.index_document.Goals as goal

pub returns-clause-text : goal.returns-clause-text
returns-clause-text c =
    let index : Index = c.in_ok-index.index in
    let order : AreInOrder index.nodes = subst (λ (l : List Node). AreInOrder l) (sym (ap (λ (i : Index). i.nodes) c.in_ok-index.ensures)) (told_in_order c.letters.result c.args.tree.now c.count-count.ensures.good) in
    let text = text_is index c.index_text.new.out.items order (λ (v : IndexValue) (tells : Tells index v). c.in_ok-index_text.ensures.text v tells ∙ ap (λ (l : List ℕ). l ++ canonical v) c.new-doc.ensures.items) in
    text.0
    ∙ ap canon (c.in_ok-index.ensures
    ∙ ap (λ (both : Letters). index_of_tree both c.args.heading c.args.frame.now.carried c.args.tree.now) c.letters.ensures)

pub returns-clause-some : goal.returns-clause-some
returns-clause-some c =
    let index : Index = c.in_ok-index.index in
    let order : AreInOrder index.nodes = subst (λ (l : List Node). AreInOrder l) (sym (ap (λ (i : Index). i.nodes) c.in_ok-index.ensures)) (told_in_order c.letters.result c.args.tree.now c.count-count.ensures.good) in
    (text_is index c.index_text.new.out.items order (λ (v : IndexValue) (tells : Tells index v). c.in_ok-index_text.ensures.text v tells ∙ ap (λ (l : List ℕ). l ++ canonical v) c.new-doc.ensures.items)).1
