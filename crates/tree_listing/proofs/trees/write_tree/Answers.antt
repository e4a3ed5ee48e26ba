use Rattle.std.proofs.Common.{sym, ◌∙◌, subst}
use Rattle.index_model.specs.Order.{AreInOrder}
use Rattle.file_tree.specs.Tree.{plain_of}
use Rattle.file_tree.proofs.OrderLemmas.{told_in_order}
use Rattle.tree_listing.specs.Listing.{AreNodesOf}
use Rattle.tree_listing.proofs.Kept.{nodes_are}
use Rattle.tree_listing.proofs.trees.write_tree.Goals as goal

pub write_listing-requires : goal.write_listing-requires
write_listing-requires g c =
    subst AreInOrder (sym (c.as_slice.ensures ∙ c.in-Ok.ensures)) (told_in_order (97, 98) c.args.tree.now c.count-count.ensures.good)

pub returns-in-Ok-write_listing-clause-done : goal.returns-in-Ok-write_listing-clause-done
returns-in-Ok-write_listing-clause-done g c tape =
    c.in-Ok-write_listing.ensures.done (plain_of tape c.args.tree.now)
    (subst (λ n. AreNodesOf n (plain_of tape c.args.tree.now)) (sym (c.as_slice.ensures ∙ c.in-Ok.ensures)) (nodes_are (97, 98) c.args.tree.now c.count-count.ensures.good tape))
    (sym c.lock.ensures)

pub returns-clause-cut_short : goal.returns-clause-cut_short
returns-clause-cut_short g c tape =
    c.in-Err-write_listing.ensures.cut_short (plain_of tape c.args.tree.now)
    (subst (λ n. AreNodesOf n (plain_of tape c.args.tree.now)) (sym (c.as_slice.ensures ∙ c.in-Ok.ensures)) (nodes_are (97, 98) c.args.tree.now c.count-count.ensures.good tape))
    (sym c.lock.ensures)
