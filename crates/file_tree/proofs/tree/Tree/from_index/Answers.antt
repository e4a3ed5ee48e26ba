use Rattle.std.proofs.Common.{◌≡◌, sym, ap, ◌∙◌, subst, List, [], ◌∷◌, length, get_or}
use Rattle.index_model.specs.declared.nodes.Node as told
use Rattle.index_model.specs.Places.{IsAt}
use Rattle.file_tree.specs.Mounts.{AreTold, IsBuilt}
use Rattle.name_tries.proofs.ItemLemmas.{some_same}
use Rattle.file_tree.proofs.MountLemmas.{are_told}
use Rattle.file_tree.proofs.MountedGood.{built_good}
use Rattle.file_tree.proofs.tree.Tree.from_index.Goals as goal

pub place_nodes-requires : goal.place_nodes-requires
place_nodes-requires c = subst (λ (l : List told.Node). AreTold c.args.letters c.args.block_size l) (sym c.as_slice-nodes.ensures) (are_told c.args.index.now c.args.letters c.args.block_size c.requires)

first_is : (nodes : List told.Node) (root d : told.Node) → IsAt nodes 0 root → get_or nodes 0 d ≡ root
first_is [] root d is = cc
first_is (node ∷ nodes) root d is = some_same node root is

pub invariant_of-result : goal.invariant_of-result
invariant_of-result c =
    let order = c.requires.valid.formed.order in
    built_good c.args.index.now c.args.letters c.args.block_size c.requires c.in_ok-places.places.nodes
    (subst (λ (l : List told.Node). IsBuilt c.args.letters c.args.block_size l (length l) c.in_ok-places.places.nodes) c.as_slice-nodes.ensures c.in_ok-places.ensures.built)
    c.in_ok-places.ensures.files c.in_ok-volume.volume order.root order.first
    (c.in_ok-volume.ensures {u = tt} ∙ ap (λ (n : told.Node). n.name) (ap (λ l. get_or l 0 c.index-nodes-0.result) c.as_slice-nodes.ensures ∙ first_is c.args.index.now.nodes order.root c.index-nodes-0.result order.first))
    c.ranges.block_size.fits c.in_ok-places.places.spare _
