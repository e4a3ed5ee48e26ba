use Rattle.std.proofs.Common.{◌≡◌, subst, refl, length, arith}
use Rattle.std.proofs.lemmas.Option.{slice_get_read, slice_get_within}
use Rattle.index_model.specs.Places.{IsAt}
use Rattle.file_tree.specs.Mounts.{IsBuilt}
use Rattle.file_tree.proofs.MountLemmas.{keys_apart, first_built, first_files}
use Rattle.file_tree.proofs.mount.store_nodes.Goals as goal

pub node_from-requires-clause-keys : goal.node_from-requires-clause-keys
node_from-requires-clause-keys c = keys_apart c.args.nodes.now c.requires.keys 0 c.index-nodes-0.result
    (slice_get_read c.args.nodes.now (length c.args.nodes.now) 0 c.index-nodes-0.result refl (slice_get_within c.args.nodes.now 0 c.requires.order.root c.requires.order.first) c.index-nodes-0.is)

pub loop-at-init : goal.loop-at-init
loop-at-init c =
    let is : IsAt c.args.nodes.now 0 c.index-nodes-0.result = slice_get_read c.args.nodes.now (length c.args.nodes.now) 0 c.index-nodes-0.result refl (slice_get_within c.args.nodes.now 0 c.requires.order.root c.requires.order.first) c.index-nodes-0.is in (
      first_built c.args.letters c.args.block_size c.args.nodes.now c.index-nodes-0.result c.in_ok-root.root c.in_ok-store.store.nodes is c.in_ok-root.ensures.number c.in_ok-root.ensures.node c.in_ok-store.ensures.nodes,
      c.in_ok-store.ensures.slots,
      first_files c.args.block_size c.in_ok-root.root c.in_ok-store.store.nodes c.in_ok-store.ensures.nodes c.in_ok-root.ensures.files,
    )

pub returns-clause-built : goal.returns-clause-built
returns-clause-built c =
    let some = slice_get_within c.args.nodes.now 0 c.requires.order.root c.requires.order.first in
    let done : c.loop-at.at ≡ length c.args.nodes.now = omega (arith, c.loop-at-test.false, c.loop-at.auto.at-end, some) in
    subst (λ n. IsBuilt c.args.letters c.args.block_size c.args.nodes.now n c.loop-at.store.nodes) done c.loop-at.invariant.0
