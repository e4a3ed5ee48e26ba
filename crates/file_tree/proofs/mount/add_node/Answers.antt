use Rattle.std.proofs.Common.{sym, subst, refl, length}
use Rattle.std.proofs.lemmas.Option.{slice_get_read}
use Rattle.index_model.specs.Places.{IsAt}
use Rattle.file_tree.specs.Places.{CanAppend}
use Rattle.file_tree.proofs.MountLemmas.{keys_apart, can_keep, can_append, appended_built, appended_files}
use Rattle.file_tree.proofs.mount.add_node.Goals as goal

pub node_from-requires-clause-keys : goal.node_from-requires-clause-keys
node_from-requires-clause-keys c =
    let is : IsAt c.args.nodes.now c.args.at c.index-nodes-at.result = slice_get_read c.args.nodes.now (length c.args.nodes.now) c.args.at c.index-nodes-at.result refl c.requires.within c.index-nodes-at.is in
    keys_apart c.args.nodes.now c.requires.told.keys c.args.at c.index-nodes-at.result is

pub node_from-requires-clause-kind : goal.node_from-requires-clause-kind
node_from-requires-clause-kind c =
    let is : IsAt c.args.nodes.now c.args.at c.index-nodes-at.result = slice_get_read c.args.nodes.now (length c.args.nodes.now) c.args.at c.index-nodes-at.result refl c.requires.within c.index-nodes-at.is in
    can_keep c.args.letters c.args.block_size c.args.nodes.now c.requires.told c.args.at c.index-nodes-at.result is

pub append-requires : goal.append-requires
append-requires c =
    let is : IsAt c.args.nodes.now c.args.at c.index-nodes-at.result = slice_get_read c.args.nodes.now (length c.args.nodes.now) c.args.at c.index-nodes-at.result refl c.requires.within c.index-nodes-at.is in
    subst (λ name. CanAppend c.args.store.now c.index-nodes-at.result.parent name) (sym c.in_ok-name.ensures) (can_append c.args.letters c.args.block_size c.args.nodes.now c.requires.told c.args.at c.index-nodes-at.result is c.requires.behind c.args.store.now.nodes c.requires.built c.args.store.now refl c.requires.slots)

pub returns-clause-built : goal.returns-clause-built
returns-clause-built c =
    let is : IsAt c.args.nodes.now c.args.at c.index-nodes-at.result = slice_get_read c.args.nodes.now (length c.args.nodes.now) c.args.at c.index-nodes-at.result refl c.requires.within c.index-nodes-at.is in
    appended_built c.args.letters c.args.block_size c.args.nodes.now c.requires.told c.args.at c.index-nodes-at.result is c.requires.behind c.args.store.now.nodes c.requires.built (length c.args.store.now.spots) c.requires.slots c.in_ok-name.name c.in_ok-name.ensures c.append.new.self.nodes c.in_ok-node.node c.append.result c.append.ensures.nodes c.in_ok-node.ensures.node

pub returns-clause-files : goal.returns-clause-files
returns-clause-files c =
    let is : IsAt c.args.nodes.now c.args.at c.index-nodes-at.result = slice_get_read c.args.nodes.now (length c.args.nodes.now) c.args.at c.index-nodes-at.result refl c.requires.within c.index-nodes-at.is in
    appended_files c.args.letters c.args.block_size c.args.nodes.now c.requires.told c.args.at c.index-nodes-at.result is c.requires.behind c.args.store.now.nodes c.requires.built (length c.args.store.now.spots) c.requires.slots c.in_ok-name.name c.in_ok-name.ensures c.append.new.self.nodes c.in_ok-node.node c.append.result c.append.ensures.nodes c.in_ok-node.ensures.node c.requires.files c.in_ok-node.ensures.files
