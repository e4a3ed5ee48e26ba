use Rattle.std.proofs.Common.{◌≡◌, List, ap, ◌∙◌}
use Rattle.tape_types.specs.declared.node_keys.xattrs.Xattr.{Xattr}
use Rattle.tape_types.specs.NodeKeys.Keys.{list_of}
use Rattle.tape_types.proofs.NodeKeys.ListLaws.{is_list}
use Rattle.file_tree.specs.Told.{told_node_of}
use Rattle.file_tree.proofs.told.told_node.Goals as goal

pub returns : goal.returns
returns c =
    let node = c.args.node.now in
    let keys_are : c.in_ok-xattrs.xattrs ≡ list_of node.keys.map = c.in_ok-xattrs.ensures ∙ is_list c.as_slice.result.now node.keys.map c.as_slice.ensures in
    ap (λ (xs : List Xattr). record { parent = c.args.parent; uid = node.uid; name = c.args.name; times = node.times; readonly = node.readonly; xattrs = xs; kind = c.in_ok-kind.kind }) keys_are
    ∙ ap (λ k. record (told_node_of c.args.letters c.args.parent c.args.name node) { kind = k }) c.in_ok-kind.ensures
