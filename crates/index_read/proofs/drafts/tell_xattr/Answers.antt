use Rattle.std.proofs.Common.{◌≡◌, rules, ◌<◌, vec_len, List, ◌++◌, ◌∷◌, [], sym, ap, ◌∙◌, Some}
use Rattle.std.proofs.lemmas.Option.{slice_get-get_or}
use Rattle.std.proofs.lemmas.Result.{on_ok_weaker}
use Rattle.tape_types.specs.declared.node_keys.xattrs.Xattr.{Xattr}
use Rattle.index_model.specs.Values.{value_in, facts_of}
use Rattle.index_read.specs.Told.{with_xattr}
use Rattle.index_read.proofs.Changes.{changed_set, changed_none}
use Rattle.index_read.proofs.drafts.tell_xattr.Goals as goal

pub returns-in-Some : goal.returns-in-Some
returns-in-Some c =
    let there = c.in-Some.ensures.item.3 in
    let node = c.in-Some.node.now in
    let is = slice_get-get_or c.args.nodes.now.items c.args.at node there.0 ∙ ap (λ n. Some n) (sym (there.1 node)) in
    on_ok_weaker {P = c.push_item.new.items ≡ node.xattrs ++ c.args.xattr ∷ []} c.push_item.result
    (λ e. changed_set c.args.nodes.now.items c.args.at node (record node { xattrs = c.push_item.new.items }) (with_xattr c.args.xattr) is (ap (λ (xs : List Xattr). value_in node.parent (record (facts_of node) { xattrs = xs }) node.kind) e))
    c.push_item.ensures

pub returns-in-None : goal.returns-in-None
returns-in-None c = changed_none c.args.nodes.now.items c.args.at (with_xattr c.args.xattr) (λ lt. let there : c.args.at < vec_len c.args.nodes.now = search (rules, lt) in let bad = c.in-None.ensures.variant.1 there in cc)
