use Rattle.std.proofs.Common.{rules, ◌<◌, vec_len, sym, ap, ◌∙◌, Some}
use Rattle.std.proofs.lemmas.Option.{slice_get-get_or}
use Rattle.ltfs_documents.specs.DocElements.Elements.{plain}
use Rattle.ltfs_documents.specs.DocElements.Answers.{val_of}
use Rattle.index_read.specs.Told.{node_with}
use Rattle.index_read.proofs.Changes.{changed_set, changed_none}
use Rattle.index_read.proofs.drafts.tell_node.Goals as goal

pub returns-in-Some : goal.returns-in-Some
returns-in-Some c =
    let there = c.in-Some.ensures.item.3 in
    let node = c.in-Some.node.now in
    let is = slice_get-get_or c.args.nodes.now.items c.args.at node there.0 ∙ ap (λ n. Some n) (sym (there.1 node)) in
    changed_set c.args.nodes.now.items c.args.at node c.put_node.new.node (node_with (plain c.args.tag (val_of c.args.value))) is c.put_node.ensures

pub returns-in-None : goal.returns-in-None
returns-in-None c = changed_none c.args.nodes.now.items c.args.at (node_with (plain c.args.tag (val_of c.args.value))) (λ lt. let there : c.args.at < vec_len c.args.nodes.now = search (rules, lt) in let bad = c.in-None.ensures.variant.1 there in cc)
