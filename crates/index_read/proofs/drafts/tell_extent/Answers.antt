use Rattle.std.proofs.Common.{◌≡◌, rules, ◌<◌, vec_len, sym, ap, ◌∙◌, Some}
use Rattle.std.proofs.lemmas.Option.{slice_get-get_or}
use Rattle.std.proofs.lemmas.Result.{on_ok_weaker}
use Rattle.index_model.specs.Values.{value_in, facts_of}
use Rattle.index_read.specs.Told.{one_more, with_extent}
use Rattle.index_read.proofs.Changes.{changed_set, changed_none}
use Rattle.index_read.proofs.drafts.tell_extent.Goals as goal

pub returns-in-Some : goal.returns-in-Some
returns-in-Some c =
    let there = c.in-Some.ensures.item.3 in
    let node = c.in-Some.node.now in
    let is = slice_get-get_or c.args.nodes.now.items c.args.at node there.0 ∙ ap (λ n. Some n) (sym (there.1 node)) in
    on_ok_weaker {P = c.add_extent.new.kind ≡ one_more c.args.extent node.kind} c.add_extent.result
    (λ e. changed_set c.args.nodes.now.items c.args.at node (record node { kind = c.add_extent.new.kind }) (with_extent c.args.extent) is (ap (λ k. value_in node.parent (facts_of node) k) e))
    c.add_extent.ensures

pub returns-in-None : goal.returns-in-None
returns-in-None c = changed_none c.args.nodes.now.items c.args.at (with_extent c.args.extent) (λ lt. let there : c.args.at < vec_len c.args.nodes.now = search (rules, lt) in let bad = c.in-None.ensures.variant.1 there in cc)
