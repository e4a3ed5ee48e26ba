use Rattle.std.proofs.Common.{rules}
use Rattle.plain_tree.specs.Tree.{changed_at, changed_by}
use Rattle.plain_tree.proofs.Validity.{change_mark}
use Rattle.plain_tree.proofs.KeptLemmas.{now_kept, only, still_kept, change_root, change_next, change_missing, no_names, some_names}
use Rattle.plain_tree.proofs.node_map.NodeMap.change.Goals as goal

pub invariant_of-self-inside : goal.invariant_of-self-inside
invariant_of-self-inside c =
    let was = now_kept c.self.inside.root c.self.inside.links c.self.inside.count c.args.self.now c.self.inside.seen c.self.view_is c.self.invariant in
    let f = changed_by c.args.change c.args.at in
    let m = changed_at f c.args.path.now c.args.self.now in
    ((m, (change_root c.self.inside.root c.change_node.new.node c.self.inside.links c.self.inside.count c.args.self.now was c.args.path.now f (change_mark c.args.change c.args.at) (no_names c.args.path.now (search rules)) c.change_node.ensures).shown), tt)

pub invariant_of-self : goal.invariant_of-self
invariant_of-self c =
    let was = now_kept c.self.inside.root c.self.inside.links c.self.inside.count c.args.self.now c.self.inside.seen c.self.view_is c.self.invariant in
    let f = changed_by c.args.change c.args.at in
    still_kept c.change_node.new.node c.self.inside.links c.self.inside.count (changed_at f c.args.path.now c.args.self.now) _ (search rules)
    (change_root c.self.inside.root c.change_node.new.node c.self.inside.links c.self.inside.count c.args.self.now was c.args.path.now f (change_mark c.args.change c.args.at) (no_names c.args.path.now (search rules)) c.change_node.ensures)

pub returns-then-is_empty : goal.returns-then-is_empty
returns-then-is_empty c =
    let was = now_kept c.self.inside.root c.self.inside.links c.self.inside.count c.args.self.now c.self.inside.seen c.self.view_is c.self.invariant in
    let f = changed_by c.args.change c.args.at in
    only c.change_node.new.node c.self.inside.links c.self.inside.count (changed_at f c.args.path.now c.args.self.now) _ (search rules)
    (change_root c.self.inside.root c.change_node.new.node c.self.inside.links c.self.inside.count c.args.self.now was c.args.path.now f (change_mark c.args.change c.args.at) (no_names c.args.path.now (search rules)) c.change_node.ensures)

pub invariant_of-self-inside-in-Some : goal.invariant_of-self-inside-in-Some
invariant_of-self-inside-in-Some c =
    let was = now_kept c.self.inside.root c.self.inside.links c.self.inside.count c.args.self.now c.self.inside.seen c.self.view_is c.self.invariant in
    let f = changed_by c.args.change c.args.at in
    ((changed_at f c.args.path.now c.args.self.now, (change_next c.self.inside.root c.self.inside.links c.change.new.self c.self.inside.count c.args.self.now was c.args.path.now c.in-Some.uid c.in-Some.name.now c.in-Some.ensures.there f (change_mark c.args.change c.args.at) c.change.ensures).shown), tt)

pub invariant_of-self-in-Some : goal.invariant_of-self-in-Some
invariant_of-self-in-Some c =
    let was = now_kept c.self.inside.root c.self.inside.links c.self.inside.count c.args.self.now c.self.inside.seen c.self.view_is c.self.invariant in
    let f = changed_by c.args.change c.args.at in
    still_kept c.self.inside.root c.change.new.self c.self.inside.count (changed_at f c.args.path.now c.args.self.now) _ (search rules)
    (change_next c.self.inside.root c.self.inside.links c.change.new.self c.self.inside.count c.args.self.now was c.args.path.now c.in-Some.uid c.in-Some.name.now c.in-Some.ensures.there f (change_mark c.args.change c.args.at) c.change.ensures)

pub returns-in-Some : goal.returns-in-Some
returns-in-Some c =
    let was = now_kept c.self.inside.root c.self.inside.links c.self.inside.count c.args.self.now c.self.inside.seen c.self.view_is c.self.invariant in
    let f = changed_by c.args.change c.args.at in
    only c.self.inside.root c.change.new.self c.self.inside.count (changed_at f c.args.path.now c.args.self.now) _ (search rules)
    (change_next c.self.inside.root c.self.inside.links c.change.new.self c.self.inside.count c.args.self.now was c.args.path.now c.in-Some.uid c.in-Some.name.now c.in-Some.ensures.there f (change_mark c.args.change c.args.at) c.change.ensures)

pub returns-in_default : goal.returns-in_default
returns-in_default c =
    let was = now_kept c.self.inside.root c.self.inside.links c.self.inside.count c.args.self.now c.self.inside.seen c.self.view_is c.self.invariant in
    let some = some_names c.args.path.now (search rules) in
    change_missing c.args.self.now was.kept.valid c.args.path.now (changed_by c.args.change c.args.at) some (c.in_default.ensures.missing some)
