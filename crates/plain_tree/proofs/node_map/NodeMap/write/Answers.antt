use Rattle.std.proofs.Common.{rules}
use Rattle.plain_tree.specs.Tree.{changed_at, written_by}
use Rattle.plain_tree.proofs.Validity.{write_mark}
use Rattle.plain_tree.proofs.LinkLemmas.{on_ok, on_err, on_any_err}
use Rattle.plain_tree.proofs.KeptLemmas.{seen_by, now_kept, only, still_kept, unchanged, same_root, change_root, change_next, change_missing, no_names, some_names}
use Rattle.plain_tree.proofs.node_map.NodeMap.write.Goals as goal

pub invariant_of-self-inside : goal.invariant_of-self-inside
invariant_of-self-inside c = (
  seen_by c.write_node.result c.write_node.new.node c.self.inside.links c.self.inside.count (changed_at (written_by c.args.write c.args.at) c.args.path.now c.args.self.now) c.args.self.now
      (on_ok c.write_node.result (λ is. change_root c.self.inside.root c.write_node.new.node c.self.inside.links c.self.inside.count c.args.self.now (now_kept c.self.inside.root c.self.inside.links c.self.inside.count c.args.self.now c.self.inside.seen c.self.view_is c.self.invariant) c.args.path.now (written_by c.args.write c.args.at) (write_mark c.args.write c.args.at) (no_names c.args.path.now (search rules)) is) c.write_node.ensures.ok)
      (on_err c.write_node.result (λ is. same_root c.self.inside.root c.write_node.new.node c.self.inside.links c.self.inside.count c.args.self.now (now_kept c.self.inside.root c.self.inside.links c.self.inside.count c.args.self.now c.self.inside.seen c.self.view_is c.self.invariant) is) c.write_node.ensures.err),
  tt,
)

pub invariant_of-self : goal.invariant_of-self
invariant_of-self c = still_kept c.write_node.new.node c.self.inside.links c.self.inside.count c.args.self.now _ (search rules) (same_root c.self.inside.root c.write_node.new.node c.self.inside.links c.self.inside.count c.args.self.now (now_kept c.self.inside.root c.self.inside.links c.self.inside.count c.args.self.now c.self.inside.seen c.self.view_is c.self.invariant) c.in_err-write_node.ensures.err)

pub returns-in_err-write_node-clause-err : goal.returns-in_err-write_node-clause-err
returns-in_err-write_node-clause-err c = on_any_err c.from_residual.result (only c.write_node.new.node c.self.inside.links c.self.inside.count c.args.self.now _ (search rules) (same_root c.self.inside.root c.write_node.new.node c.self.inside.links c.self.inside.count c.args.self.now (now_kept c.self.inside.root c.self.inside.links c.self.inside.count c.args.self.now c.self.inside.seen c.self.view_is c.self.invariant) c.in_err-write_node.ensures.err))

pub invariant_of-self-then-is_empty : goal.invariant_of-self-then-is_empty
invariant_of-self-then-is_empty c = still_kept c.write_node.new.node c.self.inside.links c.self.inside.count (changed_at (written_by c.args.write c.args.at) c.args.path.now c.args.self.now) _ (search rules) (change_root c.self.inside.root c.write_node.new.node c.self.inside.links c.self.inside.count c.args.self.now (now_kept c.self.inside.root c.self.inside.links c.self.inside.count c.args.self.now c.self.inside.seen c.self.view_is c.self.invariant) c.args.path.now (written_by c.args.write c.args.at) (write_mark c.args.write c.args.at) (no_names c.args.path.now (search rules)) c.in_ok-write_node.ensures.ok)

pub returns-then-is_empty-clause-ok : goal.returns-then-is_empty-clause-ok
returns-then-is_empty-clause-ok c = only c.write_node.new.node c.self.inside.links c.self.inside.count (changed_at (written_by c.args.write c.args.at) c.args.path.now c.args.self.now) _ (search rules) (change_root c.self.inside.root c.write_node.new.node c.self.inside.links c.self.inside.count c.args.self.now (now_kept c.self.inside.root c.self.inside.links c.self.inside.count c.args.self.now c.self.inside.seen c.self.view_is c.self.invariant) c.args.path.now (written_by c.args.write c.args.at) (write_mark c.args.write c.args.at) (no_names c.args.path.now (search rules)) c.in_ok-write_node.ensures.ok)

pub returns-in_default-clause-ok : goal.returns-in_default-clause-ok
returns-in_default-clause-ok c =
    let some = some_names c.args.path.now (search rules) in
    change_missing c.args.self.now (now_kept c.self.inside.root c.self.inside.links c.self.inside.count c.args.self.now c.self.inside.seen c.self.view_is c.self.invariant).kept.valid c.args.path.now (written_by c.args.write c.args.at) some (c.in_default.ensures.missing some)

pub invariant_of-self-inside-2 : goal.invariant_of-self-inside-2
invariant_of-self-inside-2 c = (
  seen_by c.write.result c.self.inside.root c.write.new.self c.self.inside.count (changed_at (written_by c.args.write c.args.at) c.args.path.now c.args.self.now) c.args.self.now
      (on_ok c.write.result (λ put. change_next c.self.inside.root c.self.inside.links c.write.new.self c.self.inside.count c.args.self.now (now_kept c.self.inside.root c.self.inside.links c.self.inside.count c.args.self.now c.self.inside.seen c.self.view_is c.self.invariant) c.args.path.now c.in-Some.uid c.in-Some.name.now c.in-Some.ensures.there (written_by c.args.write c.args.at) (write_mark c.args.write c.args.at) put) c.write.ensures.ok)
      (on_err c.write.result (λ same. unchanged c.self.inside.root c.self.inside.links c.write.new.self c.self.inside.count c.args.self.now (now_kept c.self.inside.root c.self.inside.links c.self.inside.count c.args.self.now c.self.inside.seen c.self.view_is c.self.invariant) same) c.write.ensures.err),
  tt,
)

pub invariant_of-self-in_err-write : goal.invariant_of-self-in_err-write
invariant_of-self-in_err-write c = still_kept c.self.inside.root c.write.new.self c.self.inside.count c.args.self.now _ (search rules) (unchanged c.self.inside.root c.self.inside.links c.write.new.self c.self.inside.count c.args.self.now (now_kept c.self.inside.root c.self.inside.links c.self.inside.count c.args.self.now c.self.inside.seen c.self.view_is c.self.invariant) c.in_err-write.ensures.err)

pub returns-in_err-write-clause-err : goal.returns-in_err-write-clause-err
returns-in_err-write-clause-err c = on_any_err c.from_residual-in_err-write.result (only c.self.inside.root c.write.new.self c.self.inside.count c.args.self.now _ (search rules) (unchanged c.self.inside.root c.self.inside.links c.write.new.self c.self.inside.count c.args.self.now (now_kept c.self.inside.root c.self.inside.links c.self.inside.count c.args.self.now c.self.inside.seen c.self.view_is c.self.invariant) c.in_err-write.ensures.err))

pub invariant_of-self-2 : goal.invariant_of-self-2
invariant_of-self-2 c = still_kept c.self.inside.root c.write.new.self c.self.inside.count (changed_at (written_by c.args.write c.args.at) c.args.path.now c.args.self.now) _ (search rules) (change_next c.self.inside.root c.self.inside.links c.write.new.self c.self.inside.count c.args.self.now (now_kept c.self.inside.root c.self.inside.links c.self.inside.count c.args.self.now c.self.inside.seen c.self.view_is c.self.invariant) c.args.path.now c.in-Some.uid c.in-Some.name.now c.in-Some.ensures.there (written_by c.args.write c.args.at) (write_mark c.args.write c.args.at) c.in_ok-write.ensures.ok)

pub returns-clause-ok : goal.returns-clause-ok
returns-clause-ok c = only c.self.inside.root c.write.new.self c.self.inside.count (changed_at (written_by c.args.write c.args.at) c.args.path.now c.args.self.now) _ (search rules) (change_next c.self.inside.root c.self.inside.links c.write.new.self c.self.inside.count c.args.self.now (now_kept c.self.inside.root c.self.inside.links c.self.inside.count c.args.self.now c.self.inside.seen c.self.view_is c.self.invariant) c.args.path.now c.in-Some.uid c.in-Some.name.now c.in-Some.ensures.there (written_by c.args.write c.args.at) (write_mark c.args.write c.args.at) c.in_ok-write.ensures.ok)
