use Rattle.std.proofs.Common.{arith}
use Rattle.index_write.proofs.Assembled.{join, ok}
use Rattle.index_write.proofs.Zipper.{begins_all, finishes_all, goes_on}
use Rattle.index_write.proofs.nodes.put_nodes.Goals as goal

pub loop-at-init : goal.loop-at-init
loop-at-init c = (
  λ v is. begins_all c.args.nodes.now c.in-Some.root.now c.args.out.now.items _ v c.in-Some.ensures.value c.in_ok-put_node.ensures.ok is,
  omega arith,
  (_, c.in_ok-put_node.ensures.ok),
)

pub returns-in_err-inner-clause-keeps : goal.returns-in_err-inner-clause-keeps
returns-in_err-inner-clause-keeps c = join c.args.out.now.items _ _ c.loop-at.invariant.2 c.in_err-inner.ensures.keeps

pub loop-at-preserved : goal.loop-at-preserved
loop-at-preserved c = (
  λ v is. goes_on c.args.nodes.now _ _ _ _ c.args.out.now.items _ _ _ (c.loop-at.invariant.0 v is) (c.in_ok-inner.ensures.ok (c.loop-at.invariant.0 v is).rest (c.loop-at.invariant.0 v is).rests),
  omega (arith, c.in_ok-inner.ensures.depth),
  join c.args.out.now.items _ _ c.loop-at.invariant.2 c.in_ok-inner.ensures.keeps,
)

pub returns-clause-ok : goal.returns-clause-ok
returns-clause-ok c = ok c.put_ends.result (λ put v is. finishes_all c.args.nodes.now c.loop-at.at c.loop-at.inner c.args.out.now.items _ _ _ c.loop-at-test.false put (c.loop-at.invariant.0 v is)) c.put_ends.ensures.ok

pub returns-clause-keeps : goal.returns-clause-keeps
returns-clause-keeps c = join c.args.out.now.items _ _ c.loop-at.invariant.2 c.put_ends.ensures.keeps
