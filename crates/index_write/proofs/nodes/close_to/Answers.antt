use Rattle.std.proofs.Common.{◌≡◌, arith, ◌∙◌, sym}
use Rattle.index_write.specs.Rests.{parent_at}
use Rattle.index_write.proofs.Assembled.{join}
use Rattle.index_write.proofs.Zipper.{ends, ends_more, some_node}
use Rattle.index_write.proofs.nodes.close_to.Goals as goal

pub loop-left-preserved : goal.loop-left-preserved
loop-left-preserved c = (
  λ at text lt up rests. rw c.parent_at.ensures (some_node c.args.nodes.now at lt (λ d. ends_more c.args.nodes.now at c.loop-left.left c.args.out.now.items _ _ text d lt (λ e. c.loop-left-test.true (sym e ∙ up)) c.in_ok-put.ensures.ok (c.loop-left.invariant.0 at text lt up rests))),
  omega (arith, c.loop-left.invariant.1),
  join c.args.out.now.items _ _ c.loop-left.invariant.2 (_, c.in_ok-put.ensures.ok),
)

pub returns-else-left-gt0-clause-ok : goal.returns-else-left-gt0-clause-ok
returns-else-left-gt0-clause-ok c = λ at text lt up rests.
    let goes = c.loop-left.invariant.0 at text lt up rests in
    let apart = λ (e : parent_at c.args.nodes.now at ≡ c.loop-left.left.dir). c.loop-left-test.true (sym e ∙ up) in
    let some = some_node c.args.nodes.now at lt (λ d. (ends c.args.nodes.now at c.loop-left.left goes.rest d lt apart goes.rests).some) in
    absurd (omega (arith, some, c.if-left-gt0.false))
