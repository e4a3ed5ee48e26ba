use Rattle.index_write.proofs.Assembled.{join}
use Rattle.index_write.proofs.Zipper.{end_more}
use Rattle.index_write.proofs.nodes.put_ends.Goals as goal

pub loop-preserved : goal.loop-preserved
loop-preserved c = let is = end_more c.args.out.now.items _ _ c.loop.counter c.loop.invariant.0 c.in_ok-put.ensures.ok in (is, (_, is))

pub returns-in_err-put-clause-keeps : goal.returns-in_err-put-clause-keeps
returns-in_err-put-clause-keeps c = join c.args.out.now.items _ _ c.loop.invariant.1 c.in_err-put.ensures.err
