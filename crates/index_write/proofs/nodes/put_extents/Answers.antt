use Rattle.index_model.specs.Canonical.{extent}
use Rattle.index_write.proofs.Assembled.{join, one_more, told}
use Rattle.index_write.proofs.nodes.put_extents.Goals as goal

pub loop-extent-preserved : goal.loop-extent-preserved
loop-extent-preserved c =
    let is = one_more extent c.args.out.now.items _ _ c.args.extents.now c.loop-extent.extent-index _ c.loop-extent-test.true c.in_ok-put_extent.ensures.ok c.loop-extent.invariant.0 in
    (is, (_, is))

pub returns-in_err-put_extent-clause-err : goal.returns-in_err-put_extent-clause-err
returns-in_err-put_extent-clause-err c = told c.from_residual.result (join c.args.out.now.items _ _ c.loop-extent.invariant.1 c.in_err-put_extent.ensures.err)
