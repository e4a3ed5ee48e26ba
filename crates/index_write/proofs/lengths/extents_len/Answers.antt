use Rattle.index_model.specs.Canonical.{extent}
use Rattle.index_write.proofs.SizeLemmas.{one_size_more}
use Rattle.index_write.proofs.lengths.extents_len.Goals as goal

pub loop-extent-preserved : goal.loop-extent-preserved
loop-extent-preserved c = one_size_more extent c.args.extents.now c.loop-extent.extent-index _ c.loop-extent.sum _ _ c.loop-extent-test.true c.loop-extent.invariant c.extent_len.ensures c.saturating_add-sum.ensures
