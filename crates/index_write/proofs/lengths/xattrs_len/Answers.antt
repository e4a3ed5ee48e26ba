use Rattle.std.proofs.Common.{◌∙◌, ap}
use Rattle.tape_types.specs.declared.node_keys.xattrs.Xattr.{Xattr}
use Rattle.index_model.specs.Canonical.{xattr}
use Rattle.index_write.specs.Sizes.{size}
use Rattle.index_write.proofs.SizeLemmas.{one_size_more}
use Rattle.index_write.proofs.lengths.xattrs_len.Goals as goal

pub loop-xattr-preserved : goal.loop-xattr-preserved
loop-xattr-preserved c =
    let one = c.xattr_len.ensures ∙ ap (λ (x : Xattr). size (xattr x)) c.xattr-item.is in
    one_size_more xattr c.args.xattrs.now c.loop-xattr.xattr-index _ c.loop-xattr.sum _ _ c.loop-xattr-test.true c.loop-xattr.invariant one c.saturating_add-sum.ensures
