use Rattle.std.proofs.Common.{◌++◌, ◌∙◌, ap}
use Rattle.tape_types.specs.declared.node_keys.xattrs.Xattr.{Xattr}
use Rattle.index_model.specs.Canonical.{xattr}
use Rattle.index_write.proofs.Assembled.{join, one_more, told}
use Rattle.index_write.proofs.attributes.put_xattrs.Goals as goal

pub loop-xattr-preserved : goal.loop-xattr-preserved
loop-xattr-preserved c =
    let put = c.in_ok-put_xattr.ensures.ok ∙ ap (λ (x : Xattr). c.loop-xattr.out.items ++ xattr x) c.xattr-item.is in
    let is = one_more xattr c.args.out.now.items _ _ c.args.xattrs.now c.loop-xattr.xattr-index _ c.loop-xattr-test.true put c.loop-xattr.invariant.0 in
    (is, (_, is))

pub returns-in_err-put_xattr-clause-err : goal.returns-in_err-put_xattr-clause-err
returns-in_err-put_xattr-clause-err c = told c.from_residual.result (join c.args.out.now.items _ _ c.loop-xattr.invariant.1 c.in_err-put_xattr.ensures.err)
