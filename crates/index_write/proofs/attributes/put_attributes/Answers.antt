use Rattle.std.proofs.Common.{sym}
use Rattle.index_write.proofs.Assembled.{ok3}
use Rattle.index_write.proofs.AttributeLemmas.{some_attributes}
use Rattle.index_write.proofs.attributes.put_attributes.Goals as goal

pub returns-clause-ok : goal.returns-clause-ok
returns-clause-ok c =
    ok3 c.put-2.result _ c.args.out.now.items _ _ _ _ _ _ c.in_ok-put.ensures.ok c.in_ok-put_xattrs.ensures.ok (sym (some_attributes c.args.xattrs.now c.if-is_empty.ensures)) c.put-2.ensures.ok
