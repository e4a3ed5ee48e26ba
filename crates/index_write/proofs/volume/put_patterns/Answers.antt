use Rattle.index_write.proofs.Assembled.{join, told}
use Rattle.index_write.proofs.volume.put_patterns.Goals as goal

pub returns-in_err-put_name-clause-err : goal.returns-in_err-put_name-clause-err
returns-in_err-put_name-clause-err c = told c.from_residual.result (join c.args.out.now.items _ _ c.loop-at.invariant.1 c.in_err-put_name.ensures.err)
