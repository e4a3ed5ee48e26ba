use Rattle.std.proofs.Common.{refl}
use Rattle.index_write.proofs.Assembled.{ok3}
use Rattle.index_write.proofs.volume.put_state.Goals as goal

pub returns-clause-ok : goal.returns-clause-ok
returns-clause-ok c = rw c.in-Some.is (ok3 c.put-2.result _ c.args.out.now.items _ _ _ _ _ _ c.in_ok-put.ensures.ok c.in_ok-put_lock.ensures.ok refl c.put-2.ensures.ok)
