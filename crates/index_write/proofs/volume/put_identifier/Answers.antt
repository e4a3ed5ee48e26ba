use Rattle.std.proofs.Common.{refl}
use Rattle.index_write.proofs.Assembled.{ok3}
use Rattle.index_write.proofs.volume.put_identifier.Goals as goal

pub returns-clause-ok : goal.returns-clause-ok
returns-clause-ok c = ok3 c.put-2.result _ c.args.out.now.items _ _ _ _ _ _ c.in_ok-put.ensures.ok c.in_ok-put_uuid.ensures.ok refl c.put-2.ensures.ok
