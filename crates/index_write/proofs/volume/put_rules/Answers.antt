use Rattle.std.proofs.Common.{refl}
use Rattle.index_write.specs.Parts.{volume_rear}
use Rattle.index_write.proofs.Assembled.{ok4}
use Rattle.index_write.proofs.volume.put_rules.Goals as goal

pub returns-clause-ok : goal.returns-clause-ok
unfolding volume_rear
returns-clause-ok c = ok4 c.put_number.result _ c.args.out.now.items _ _ _ _ _ _ _ _ c.in_ok-put_truth.ensures.ok c.in_ok-put_any_policy.ensures.ok c.in_ok-put_state.ensures.ok refl c.put_number.ensures.ok
