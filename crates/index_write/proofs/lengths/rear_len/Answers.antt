use Rattle.index_model.specs.Values.{volume_of}
use Rattle.index_write.proofs.SizeLemmas.{rear_total}
use Rattle.index_write.proofs.lengths.rear_len.Goals as goal

pub returns : goal.returns
returns c = rear_total (volume_of c.args.index.now) _ _ _ _ _ c.truth_len.ensures c.policy_len.ensures c.lock_len.ensures c.digits_len.ensures c.total.ensures
