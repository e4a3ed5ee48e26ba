use Rattle.index_model.specs.Values.{volume_of}
use Rattle.index_write.proofs.SizeLemmas.{volume_total}
use Rattle.index_write.proofs.lengths.volume_len.Goals as goal

pub returns : goal.returns
returns c = volume_total (volume_of c.args.index.now) _ _ _ _ _ c.front_len.ensures c.spot_len.ensures c.back_len.ensures c.rear_len.ensures c.total.ensures
