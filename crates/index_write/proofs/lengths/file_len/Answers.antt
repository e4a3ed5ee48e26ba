use Rattle.index_model.specs.Values.{facts_of}
use Rattle.index_write.proofs.SizeLemmas.{file_total}
use Rattle.index_write.proofs.lengths.file_len.Goals as goal

pub returns : goal.returns
returns c = file_total (facts_of c.args.node.now) c.args.length c.args.extents.now _ _ _ _ c.facts_len.ensures c.digits_len.ensures c.extents_len.ensures c.total.ensures
