use Rattle.index_model.specs.Values.{facts_of}
use Rattle.index_write.proofs.SizeLemmas.{directory_total}
use Rattle.index_write.proofs.lengths.directory_len.Goals as goal

pub returns : goal.returns
returns c = directory_total (facts_of c.args.node.now) _ _ c.facts_len.ensures c.saturating_add.ensures
