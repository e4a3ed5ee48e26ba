use Rattle.index_write.proofs.AttributeLemmas.{attributes_total}
use Rattle.index_write.proofs.lengths.attributes_len.Goals as goal

pub returns : goal.returns
returns c = attributes_total c.args.xattrs.now _ _ c.if-is_empty.ensures c.xattrs_len.ensures c.saturating_add.ensures
