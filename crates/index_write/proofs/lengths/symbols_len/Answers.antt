use Rattle.index_write.proofs.AttributeLemmas.{symbols_counted}
use Rattle.index_write.proofs.lengths.symbols_len.Goals as goal

pub returns-in-Some : goal.returns-in-Some
returns-in-Some c = symbols_counted c.args.bytes.now c.in-Some.count c.encoded_len.result c.encoded_len.ensures.fits c.encoded_len.ensures.too_long c.in-Some.is
