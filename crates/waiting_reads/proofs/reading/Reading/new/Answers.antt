use Rattle.std.proofs.Common.{rules}
use Rattle.waiting_reads.proofs.ReadLemmas.{begun}
use Rattle.waiting_reads.proofs.reading.Reading.new.Goals as goal

pub returns-clause-begins : goal.returns-clause-begins
returns-clause-begins c = begun c.args.ticket c.args.pieces c.in_ok-bytes.bytes.items (search rules)
