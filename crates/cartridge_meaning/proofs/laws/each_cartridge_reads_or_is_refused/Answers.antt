use Rattle.cartridge_meaning.proofs.Judged.{judged}
use Rattle.cartridge_meaning.proofs.laws.each_cartridge_reads_or_is_refused.Goals as goal

pub returns : goal.returns
returns c = judged
