use Rattle.content_laws.proofs.Grown.{content_torn}
use Rattle.content_laws.proofs.Cuts.{agree_up_to_index, cut_keeps}
use Rattle.content_laws.proofs.IpEnds.{cut_at_end_ip}
use Rattle.content_laws.proofs.laws.indexes_stay.Goals as goal

pub returns-clause-torn : goal.returns-clause-torn
returns-clause-torn c = content_torn

pub returns-clause-cut : goal.returns-clause-cut
returns-clause-cut c = cut_keeps

pub returns-clause-agreed : goal.returns-clause-agreed
returns-clause-agreed c = agree_up_to_index

pub returns-clause-replaced : goal.returns-clause-replaced
returns-clause-replaced c = cut_at_end_ip
