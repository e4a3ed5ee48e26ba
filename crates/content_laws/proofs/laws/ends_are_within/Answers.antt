use Rattle.content_laws.proofs.Placed.{end_dp_from, end_dp_within, end_ip_from, end_ip_within}
use Rattle.content_laws.proofs.laws.ends_are_within.Goals as goal

pub returns-clause-dp : goal.returns-clause-dp
returns-clause-dp c = λ items long. (end_dp_from items, end_dp_within items long)

pub returns-clause-ip : goal.returns-clause-ip
returns-clause-ip c = λ items long. (end_ip_from items, end_ip_within items long)
