use Rattle.cartridge_meaning.proofs.Newest.{newest_dp, newest_ip, stands_there, tie_is_dp}
use Rattle.cartridge_meaning.proofs.laws.the_newest_index_is_chosen.Goals as goal

pub returns-clause-on_ip : goal.returns-clause-on_ip
returns-clause-on_ip c = λ one f. newest_ip f.on_ip f.on_dp f.index f.choice

pub returns-clause-on_dp : goal.returns-clause-on_dp
returns-clause-on_dp c = λ one f. newest_dp f.on_ip f.on_dp f.index f.choice

pub returns-clause-tie : goal.returns-clause-tie
returns-clause-tie c = λ one f index. tie_is_dp f.on_ip f.on_dp f.index index f.choice

pub returns-clause-place : goal.returns-clause-place
returns-clause-place c = λ one f place. stands_there one f.labels.ip f.on_ip f.on_dp f.index place f.dp_last f.ip_last f.choice
