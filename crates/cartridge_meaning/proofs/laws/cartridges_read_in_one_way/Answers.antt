use Rattle.cartridge_meaning.proofs.OneWay.{same_facts, same_generation, same_index, same_labels, same_on_dp, same_on_ip, same_tree}
use Rattle.cartridge_meaning.proofs.laws.cartridges_read_in_one_way.Goals as goal

pub returns-clause-labels : goal.returns-clause-labels
returns-clause-labels c = same_labels

pub returns-clause-on_dp : goal.returns-clause-on_dp
returns-clause-on_dp c = same_on_dp

pub returns-clause-on_ip : goal.returns-clause-on_ip
returns-clause-on_ip c = same_on_ip

pub returns-clause-index : goal.returns-clause-index
returns-clause-index c = same_index

pub returns-clause-facts : goal.returns-clause-facts
returns-clause-facts c = same_facts

pub returns-clause-tree : goal.returns-clause-tree
returns-clause-tree c = same_tree

pub returns-clause-generation : goal.returns-clause-generation
returns-clause-generation c = same_generation
