use Rattle.cartridge_meaning.proofs.OneFault.{found_no_fault, one_fault}
use Rattle.cartridge_meaning.proofs.laws.faults_are_told_in_one_way.Goals as goal

pub returns-clause-one_fault : goal.returns-clause-one_fault
returns-clause-one_fault c = one_fault

pub returns-clause-never_both : goal.returns-clause-never_both
returns-clause-never_both c = found_no_fault
