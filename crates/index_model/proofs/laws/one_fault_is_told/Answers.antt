use Rattle.index_model.proofs.FaultLaws.{one_fault, agrees_no_fault}
use Rattle.index_model.proofs.NoFault.{no_fault_agrees}
use Rattle.index_model.proofs.laws.one_fault_is_told.Goals as goal

pub returns-clause-one : goal.returns-clause-one
returns-clause-one c = one_fault

pub returns-clause-agrees : goal.returns-clause-agrees
returns-clause-agrees c = agrees_no_fault

pub returns-clause-no_fault : goal.returns-clause-no_fault
returns-clause-no_fault c = no_fault_agrees
