use Rattle.image_format.proofs.RecordLemmas.{fault_found, fault_only, records_found, records_only}
use Rattle.image_format.proofs.laws.records_are_told.Goals as goal

pub returns-clause-found : goal.returns-clause-found
returns-clause-found c = λ h file items is. records_found h file items is

pub returns-clause-only : goal.returns-clause-only
returns-clause-only c = λ h file items are e. records_only h file items are e

pub returns-clause-fault : goal.returns-clause-fault
returns-clause-fault c = λ h file n are is. fault_found h file n are is

pub returns-clause-fault_only : goal.returns-clause-fault_only
returns-clause-fault_only c = λ h file n are e. fault_only h file n are e
