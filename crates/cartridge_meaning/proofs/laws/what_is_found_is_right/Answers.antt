use Rattle.cartridge_meaning.proofs.OneMount.{done_consistent, found_uuid, found_valid}
use Rattle.cartridge_meaning.proofs.laws.what_is_found_is_right.Goals as goal

pub returns-clause-valid : goal.returns-clause-valid
returns-clause-valid c = found_valid

pub returns-clause-uuid : goal.returns-clause-uuid
returns-clause-uuid c = found_uuid

pub returns-clause-done : goal.returns-clause-done
returns-clause-done c = done_consistent
