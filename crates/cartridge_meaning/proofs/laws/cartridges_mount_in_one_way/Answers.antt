use Rattle.cartridge_meaning.proofs.OneMount.{mounted_label, mounted_once}
use Rattle.cartridge_meaning.proofs.laws.cartridges_mount_in_one_way.Goals as goal

pub returns-clause-one : goal.returns-clause-one
returns-clause-one c = mounted_once

pub returns-clause-label : goal.returns-clause-label
returns-clause-label c = mounted_label
