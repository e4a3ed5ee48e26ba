-- How many positions a cartridge in a folder has.
use Rattle.tape_types.specs.declared.cartridges.Limits.{Limits}

abbrev pub folder_limits : Limits
folder_limits = record { cap_ip = 65536; cap_dp = 1048576 }
