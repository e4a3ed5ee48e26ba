-- What was found at a mount, as the definitions of space know it.
use Rattle.space_laws.specs.Mount.{MountFacts}
use Rattle.cartridge_meaning.specs.declared.mounted.Mounted.{Mounted}

abbrev pub facts_of : Mounted → MountFacts
facts_of m = record {
  label = m.label;
  index = m.index;
  newest = m.newest;
  ends = record { ip = m.end_ip; dp = m.end_dp };
  last_dp = m.last_dp;
  ip_on = m.ip_on;
  dp_done = m.dp_done;
  ip_done = m.ip_done;
}
