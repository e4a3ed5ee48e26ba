-- What one cartridge keeps of another.
use Rattle.std.specs.Prelude.{◌≡◌, ◌≤◌, take}
use Rattle.tape_types.specs.declared.cartridges.Cartridge.{Cartridge}
use Rattle.content_laws.specs.Readings.{HasForm}
use Rattle.cartridge_meaning.specs.Meaning.{dp_end, ip_end}
use Rattle.cartridge_meaning.specs.Pointers.{indexes_of}

-- it has the same labels, the same indexes, and the same items below the ends, which lie no earlier
pub record Keeps (c d : Cartridge) : Type 0 where
  pub ip_labels : take 4 c.ip ≡ take 4 d.ip
  pub dp_labels : take 4 c.dp ≡ take 4 d.dp
  pub ip_form : HasForm d.ip
  pub dp_form : HasForm d.dp
  pub ip_indexes : indexes_of c.ip ≡ indexes_of d.ip
  pub dp_indexes : indexes_of c.dp ≡ indexes_of d.dp
  pub ip_items : take (ip_end c) c.ip ≡ take (ip_end c) d.ip
  pub dp_items : take (dp_end c) c.dp ≡ take (dp_end c) d.dp
  pub ip_further : ip_end c ≤ ip_end d
