-- What is found of a cartridge that is mounted: the ends of its partitions, and what a close has to do.
use Rattle.std.specs.Prelude.{◌≡◌, ◌≢◌, ◌≤◌, ◌<◌, ◌↔◌, true, nat_lt, cond, [], Option, Some, None, IfSome}
use Rattle.std.specs.List.{AllByRecursion}
use Rattle.std.specs.Option.{option_map}
use Rattle.tape_types.specs.declared.cartridges.Cartridge.{Cartridge}
use Rattle.tape_types.specs.declared.cartridges.Limits.{Limits}
use Rattle.tape_types.specs.declared.cartridges.Part.{Part}
use Rattle.tape_types.specs.declared.cartridges.Part.TheVariants.{Ip, Dp}
use Rattle.tape_types.specs.declared.cartridges.Place.{Place}
use Rattle.tape_types.specs.Cartridges.{items_of}
use Rattle.index_model.specs.Texts.{IsLetter}
use Rattle.index_model.specs.Valid.{IsValid}
use Rattle.index_model.specs.declared.indexes.Index.{Index}
use Rattle.content_laws.specs.Ends.{EndsWithLast}
use Rattle.cartridge_meaning.specs.Meaning.{FitsNode, Found, dp_end, ip_end}
use Rattle.cartridge_meaning.specs.Notes.{AreNoted}
use Rattle.cartridge_meaning.specs.Pointers.{indexes_of, last_block, newest_spot}
use Rattle.cartridge_meaning.specs.declared.mounted.Mounted.{Mounted}

-- where the last index of a partition has its first block
abbrev pub last_place : Part → Cartridge → Option Place
last_place part c = option_map (λ pos. record { part = part; pos = pos }) (last_block (indexes_of (items_of part c)))

-- where the chosen index stands: on the index partition where its index has the greater generation, or there is no
-- other
abbrev pub chosen_place : (on_ip on_dp : Option Index) → Cartridge → Option Place
chosen_place None on_dp c = last_place Dp c
chosen_place (Some on_ip) None c = last_place Ip c
chosen_place (Some on_ip) (Some on_dp) c =
    cond (nat_lt on_dp.generation on_ip.generation) (last_place Ip c) (last_place Dp c)

-- the data partition ends with its last index, which is the chosen one
pub record IsDpDone (c : Cartridge) (f : Found c) : Type 0 where
  pub ends : EndsWithLast c.dp (indexes_of c.dp)
  pub choice : chosen_place f.on_ip f.on_dp c ≡ last_place Dp c

-- the index partition ends with its last index, which has the chosen generation and points back to the data partition's
-- last
pub record IsIpDone (c : Cartridge) (f : Found c) : Type 0 where
  pub ends : EndsWithLast c.ip (indexes_of c.ip)
  pub on_ip : Index
  pub last : f.on_ip ≡ Some on_ip
  pub generation : on_ip.generation ≡ f.index.generation
  pub back : on_ip.back ≡ newest_spot f.labels.ip (indexes_of c.dp)
  pub has_dp : indexes_of c.dp ≢ []

-- this is found of the cartridge
pub record Mounts (c : Cartridge) (m : Mounted) : Type 0 where
  pub found : Found c
  pub label : m.label ≡ found.labels.ip
  pub index : m.index ≡ found.index
  pub chosen : Some m.chosen ≡ chosen_place found.on_ip found.on_dp c
  pub newest : m.newest ≡ found.index.generation
  pub ip_end : m.end_ip ≡ ip_end c
  pub dp_end : m.end_dp ≡ dp_end c
  pub last_dp : m.last_dp ≡ last_block (indexes_of c.dp)
  pub ip_on : (m.ip_on ≡ true) ↔ ((indexes_of c.dp ≢ []) × (chosen_place found.on_ip found.on_dp c ≡ last_place Dp c))
  pub dp_done : (m.dp_done ≡ true) ↔ IsDpDone c found
  pub ip_done : (m.ip_done ≡ true) ↔ IsIpDone c found
  pub noted : (m.noted ≡ true) ↔ AreNoted c found.labels.ip

-- What holds of a mount over every drive: the label is in its ranges, and the index is valid, of that volume, and names
-- only blocks below the two ends, which lie within the capacities.
pub record IsMount (limits : Limits) (m : Mounted) : Type 0 where
  pub blocks : (4096 ≤ m.label.block) × (m.label.block ≤ 1048576)
  pub letters : IsLetter m.label.index × IsLetter m.label.dpart × (m.label.index ≢ m.label.dpart)
  pub valid : IsValid m.index
  pub uuid : m.index.uuid ≡ m.label.uuid
  pub newest : m.newest ≡ m.index.generation
  pub fits : AllByRecursion (FitsNode m.label m.end_ip m.end_dp) m.index.nodes
  pub last_dp : IfSome m.last_dp (λ pos. pos < m.end_dp)
  pub ip_end : (4 ≤ m.end_ip) × (m.end_ip ≤ limits.cap_ip)
  pub dp_end : (4 ≤ m.end_dp) × (m.end_dp ≤ limits.cap_dp)
