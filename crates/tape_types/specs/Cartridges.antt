-- Cartridges and their parts (LTFS 2.4 on partitions and on medium auxiliary memory).
use Rattle.std.specs.Prelude.{ℕ, ◌==◌, ◌+◌, ◌≤◌, ◌&&◌, Bool, true, false, List, length, All}
use Rattle.tape_types.specs.Bounds.{most_positions}
use Rattle.tape_types.specs.declared.cartridges.Part.{Part}
use Rattle.tape_types.specs.declared.cartridges.Part.TheVariants.{Ip, Dp}
use Rattle.tape_types.specs.declared.cartridges.Place.{Place}
use Rattle.tape_types.specs.declared.cartridges.Item.{Item}
use Rattle.tape_types.specs.declared.cartridges.Item.TheVariants.{Block, Mark, Torn}
use Rattle.tape_types.specs.declared.cartridges.Note.{Note}
use Rattle.tape_types.specs.declared.cartridges.Limits.{Limits}
use Rattle.tape_types.specs.declared.cartridges.Cartridge.{Cartridge}

-- the other partition
abbrev pub other : Part → Part
other Ip = Dp
other Dp = Ip

-- what stands in a partition, from its beginning on
abbrev pub items_of : Part → Cartridge → List Item
items_of Ip c = c.ip
items_of Dp c = c.dp

-- the coherency attribute of a partition
abbrev pub note_of : Part → Cartridge → Note
note_of Ip c = c.note_ip
note_of Dp c = c.note_dp

-- how many items a partition can hold
abbrev pub capacity : Part → Limits → ℕ
capacity Ip limits = limits.cap_ip
capacity Dp limits = limits.cap_dp

-- one position further
abbrev pub next : Place → Place
next at = record { part = at.part; pos = at.pos + 1 }

-- whether two partitions are one
abbrev pub same_part : Part → Part → Bool
same_part Ip Ip = true
same_part Ip Dp = false
same_part Dp Ip = false
same_part Dp Dp = true

-- whether two positions are one
abbrev pub same_place : Place → Place → Bool
same_place a b = same_part a.part b.part && a.pos == b.pos

-- a block has 1 to 1,048,576 bytes
abbrev pub IsItem : Item → Type 0
IsItem (Block bytes) = (1 ≤ length bytes) × (length bytes ≤ 1048576)
IsItem Mark = Unit {0}
IsItem Torn = Unit {0}

-- a partition holds no more items than it has positions, and each of them is of a rightful size
pub record HoldsAtMost (cap : ℕ) (items : List Item) : Type 0 where
  pub count : length items ≤ cap
  pub each : All IsItem items

-- both partitions keep to their capacities
pub record FitsLimits (limits : Limits) (c : Cartridge) : Type 0 where
  pub ip : HoldsAtMost limits.cap_ip c.ip
  pub dp : HoldsAtMost limits.cap_dp c.dp

-- a partition has 4 to 2^40 positions
pub record IsLimits (limits : Limits) : Type 0 where
  pub ip_least : 4 ≤ limits.cap_ip
  pub ip_most : limits.cap_ip ≤ most_positions
  pub dp_least : 4 ≤ limits.cap_dp
  pub dp_most : limits.cap_dp ≤ most_positions
