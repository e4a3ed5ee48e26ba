-- What stands on both partitions once all ops that stand are done.
use Rattle.std.specs.Prelude.{◌≡◌, ◌<◌, ℕ, true, false, List, ◌++◌, length, map, take, slice_get, Some}
use Rattle.std.specs.List.{AllByRecursion, list_any}
use Rattle.tape_types.specs.declared.cartridges.Cartridge.{Cartridge}
use Rattle.tape_types.specs.declared.cartridges.Item.{Item}
use Rattle.tape_types.specs.declared.cartridges.Part.{Part}
use Rattle.tape_types.specs.declared.cartridges.Part.TheVariants.{Ip, Dp}
use Rattle.tape_types.specs.declared.cartridges.Place.{Place}
use Rattle.tape_types.specs.Cartridges.{items_of}
use Rattle.extent_map.specs.Cells.{Tape, byte_in}
use Rattle.extent_map.specs.declared.pieces.Piece.{Piece}
use Rattle.extent_map.specs.declared.pieces.Piece.TheVariants.{Zeros, Stored}
use Rattle.file_tree.specs.Blocks.{TreeStandsIn}
use Rattle.file_tree.specs.Tree.{FileTree}
use Rattle.head_queue.specs.EventLaws.Trail.{puts_at}
use Rattle.tape_layout.specs.declared.ops.Op.{Op}
use Rattle.tape_layout.specs.declared.standing.Ends.{Ends}
use Rattle.tape_layout.specs.Ops.{AreNext, end_of, held_in}
use Rattle.cartridge_meaning.specs.Meaning.{dp_end, ip_end}
use Rattle.promises.specs.CrashLaws.Safe.{items_by}
use Rattle.promises.specs.ServingPromise.Served.{headed}

-- the items of both partitions
abbrev pub Items : Type 0
Items = Part → List Item

-- what stands on tape
abbrev pub tape_on : Items → Tape
tape_on items part pos byte = byte_in (slice_get (items part) pos) byte

-- the ops do their items behind these
abbrev pub with_ops : List Op → Items → Items
with_ops ops items part = items part ++ items_by part ops

-- the position behind the last item of each partition
abbrev pub ends_in : Items → Ends
ends_in items = record { ip = length (items Ip); dp = length (items Dp) }

-- what a mount finds: both partitions up to their ends
abbrev pub mounted_items : Cartridge → Items
mounted_items c Ip = take (ip_end c) c.ip
mounted_items c Dp = take (dp_end c) c.dp

-- The ops that stand lead from what was made so far to what is planned, each at the end that its partition has by then.
pub record IsPlan (planned : Items) (ops : List Op) : Type 0 where
  pub made : Items
  pub leads : (part : Part) → planned part ≡ made part ++ items_by part ops
  pub next : AreNext (ends_in made) ops

-- The cartridge reads as what was made so far, whatever stands behind that.
pub record IsOnWay (planned : Items) (ops : List Op) (held : Cartridge) : Type 0 where
  pub plan : IsPlan planned ops
  pub reads : (part : Part) → take (length (plan.made part)) (items_of part held) ≡ plan.made part

-- an op puts a block or a mark at this place
abbrev pub IsPutBy : List Op → Place → Type 0
IsPutBy ops place = list_any (puts_at place) (map headed ops) ≡ true

-- what is planned at a place stands there already: it is before the end of its partition, and no op puts anything there
pub record IsDoneAt (planned : Items) (ops : List Op) (place : Place) : Type 0 where
  pub below : place.pos < end_of place.part (ends_in planned)
  pub free : list_any (puts_at place) (map headed ops) ≡ false

-- what a piece reads from tape stands before the ends
abbrev pub PieceLiesBelow : Ends → Piece → Type 0
PieceLiesBelow ends (Zeros count) = Unit {0}
PieceLiesBelow ends (Stored place byte count) = place.pos < end_of place.part ends

abbrev pub LieBelow : Ends → List Piece → Type 0
LieBelow ends pieces = AllByRecursion (PieceLiesBelow ends) pieces

-- where the ops put anything into a block of the tree, they hold the bytes of that block: no mark is put there
abbrev pub NoMarks : List Op → FileTree → Type 0
NoMarks ops tree = (part : Part) (pos : ℕ) → TreeStandsIn tree part pos
    → IsPutBy ops (record { part = part; pos = pos })
    → (bytes : List ℕ) × (held_in (record { part = part; pos = pos }) ops ≡ Some bytes)
