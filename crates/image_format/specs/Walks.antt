-- How the heads of a partition are read, one after the other.
use Rattle.std.specs.Prelude.{ℕ, ◌+◌, ◌-◌, ◌≡◌, ◌≤◌, min, nat_le, if◌then◌else◌, List, ◌++◌, length, take, drop}
use Rattle.std.specs.Prelude.{Option, Some, None, Result, Ok, Err}
use Rattle.std.specs.List.{flat_map}
use Rattle.tape_types.specs.Counts.{Rose}
use Rattle.tape_types.specs.declared.cartridges.Item.{Item}
use Rattle.byte_disk.specs.Files.{bytes_at}
use Rattle.image_format.specs.declared.heads.Head.{Head}
use Rattle.image_format.specs.declared.refusal.WalkErr.{WalkErr}
use Rattle.image_format.specs.declared.refusal.WalkErr.TheVariants as errors
use Rattle.image_format.specs.declared.values.Half.{Half}
use Rattle.image_format.specs.declared.window.Window.{Window}
use Rattle.image_format.specs.Offsets.{offsets_from}
use Rattle.image_format.specs.Records.{first_item, first_items, items_in, record_bytes, size_of, width}

-- A walk over the heads of a partition tells where its records begin, or the first record at fault. Where the disk failed
-- it tells nothing of them.
abbrev pub IsWalked : {T : Type 0} → Half → List ℕ → Result T WalkErr → List ℕ → Type 0
IsWalked h file (Ok _) offsets = (items : List Item) × (items_in h file ≡ Ok items) × (offsets ≡ offsets_from 0 items)
IsWalked h file (Err (errors.Record n)) offsets = items_in h file ≡ Err n
IsWalked h file (Err errors.Disk) offsets = Unit {0}

-- a fault of the disk is answered only where its count of faults rose
abbrev pub HasReason : ℕ → ℕ → WalkErr → Type 0
HasReason before now (errors.Record n) = Unit {0}
HasReason before now errors.Disk = Rose before now

-- how many bytes the record of a head has, where it ends within so many
abbrev pub width_within : ℕ → Option Head → Option ℕ
width_within left None = None
width_within left (Some head) = if nat_le (5 + size_of head) left then Some (5 + size_of head) else None

-- the bytes of a file from a place on, up to an end
abbrev pub rest_of : ℕ → ℕ → List ℕ → List ℕ
rest_of at end file = drop at (take end file)

abbrev pub width_of : Option Item → Option ℕ
width_of None = None
width_of (Some x) = Some (width x)

-- how many bytes the record has that stands there, where a whole one does
abbrev pub width_at : ℕ → ℕ → List ℕ → Option ℕ
width_at at end file = width_of (first_item (rest_of at end file))

-- a piece of 64 KiB, or what is left up to an end
pub record IsPiece (end : ℕ) (w : Window) : Type 0 where
  pub size : length w.bytes.items ≡ 65536
  pub from : w.from ≤ end
  pub filled : w.filled ≡ min 65536 (end - w.from)

-- its bytes are those of the file
abbrev pub Shows : List ℕ → Window → Type 0
Shows file w = take w.filled w.bytes.items ≡ bytes_at w.from w.filled file

-- a place with five bytes behind it lies in the piece
pub record HasHeadAt (at : ℕ) (w : Window) : Type 0 where
  pub low : w.from ≤ at
  pub high : at + 5 ≤ w.from + w.filled

abbrev pub in_front : List Item → Result (List Item) ℕ → Result (List Item) ℕ
in_front items (Ok more) = Ok (items ++ more)
in_front items (Err n) = Err n

-- a walk has come to a place, with so many whole records before it
pub record HasCome (count end : ℕ) (file : List ℕ) (n at : ℕ) (offsets : List ℕ) : Type 0 where
  pub items : List Item
  pub left : first_items count 0 (take end file) ≡ in_front items (first_items (count - n) n (rest_of at end file))
  pub kept : offsets ≡ offsets_from 0 items
  pub place : at ≡ length (flat_map record_bytes items)

-- A walk up to a place: the records in front of it, or the first one at fault.
abbrev pub HasWalked : ℕ → ℕ → List ℕ → Result ℕ WalkErr → List ℕ → Type 0
HasWalked count end file (Ok at) offsets = HasCome count end file count at offsets
HasWalked count end file (Err (errors.Record n)) offsets = first_items count 0 (take end file) ≡ Err n
HasWalked count end file (Err errors.Disk) offsets = Unit {0}
