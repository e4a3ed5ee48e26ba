-- The records of a partition's file, one after the other. A record is `B`, a length and so many bytes, or `M` or `T` and
-- four zero bytes.
use Rattle.std.specs.Prelude.{ℕ, zero, suc, ◌+◌, ◌≡◌, ◌≢◌, ◌≤◌, ◌<◌, ◌⊎◌, ◌==◌, nat_le, if◌then◌else◌, List, [], ◌∷◌, ◌++◌, take, drop}
use Rattle.std.specs.Prelude.{length, slice_index, slice_range, Option, Some, None, Result, Ok, Err}
use Rattle.std.specs.List.{All, flat_map}
use Rattle.std.specs.Int.{w32, from_be_bytes, to_be_bytes, is_in_range}
use Rattle.tape_types.specs.Cartridges.{IsItem}
use Rattle.tape_types.specs.declared.cartridges.Item.{Item}
use Rattle.tape_types.specs.declared.cartridges.Item.TheVariants as item
use Rattle.image_format.specs.declared.heads.Head.{Head}
use Rattle.image_format.specs.declared.heads.Head.TheVariants.{Block, Mark, Torn}
use Rattle.image_format.specs.declared.values.Half.{Half}

-- the bytes of an item
abbrev pub record_bytes : Item → List ℕ
record_bytes (item.Block bytes) = 66 ∷ to_be_bytes w32 (length bytes) ++ bytes
record_bytes item.Mark = 77 ∷ 0 ∷ 0 ∷ 0 ∷ 0 ∷ []
record_bytes item.Torn = 84 ∷ 0 ∷ 0 ∷ 0 ∷ 0 ∷ []

-- how many these are
abbrev pub width : Item → ℕ
width x = length (record_bytes x)

-- The items lie in the front of a file: their records, one after the other, are its bytes up to the end.
pub record AreRecords (h : Half) (file : List ℕ) (items : List Item) : Type 0 where
  pub count : length items ≡ h.count
  pub each : All IsItem items
  pub end : h.end ≤ length file
  pub bytes : take h.end file ≡ flat_map record_bytes items

-- no whole record stands in front of the bytes
abbrev pub HasNone : List ℕ → Type 0
HasNone bytes = (x : Item) (more : List ℕ) → IsItem x → bytes ≢ record_bytes x ++ more

-- The record of this number is at fault: those before it stand one after the other, and behind them no whole one stands;
-- or it is the count, and those before it don't fill what they are to fill.
pub record IsFaultAt (h : Half) (file : List ℕ) (n : ℕ) : Type 0 where
  pub items : List Item
  pub rest : List ℕ
  pub count : length items ≡ n
  pub each : All IsItem items
  pub front : take h.end file ≡ flat_map record_bytes items ++ rest
  pub fault : ((n < h.count) × HasNone rest) ⊎ ((n ≡ h.count) × (length (flat_map record_bytes items) ≢ h.end))

-- the bytes of a head
abbrev pub head_bytes : Head → List ℕ
head_bytes (Block size) = 66 ∷ to_be_bytes w32 size
head_bytes Mark = 77 ∷ 0 ∷ 0 ∷ 0 ∷ 0 ∷ []
head_bytes Torn = 84 ∷ 0 ∷ 0 ∷ 0 ∷ 0 ∷ []

-- a block has 1 to 1,048,576 bytes
abbrev pub IsHead : Head → Type 0
IsHead (Block size) = (1 ≤ size) × (size ≤ 1048576)
IsHead Mark = Unit {0}
IsHead Torn = Unit {0}

-- how many bytes follow a head
abbrev pub size_of : Head → ℕ
size_of (Block size) = size
size_of Mark = 0
size_of Torn = 0

-- the head of a record that begins with this byte and has this length
abbrev pub head_by : ℕ → ℕ → Option Head
head_by kind size =
    if kind == 66 then (if is_in_range 1 1048576 size then Some (Block size) else None)
    else if kind == 77 then (if size == 0 then Some Mark else None)
    else if kind == 84 then (if size == 0 then Some Torn else None)
    else None

-- what five bytes say
abbrev pub head_of : List ℕ → Option Head
head_of bytes =
    if length bytes == 5 then head_by (slice_index bytes 0) (from_be_bytes w32 (slice_range bytes 1 5)) else None

-- the item of a head and of what follows it
abbrev pub item_by : Option Head → List ℕ → Option Item
item_by None rest = None
item_by (Some (Block size)) rest = if nat_le size (length rest) then Some (item.Block (take size rest)) else None
item_by (Some Mark) rest = Some item.Mark
item_by (Some Torn) rest = Some item.Torn

-- the item whose record stands in front, where a whole one does
abbrev pub first_item : List ℕ → Option Item
first_item bytes = item_by (head_of (take 5 bytes)) (drop 5 bytes)

-- what stands behind it
abbrev pub behind : Option Item → List ℕ → List ℕ
behind None bytes = bytes
behind (Some x) bytes = drop (width x) bytes

-- an item before those that follow, or the fault: none stands there, or one that follows is at fault
abbrev pub followed : ℕ → Option Item → Result (List Item) ℕ → Result (List Item) ℕ
followed at None rest = Err at
followed at (Some x) (Ok items) = Ok (x ∷ items)
followed at (Some x) (Err n) = Err n

-- So many items in front of the bytes, or the number of the first one that is at fault. The first one has this number.
abbrev pub first_items : ℕ → ℕ → List ℕ → Result (List Item) ℕ
first_items zero at bytes = Ok []
first_items (suc n) at bytes =
    followed at (first_item bytes) (first_items n (at + 1) (behind (first_item bytes) bytes))

-- the items, where their records fill the bytes up to the end
abbrev pub filling : Half → Result (List Item) ℕ → Result (List Item) ℕ
filling h (Ok items) = if length (flat_map record_bytes items) == h.end then Ok items else Err h.count
filling h (Err n) = Err n

-- the items in the front of a file, or the number of the first record at fault
abbrev pub items_in : Half → List ℕ → Result (List Item) ℕ
items_in h file = filling h (first_items h.count 0 (take h.end file))
