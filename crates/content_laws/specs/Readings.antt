-- The form of a partition: (data* construct)* tail (LTFS 2.4 on partitions and index constructs).
use Rattle.std.specs.Prelude.{◌≡◌, ◌≢◌, ℕ, ◌+◌, List, [], ◌∷◌, ◌++◌, Option, Some, None, length, map, drop, reverse}
use Rattle.std.specs.Prelude.{slice_get}
use Rattle.std.specs.List.{AllByRecursion, flat_map}
use Rattle.tape_types.specs.declared.cartridges.Item.{Item}
use Rattle.tape_types.specs.declared.cartridges.Item.TheVariants.{Block, Mark, Torn}

-- an index on a partition: the position of the mark that opens it, and its blocks
pub record Construct : Type 0 where
  pub mark : ℕ
  pub blocks : List (List ℕ)

-- the position of its first block, and the one behind the mark that closes it
abbrev pub first_of : Construct → ℕ
first_of k = k.mark + 1

abbrev pub after_of : Construct → ℕ
after_of k = k.mark + length k.blocks + 2

-- all items before the first that is torn
abbrev pub front : List Item → List Item
front [] = []
front (Torn ∷ xs) = []
front (Mark ∷ xs) = Mark ∷ front xs
front (Block bytes ∷ xs) = Block bytes ∷ front xs

-- blocks of data, and the blocks of the index behind them
pub record Group : Type 0 where
  pub data_blocks : List (List ℕ)
  pub index_blocks : List (List ℕ)

-- as they stand on a partition: the blocks of data, a mark, the blocks of the index, a mark
abbrev pub items_of_group : Group → List Item
items_of_group g = map Block g.data_blocks ++ Mark ∷ (map Block g.index_blocks ++ Mark ∷ [])

-- What follows the last index, as it stands on a partition: blocks of data, and where an index was begun behind them, a
-- mark and the blocks of that.
abbrev pub items_of_tail : List (List ℕ) → Option (List (List ℕ)) → List Item
items_of_tail lead None = map Block lead
items_of_tail lead (Some begun) = map Block lead ++ Mark ∷ map Block begun

-- each of these indexes has a block
abbrev pub HaveBlocks : List Group → Type 0
HaveBlocks groups = AllByRecursion (λ g. g.index_blocks ≢ []) groups

-- items have the form of a partition behind its labels: groups, each with an index that has a block, and a tail
pub record Reading (items : List Item) : Type 0 where
  pub groups : List Group
  pub indexes : HaveBlocks groups
  pub lead : List (List ℕ)
  pub begun : Option (List (List ℕ))
  pub spelled : items ≡ flat_map items_of_group groups ++ items_of_tail lead begun

-- the indexes of groups that begin at a position
abbrev pub constructs_from : ℕ → List Group → List Construct
constructs_from at [] = []
constructs_from at (g ∷ gs) =
    record { mark = at + length g.data_blocks; blocks = g.index_blocks }
    ∷ constructs_from (at + length (items_of_group g)) gs

-- items have not that form, since at this position, counted from the first item's, a mark stands directly behind the
-- mark that opens an index
pub record IsEmptyAt (from : ℕ) (items : List Item) (at : ℕ) : Type 0 where
  pub groups : List Group
  pub indexes : HaveBlocks groups
  pub lead : List (List ℕ)
  pub behind : List Item
  pub spelled : items ≡ flat_map items_of_group groups ++ (map Block lead ++ Mark ∷ Mark ∷ behind)
  pub place : at ≡ from + length (flat_map items_of_group groups) + length lead + 1

-- what is read of a partition: all that stands behind its labels, up to the first item that is torn
abbrev pub readable : List Item → List Item
readable items = drop 4 (front items)

-- the partition has the form
abbrev pub HasForm : List Item → Type 0
HasForm items = Reading (readable items)

-- it hasn't, since the index that is opened directly before this position has no block
abbrev pub LacksForm : List Item → ℕ → Type 0
LacksForm items at = IsEmptyAt 4 (readable items) at

-- the indexes of a partition, the newest first
abbrev pub constructs_of : List Group → List Construct
constructs_of groups = reverse (constructs_from 4 groups)

-- these blocks stand one behind the other from a position on
abbrev pub StandAt : List Item → ℕ → List (List ℕ) → Type 0
StandAt items pos blocks =
    (i : ℕ) (b : List ℕ) → slice_get blocks i ≡ Some b → slice_get items (pos + i) ≡ Some (Block b)

-- an index stands there: the mark that opens it, its blocks, and the mark that closes it
pub record IsIndexAt (items : List Item) (mark : ℕ) (blocks : List (List ℕ)) : Type 0 where
  pub opens : slice_get items mark ≡ Some Mark
  pub stand : StandAt items (mark + 1) blocks
  pub closes : slice_get items (mark + 1 + length blocks) ≡ Some Mark
