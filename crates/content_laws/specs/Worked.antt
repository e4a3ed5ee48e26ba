-- Partitions as a crash may leave them, on which the definitions are tried.
use Rattle.std.specs.Prelude.{ℕ, List, [], ◌∷◌, ◌++◌}
use Rattle.tape_types.specs.declared.cartridges.Item.{Item}
use Rattle.tape_types.specs.declared.cartridges.Item.TheVariants.{Block, Mark, Torn}
use Rattle.content_laws.specs.Readings.{Construct}

abbrev pub block : ℕ → Item
block n = Block (n ∷ [])

-- the records at the beginning of a partition
abbrev pub labels : List Item
labels = block 1 ∷ Mark ∷ block 2 ∷ Mark ∷ []

-- the partition of an empty volume: one index
abbrev pub empty_dp : List Item
empty_dp = labels ++ Mark ∷ block 3 ∷ Mark ∷ []

-- a block of data behind it, and a second index
abbrev pub synced_dp : List Item
synced_dp = empty_dp ++ block 4 ∷ Mark ∷ block 5 ∷ Mark ∷ []

-- the same, cut off in its last mark
abbrev pub torn_dp : List Item
torn_dp = empty_dp ++ block 4 ∷ Mark ∷ block 5 ∷ Torn ∷ []

-- a block of data that looks like an index, and an opening mark
abbrev pub half_dp : List Item
half_dp = empty_dp ++ block 4 ∷ Mark ∷ []

-- two opening marks
abbrev pub bad_dp : List Item
bad_dp = empty_dp ++ Mark ∷ Mark ∷ []

-- an index partition whose index was cut off for a block of data and a new index
abbrev pub torn_ip : List Item
torn_ip = labels ++ block 6 ∷ Mark ∷ Torn ∷ []

-- a mark behind what was cut off
abbrev pub behind_torn : List Item
behind_torn = torn_dp ++ Mark ∷ []

-- an index partition with a block of data behind its index
abbrev pub data_ip : List Item
data_ip = empty_dp ++ block 4 ∷ []

-- an index, and what a write that was cut off has left
abbrev pub torn_behind : List Item
torn_behind = empty_dp ++ Torn ∷ []

-- the index of an empty volume
abbrev pub first_index : Construct
first_index = record { mark = 4; blocks = (3 ∷ []) ∷ [] }

-- the second index, behind a block of data
abbrev pub second_index : Construct
second_index = record { mark = 8; blocks = (5 ∷ []) ∷ [] }
