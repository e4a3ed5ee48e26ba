-- Extents of a file of which one begins before an earlier one ends.
use Rattle.std.specs.Prelude.{◌≡◌, ◌⊎◌, ℕ, ◌+◌, ◌<◌, ◌≤◌, ◌^◌, List}
use Rattle.index_model.specs.declared.nodes.RawExtent.{RawExtent}
use Rattle.index_model.specs.Places.{IsAt}

-- the extent ends at or before 2^62
abbrev pub EndsInTime : RawExtent → Type 0
EndsInTime e = e.offset + e.count ≤ 2 ^ 62

-- The end after an extent: the old one where it has no bytes, else its own, and then it begins at or behind the old
-- one.
abbrev pub Follows : ℕ → RawExtent → ℕ → Type 0
Follows end e next = ((e.count ≡ 0) × (next ≡ end)) ⊎ ((0 < e.count) × (end ≤ e.offset) × (next ≡ e.offset + e.count))

-- some extent begins before an earlier one ends, and both have bytes
pub record IsCrossed (extents : List RawExtent) : Type 0 where
  pub earlier : ℕ
  pub later : ℕ
  pub two : earlier < later
  pub one : RawExtent
  pub is : IsAt extents earlier one
  pub one_some : 0 < one.count
  pub other : RawExtent
  pub other_is : IsAt extents later other
  pub other_some : 0 < other.count
  pub crossed : other.offset < one.offset + one.count
