-- What is found and changed at the place of a key, told of the map.
use Rattle.std.proofs.Common.{◌≡◌, ℕ, List, get_or, set, Some, None, ◌∙◌, refl}
use Rattle.std.specs.List.{insert, remove}
use Rattle.std.specs.FinMap as fin
use Rattle.tape_types.specs.declared.node_keys.xattrs.Xattr.{Xattr}
use Rattle.tape_types.specs.NodeKeys.Keys.{KeyMap, map_of, IsAscending}
use Rattle.tape_types.specs.NodeKeys.Places.{IsKeyAt, IsGapFor}
use Rattle.tape_types.proofs.NodeKeys.Ordered.{get_is, is_inserted, is_removed}
use Rattle.tape_types.proofs.NodeKeys.Cuts.{low_here, high_here, found_here, put_here, out_here, found_gap, put_gap, out_gap}

-- what a list in order is after a change, and that its map is this one
abbrev pub Becomes : List Xattr → KeyMap → Type 0
Becomes xs map = IsAscending xs × (map_of xs ≡ map)

module _ (xs : List Xattr) (up : IsAscending xs) (key : List ℕ) (at : ℕ) where
  module _ (here : IsKeyAt xs key at) where
    -- at the place of a key, the map's value is the one that stands there
    pub get_here : (d : Xattr) → fin.get (map_of xs) key ≡ Some (get_or xs at d).value
    get_here d = get_is xs key ∙ found_here key xs at d (low_here key xs at up here) here

    -- replacing the attribute at a key's place puts the new value in the map
    pub set_here : (y : Xattr) → y.key ≡ key → Becomes (set xs at y) (fin.insert (map_of xs) key y.value)
    set_here y is = is_inserted xs (set xs at y) key y.value up (put_here key y.value xs at y (low_here key xs at up here) here is refl)

    -- removing the attribute at a key's place removes the key from the map
    pub drop_here : Becomes (remove xs at) (fin.remove (map_of xs) key)
    drop_here = is_removed xs (remove xs at) key up (out_here key xs at (low_here key xs at up here) here (high_here key xs at up here))

  module _ (gap : IsGapFor xs key at) where
    -- where there is only a gap for a key, the map has no value of it
    pub get_gap : fin.get (map_of xs) key ≡ None
    get_gap = get_is xs key ∙ found_gap key xs at gap.in_range gap.below gap.above

    -- an attribute put in at the gap for its key is added to the map
    pub set_gap : (value : List ℕ) → Becomes (insert xs at (record { key = key; value = value })) (fin.insert (map_of xs) key value)
    set_gap value = is_inserted xs _ key value up (put_gap key value xs at (record { key = key; value = value }) gap.in_range gap.below gap.above refl refl)

    -- removing a key for which there is only a gap leaves the map as it is
    pub drop_gap : map_of xs ≡ fin.remove (map_of xs) key
    drop_gap = (is_removed xs xs key up (out_gap key xs at gap.in_range gap.below gap.above)).1
