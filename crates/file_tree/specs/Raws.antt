-- How the extents that an index tells of a file come into it, one after the other.
use Rattle.std.specs.Prelude.{◌≡◌, ◌⊎◌, ⊤, ℕ, ◌+◌, ◌<◌, ◌≤◌, List, [], ◌∷◌, map}
use Rattle.std.specs.List.{AllByRecursion}
use Rattle.tape_types.specs.Bounds.{longest_file}
use Rattle.tape_types.specs.declared.cartridges.Extent.{Extent}
use Rattle.index_model.specs.declared.nodes.RawExtent.{RawExtent}
use Rattle.index_model.specs.Extents.{IsExtent}
use Rattle.index_model.specs.declared.nodes.NodeKind as told_kind
use Rattle.index_model.specs.declared.nodes.NodeKind.TheVariants as told_kinds
use Rattle.extent_map.specs.Laid.{Laid, Room, IsLaid, cut}
use Rattle.file_tree.specs.declared.nodes.HeldKind.{HeldKind}
use Rattle.file_tree.specs.declared.nodes.HeldKind.TheVariants as kinds
use Rattle.file_tree.specs.Valid.{IsFileOf}
use Rattle.file_tree.specs.Mounts.{Letters, extent_of, by_offset, IsOnVolume}

-- the extent can come into a file of a volume with blocks of this size
pub record IsRaw (letters : Letters) (size : ℕ) (raw : RawExtent) : Type 0 where
  pub bounds : IsExtent raw
  pub on_volume : IsOnVolume letters size raw

-- the bytes of both lie apart, where both have any
abbrev pub AreApart : RawExtent → RawExtent → Type 0
AreApart a b = 0 < a.count → 0 < b.count → (a.offset + a.count ≤ b.offset) ⊎ (b.offset + b.count ≤ a.offset)

abbrev pub AllApart : List RawExtent → Type 0
AllApart [] = ⊤
AllApart (raw ∷ raws) = AllByRecursion (AreApart raw) raws × AllApart raws

-- the extent of the file lies apart from what is to come
abbrev pub IsApartFrom : RawExtent → Extent → Type 0
IsApartFrom raw e = 0 < raw.count → (e.offset + e.count ≤ raw.offset) ⊎ (raw.offset + raw.count ≤ e.offset)

abbrev pub LieApart : List Extent → RawExtent → Type 0
LieApart es raw = AllByRecursion (IsApartFrom raw) es

-- the file has the extents of a front of what is told, and lies apart from the rest
pub record IsPlaced (letters : Letters) (size length : ℕ) (front rest : List RawExtent) (laid : Laid) : Type 0 where
  pub block_size : laid.block_size ≡ size
  pub short : laid.length ≤ length
  pub good : IsLaid laid
  pub extents : laid.extents ≡ by_offset (cut length (map (extent_of letters) front))
  pub apart : AllByRecursion (LieApart laid.extents) rest

-- all extents that are told of a file can come into it
pub record AreRaws (letters : Letters) (size length : ℕ) (raws : List RawExtent) : Type 0 where
  pub some_block : 1 ≤ size
  pub short : length ≤ longest_file
  pub each : AllByRecursion (IsRaw letters size) raws
  pub apart : AllApart raws

-- what is told of the node can be kept
pub record CanKeep (letters : Letters) (size : ℕ) (kind : told_kind.NodeKind) : Type 0 where
  pub some_block : 1 ≤ size
  pub raws : (bytes : ℕ) (raws : List RawExtent) → kind ≡ told_kinds.File bytes raws → AreRaws letters size bytes raws

-- a file lies as files of the volume do
abbrev pub LiesWell : ℕ → HeldKind → Type 0
LiesWell size kind = (room : Room) → kind ≡ kinds.File room → IsFileOf size room.laid
