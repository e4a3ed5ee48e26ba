-- The indexes of a volume and where they point to (LTFS 2.4 on index constructs and on back pointers).
use Rattle.std.specs.Prelude.{ℕ, ◌≡◌, ◌⊎◌, ◌≤◌, ◌<◌, nat_lt, cond, List, [], ◌∷◌, Option, Some, None}
use Rattle.std.specs.List.{concat}
use Rattle.tape_types.specs.declared.cartridges.Item.{Item}
use Rattle.tape_types.specs.declared.cartridges.Part.{Part}
use Rattle.tape_types.specs.declared.cartridges.Part.TheVariants.{Ip, Dp}
use Rattle.index_model.specs.Grammar.{IndexText}
use Rattle.index_model.specs.declared.indexes.Index.{Index}
use Rattle.index_model.specs.declared.indexes.Spot.{Spot}
use Rattle.ltfs_label.specs.declared.Label.{Label}
use Rattle.content_laws.specs.Readings.{Construct, first_of}
use Rattle.content_laws.specs.Content.{content}

-- the indexes of a partition, the newest first
abbrev pub indexes_of : List Item → List Construct
indexes_of items = (content items).constructs

-- the blocks of an index joined
abbrev pub text_of : Construct → List ℕ
text_of k = concat k.blocks

abbrev pub letter_of : Label → Part → ℕ
letter_of label Ip = label.index
letter_of label Dp = label.dpart

-- where the first block of an index stands, as a pointer names it
abbrev pub spot_of : Label → Part → Construct → Spot
spot_of label part k = record { letter = letter_of label part; block = first_of k }

-- the first block of the newest of these indexes, where there is one
abbrev pub last_block : List Construct → Option ℕ
last_block [] = None
last_block (k ∷ older) = Some (first_of k)

-- the pointer to the newest of these indexes of the data partition, where there is one
abbrev pub newest_spot : Label → List Construct → Option Spot
newest_spot label [] = None
newest_spot label (k ∷ older) = Some (spot_of label Dp k)

-- a pointer names one of these
abbrev pub NamesOneOf : Label → Option Spot → List Construct → Type 0
NamesOneOf label back [] = ⊥
NamesOneOf label back (k ∷ older) = (back ≡ Some (spot_of label Dp k)) ⊎ NamesOneOf label back older

-- its joined blocks are the text of this index, which is of the volume with this label
pub record IsOfVolume (label : Label) (k : Construct) (index : Index) : Type 0 where
  pub text : IndexText (text_of k) index
  pub uuid : index.uuid ≡ label.uuid

-- an index of the data partition points to itself, and back to the one before it there
pub record PointsOnDp (label : Label) (k : Construct) (older : List Construct) (index : Index) : Type 0 where
  pub here : index.here ≡ spot_of label Dp k
  pub back : index.back ≡ newest_spot label older

-- Where an index of the index partition points back to: to the data partition's last index where it isn't older than
-- that, and else to some index there; to none where there is none.
abbrev pub PointsBack : Label → Index → List Construct → Option Index → Type 0
PointsBack label index dps None = index.back ≡ None
PointsBack label index dps (Some on_dp) =
    ((on_dp.generation ≤ index.generation) × (index.back ≡ newest_spot label dps))
    ⊎ ((index.generation < on_dp.generation) × NamesOneOf label index.back dps)

-- an index of the index partition points to itself, and back to the data partition
pub record PointsOnIp (label : Label) (k : Construct) (dps : List Construct) (on_dp : Option Index) (index : Index)
    : Type 0 where
  pub here : index.here ≡ spot_of label Ip k
  pub back : PointsBack label index dps on_dp

-- what the last index of the data partition reads as, where there is one, with its pointers right
abbrev pub IsLastOnDp : Label → List Construct → Option Index → Type 0
IsLastOnDp label [] last = last ≡ None
IsLastOnDp label (k ∷ older) last =
    (index : Index) × (last ≡ Some index) × IsOfVolume label k index × PointsOnDp label k older index

-- the same of the index partition
abbrev pub IsLastOnIp : Label → (ips dps : List Construct) → Option Index → Option Index → Type 0
IsLastOnIp label [] dps on_dp last = last ≡ None
IsLastOnIp label (k ∷ older) dps on_dp last =
    (index : Index) × (last ≡ Some index) × IsOfVolume label k index × PointsOnIp label k dps on_dp index

-- the index with the greater generation, and that of the data partition on a tie
abbrev pub chosen : Option Index → Option Index → Option Index
chosen None on_dp = on_dp
chosen (Some on_ip) None = Some on_ip
chosen (Some on_ip) (Some on_dp) = Some (cond (nat_lt on_dp.generation on_ip.generation) on_ip on_dp)
