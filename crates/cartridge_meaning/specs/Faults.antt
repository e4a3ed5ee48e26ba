-- Why a cartridge doesn't mount: the first check that fails (LTFS 2.4 on mounting).
use Rattle.std.specs.Prelude.{ℕ, ◌≡◌, ◌≢◌, List, [], ◌∷◌, ◌++◌, Option, Some}
use Rattle.std.specs.List.{AllByRecursion}
use Rattle.tape_types.specs.declared.cartridges.Cartridge.{Cartridge}
use Rattle.tape_types.specs.declared.cartridges.Part.{Part}
use Rattle.tape_types.specs.declared.cartridges.Part.TheVariants.{Ip, Dp}
use Rattle.tape_types.specs.declared.cartridges.Place.{Place}
use Rattle.tape_types.specs.Cartridges.{items_of}
use Rattle.index_model.specs.Grammar.{IndexText, Stops}
use Rattle.index_model.specs.declared.errors.IndexErr.{IndexErr}
use Rattle.index_model.specs.declared.indexes.Index.{Index}
use Rattle.index_model.specs.declared.nodes.Node.{Node}
use Rattle.ltfs_label.specs.Values.{LabelValue}
use Rattle.content_laws.specs.Readings.{Construct, HasForm, LacksForm, first_of}
use Rattle.cartridge_meaning.specs.Labels.{AreOfOneVolume, HasLabel, HasLabels, HasSomeLabel, HasSomeRecord}
use Rattle.cartridge_meaning.specs.Meaning.{FitsNode, HasForms, dp_end, ip_end}
use Rattle.cartridge_meaning.specs.Pointers.{IsLastOnDp, IsLastOnIp, IsOfVolume, PointsOnDp, PointsOnIp, chosen, indexes_of}
use Rattle.cartridge_meaning.specs.Pointers.{text_of}
use Rattle.cartridge_meaning.specs.declared.errors.MountErr.{MountErr}
use Rattle.cartridge_meaning.specs.declared.errors.MountErr.TheVariants as errors
use Rattle.cartridge_meaning.specs.declared.labels.Labels.{Labels}

-- the first three checks: the records, of the index partition first; then the labels; then whether they are of one
-- volume
pub record HasRecords (c : Cartridge) : Type 0 where
  pub ip : HasSomeRecord c.ip
  pub dp : HasSomeRecord c.dp

abbrev pub LacksRecord : Part → Cartridge → Type 0
LacksRecord Ip c = ¬ HasSomeRecord c.ip
LacksRecord Dp c = HasSomeRecord c.ip × ¬ HasSomeRecord c.dp

abbrev pub LacksLabel : Part → Cartridge → Type 0
LacksLabel Ip c = HasRecords c × ¬ HasSomeLabel c.ip
LacksLabel Dp c = HasRecords c × HasSomeLabel c.ip × ¬ HasSomeLabel c.dp

pub record HasUnlikeLabels (c : Cartridge) : Type 0 where
  pub records : HasRecords c
  pub ip : LabelValue
  pub ip_is : HasLabel c.ip ip
  pub dp : LabelValue
  pub dp_is : HasLabel c.dp dp
  pub differ : ¬ AreOfOneVolume ip dp

-- the fourth: each partition has the form, the index partition first
abbrev pub LacksFormOn : Part → Cartridge → ℕ → Type 0
LacksFormOn Ip c at = LacksForm c.ip at
LacksFormOn Dp c at = HasForm c.ip × LacksForm c.dp at

pub record HasBadLayout (c : Cartridge) (place : Place) : Type 0 where
  pub labels : Labels
  pub has : HasLabels c labels
  pub lacks : LacksFormOn place.part c place.pos

-- the fifth: there is an index
pub record HasNoIndex (c : Cartridge) : Type 0 where
  pub labels : Labels
  pub forms : HasForms c labels
  pub ip : indexes_of c.ip ≡ []
  pub dp : indexes_of c.dp ≡ []

-- The sixth: the last index of the data partition, and then that of the index partition. What is said of the last index
-- of a partition, with its first block at this place, where all checks before it hold.
pub record ComesTo (c : Cartridge) (place : Place) (Says : Labels → Construct → List Construct → Option Index → Type 0)
    : Type 0 where
  pub labels : Labels
  pub forms : HasForms c labels
  pub on_dp : Option Index
  pub dp_before : (place.part ≡ Ip) → IsLastOnDp labels.ip (indexes_of c.dp) on_dp
  pub last : Construct
  pub older : List Construct
  pub stands : indexes_of (items_of place.part c) ≡ last ∷ older
  pub first : place.pos ≡ first_of last
  pub says : Says labels last older on_dp

-- its pointers are right
abbrev pub Points : Cartridge → Labels → Part → Construct → List Construct → Option Index → Index → Type 0
Points c labels Dp k older on_dp index = PointsOnDp labels.ip k older index
Points c labels Ip k older on_dp index = PointsOnIp labels.ip k (indexes_of c.dp) on_dp index

-- it is no index, for this reason
abbrev pub HasBadIndex : Cartridge → Place → IndexErr → Type 0
HasBadIndex c place e = ComesTo c place (λ labels k older on_dp. Stops (text_of k) e)

-- it is that of another volume
abbrev pub HasOtherVolume : Cartridge → Place → Type 0
HasOtherVolume c place = ComesTo c place (λ labels k older on_dp.
    (index : Index) × IndexText (text_of k) index × (index.uuid ≢ labels.ip.uuid))

-- a pointer of it is wrong
abbrev pub HasWrongPointer : Cartridge → Place → Type 0
HasWrongPointer c place = ComesTo c place (λ labels k older on_dp.
    (index : Index) × IsOfVolume labels.ip k index × ¬ Points c labels place.part k older on_dp index)

-- The seventh: the extents of the chosen index lie before the ends. The node with this UID is the first that has one
-- which doesn't.
pub record HasBadExtent (c : Cartridge) (uid : ℕ) : Type 0 where
  pub labels : Labels
  pub forms : HasForms c labels
  pub on_dp : Option Index
  pub dp_last : IsLastOnDp labels.ip (indexes_of c.dp) on_dp
  pub on_ip : Option Index
  pub ip_last : IsLastOnIp labels.ip (indexes_of c.ip) (indexes_of c.dp) on_dp on_ip
  pub index : Index
  pub choice : chosen on_ip on_dp ≡ Some index
  pub before : List Node
  pub node : Node
  pub behind : List Node
  pub nodes : index.nodes ≡ before ++ node ∷ behind
  pub within : AllByRecursion (FitsNode labels.ip (ip_end c) (dp_end c)) before
  pub outside : ¬ FitsNode labels.ip (ip_end c) (dp_end c) node
  pub told : uid ≡ node.uid

-- the check of a cartridge that fails first; a failed drive and want of memory are no fault of a cartridge
abbrev pub MountFault : Cartridge → MountErr → Type 0
MountFault c (errors.Vol1 part) = LacksRecord part c
MountFault c (errors.Label part) = LacksLabel part c
MountFault c errors.LabelsDiffer = HasUnlikeLabels c
MountFault c (errors.Layout place) = HasBadLayout c place
MountFault c errors.NoIndex = HasNoIndex c
MountFault c (errors.BadIndex place e) = HasBadIndex c place e
MountFault c (errors.WrongVolume place) = HasOtherVolume c place
MountFault c (errors.WrongPointer place) = HasWrongPointer c place
MountFault c (errors.BadExtent uid) = HasBadExtent c uid
MountFault c (errors.Drive counts) = ⊥
MountFault c errors.NoMemory = ⊥
