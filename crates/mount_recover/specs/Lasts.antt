-- What a mount finds of the indexes of a cartridge.
use Rattle.std.specs.Prelude.{ℕ, ◌+◌, ◌*◌, ◌≤◌, ◌<◌, ◌≡◌, ◌≢◌, ◌↔◌, ◌⊎◌, nat_lt, cond, true, List, [], ◌∷◌, ◌++◌}
use Rattle.std.specs.Prelude.{length, map, reverse, take}
use Rattle.std.specs.Prelude.{Option, Some, None, IfSome, Result, Ok, Err, slice_get}
use Rattle.std.specs.List.{AllByRecursion}
use Rattle.std.specs.Option.{option_map}
use Rattle.tape_types.specs.declared.cartridges.Cartridge.{Cartridge}
use Rattle.tape_types.specs.declared.cartridges.Item.{Item}
use Rattle.tape_types.specs.declared.cartridges.Limits.{Limits}
use Rattle.tape_types.specs.declared.cartridges.Note.{Note}
use Rattle.tape_types.specs.declared.cartridges.Part.{Part}
use Rattle.tape_types.specs.declared.cartridges.Part.TheVariants.{Ip, Dp}
use Rattle.tape_types.specs.declared.cartridges.Place.{Place}
use Rattle.tape_types.specs.Cartridges.{items_of}
use Rattle.coherency.specs.Notes.{HasValues}
use Rattle.coherency.specs.declared.Coherency.{Coherency}
use Rattle.index_model.specs.Grammar.{IndexText, Stops}
use Rattle.index_model.specs.Valid.{IsValid}
use Rattle.index_model.specs.declared.errors.IndexErr.{IndexErr}
use Rattle.index_model.specs.declared.errors.IndexErr.TheVariants as index_errors
use Rattle.index_model.specs.declared.indexes.Index.{Index}
use Rattle.index_model.specs.declared.indexes.Spot.{Spot}
use Rattle.index_model.specs.declared.nodes.Node.{Node}
use Rattle.index_model.specs.declared.nodes.RawExtent.{RawExtent}
use Rattle.ltfs_label.specs.declared.Label.{Label}
use Rattle.content_laws.specs.Readings.{HasForm, LacksForm, front}
use Rattle.content_laws.specs.Readings as readings
use Rattle.content_laws.specs.Content.{content}
use Rattle.content_laws.specs.Ends.{lead_of}
use Rattle.cartridge_meaning.specs.Labels.{HasLabels}
use Rattle.cartridge_meaning.specs.Meaning.{AreWithin, FitsNode, HasForms, dp_end, ip_end}
use Rattle.cartridge_meaning.specs.Mounts.{Mounts}
use Rattle.cartridge_meaning.specs.Pointers.{IsLastOnDp, IsLastOnIp, IsOfVolume, chosen, indexes_of, text_of}
use Rattle.cartridge_meaning.specs.declared.errors.MountErr.{MountErr}
use Rattle.cartridge_meaning.specs.declared.errors.MountErr.TheVariants as errors
use Rattle.cartridge_meaning.specs.declared.labels.Labels.{Labels}
use Rattle.volume_scan.specs.declared.content.Construct.{Construct}
use Rattle.volume_scan.specs.declared.content.Content.{Content}
use Rattle.volume_scan.specs.Scans.{AreBetween, IsContent, IsInPlaces, places_of}
use Rattle.mount_recover.specs.declared.scans.Scans.{Scans}
use Rattle.mount_recover.specs.declared.documents.Beside.{Beside}
use Rattle.mount_recover.specs.declared.lasts.LastIndex.{LastIndex}
use Rattle.mount_recover.specs.declared.lasts.Lasts.{Lasts}
use Rattle.mount_recover.specs.declared.lasts.Lasts.TheVariants as found
use Rattle.mount_recover.specs.declared.lasts.TwinIndex.{TwinIndex}
use Rattle.mount_recover.specs.declared.choices.Standing.{Standing}
use Rattle.mount_recover.specs.Labels.{IsSpelled}
use Rattle.mount_recover.specs.declared.choices.Choice.{Choice}
use Rattle.mount_recover.specs.declared.flags.Flags.{Flags}
use Rattle.mount_recover.specs.declared.mounting.Scanned.{Scanned}
use Rattle.cartridge_meaning.specs.declared.mounted.Mounted.{Mounted}

abbrev pub HasSomeLabels : Cartridge → Type 0
HasSomeLabels c = (labels : Labels) × HasLabels c labels

-- a partition lacks its form; a failed drive and refused memory tell nothing of it
abbrev pub LacksLayout : Part → MountErr → Cartridge → Type 0
LacksLayout part (errors.Layout place) c = (place.part ≡ part) × LacksForm (items_of part c) place.pos
LacksLayout part (errors.Drive counts) c = Unit {0}
LacksLayout part errors.NoMemory c = Unit {0}
LacksLayout part e c = ⊥

-- both partitions were scanned
pub record AreScanned (s : Scans) (c : Cartridge) : Type 0 where
  pub ip : IsContent c.ip s.ip
  pub dp : IsContent c.dp s.dp

abbrev pub AreInPlaces : Limits → Scans → Type 0
AreInPlaces limits s = IsInPlaces limits.cap_ip s.ip × IsInPlaces limits.cap_dp s.dp

-- where the first of these indexes stands, which is the newest
abbrev pub newest : List readings.Construct → Option Construct
newest [] = None
newest (k ∷ older) = Some (places_of k)

-- what a scan has told of a partition, whose indexes stand with the newest first
pub record IsSeen (items : List Item) (found : Content) : Type 0 where
  pub form : HasForm items
  pub long : 4 ≤ length (front items)
  pub constructs : found.constructs ≡ map places_of (reverse (indexes_of items))
  pub lead : found.lead ≡ lead_of (content items).pos (content items).phase
  pub front : found.front ≡ length (front items)

-- the labels of a cartridge, and what a scan has told of it
pub record IsScan (labels : Labels) (s : Scans) (c : Cartridge) : Type 0 where
  pub has : HasLabels c labels
  pub ip : IsSeen c.ip s.ip
  pub dp : IsSeen c.dp s.dp

-- an index stands behind the labels and within a capacity
pub record IsInPlace (capacity : ℕ) (k : Construct) : Type 0 where
  pub mark : 4 ≤ k.mark
  pub first : k.first ≡ k.mark + 1
  pub block : k.first + 2 ≤ k.after
  pub after : k.after ≤ capacity

-- the newest index of a partition stands there
pub record IsNewest (items : List Item) (place : Construct) : Type 0 where
  pub form : HasForm items
  pub long : 4 ≤ length (front items)
  pub stands : newest (indexes_of items) ≡ Some place

-- an index of a partition stands there
pub record HasIndexAt (items : List Item) (place : Construct) : Type 0 where
  pub form : HasForm items
  pub long : 4 ≤ length (front items)
  pub newer : List readings.Construct
  pub k : readings.Construct
  pub older : List readings.Construct
  pub parts : indexes_of items ≡ newer ++ k ∷ older
  pub place_is : places_of k ≡ place

-- what is true of each index of a partition that stands there
abbrev pub IsTrueAt : List Item → Construct → (readings.Construct → Type 0) → Type 0
IsTrueAt items place Says = (newer : List readings.Construct) (k : readings.Construct) (older : List readings.Construct)
    → indexes_of items ≡ newer ++ k ∷ older → places_of k ≡ place → Says k

-- a text is the document of the newest of these indexes, or index the one that it tells
abbrev pub IsDocument : List ℕ → List readings.Construct → Type 0
IsDocument text [] = ⊥
IsDocument text (k ∷ older) = text ≡ text_of k

-- a block was put behind what is read of a document, which stands in place of a text
pub record IsPut (read : Beside) (block before after : List ℕ) (next : Beside) : Type 0 where
  pub within : next.at ≤ length after
  pub bytes : take next.at after ≡ take read.at before ++ block
  pub same : next.same ≡ true → (read.same ≡ true) × (after ≡ before)

abbrev pub IsOfNewest : Label → Index → List readings.Construct → Type 0
IsOfNewest label index [] = ⊥
IsOfNewest label index (k ∷ older) = IsOfVolume label k index

-- a text is no index of the volume with this UUID, of which it stands at this place
abbrev pub IsBadText : List ℕ → ℕ → Place → MountErr → Type 0
IsBadText text uuid place (errors.BadIndex at e) = (at ≡ place) × Stops text e
IsBadText text uuid place (errors.WrongVolume at) =
    (at ≡ place) × ((index : Index) × IndexText text index × (index.uuid ≢ uuid))
IsBadText text uuid place errors.NoMemory = Unit {0}
IsBadText text uuid place e = ⊥

-- the same, where a failed drive tells nothing of it
abbrev pub IsNoText : List ℕ → ℕ → Place → MountErr → Type 0
IsNoText text uuid place (errors.Drive counts) = Unit {0}
IsNoText text uuid place e = IsBadText text uuid place e

-- so is the document of the newest of these indexes; a failed drive tells nothing of it
abbrev pub IsBadNewest : List readings.Construct → ℕ → Place → MountErr → Type 0
IsBadNewest ks uuid place (errors.Drive counts) = Unit {0}
IsBadNewest [] uuid place errors.NoMemory = Unit {0}
IsBadNewest [] uuid place e = ⊥
IsBadNewest (k ∷ older) uuid place e = IsBadText (text_of k) uuid place e

-- whether memory was refused to the reader of a document, and what is told then
abbrev pub told : Place → IndexErr → MountErr
told place index_errors.NoMemory = errors.NoMemory
told place e = errors.BadIndex place e

-- one of these indexes has its first block there
pub record HasFirst (places : List Construct) (block : ℕ) : Type 0 where
  pub at : ℕ
  pub place : Construct
  pub stands : slice_get places at ≡ Some place
  pub first : place.first ≡ block

-- the last index of a partition and those before it, as a scan tells them
pub record IsParted (ks : List readings.Construct) (place : Construct) (older : List Construct) : Type 0 where
  pub last : readings.Construct
  pub before : List readings.Construct
  pub parts : ks ≡ last ∷ before
  pub place_is : place ≡ places_of last
  pub older_are : older ≡ map places_of (reverse before)

-- what is known where the last index of the data partition is read
pub record IsKnownDp (labels : Labels) (place : Construct) (older : List Construct) (c : Cartridge) : Type 0 where
  pub forms : HasForms c labels
  pub newest : IsNewest c.dp place
  pub parted : IsParted (indexes_of c.dp) place older

-- the same of the index partition
pub record IsKnownIp (labels : Labels) (place : Construct) (dps : List Construct) (on_dp : Option Index) (c : Cartridge)
    : Type 0 where
  pub forms : HasForms c labels
  pub newest : IsNewest c.ip place
  pub dps_are : dps ≡ map places_of (reverse (indexes_of c.dp))
  pub dp_last : IsLastOnDp labels.ip (indexes_of c.dp) on_dp

-- an index with other pointers
abbrev pub pointed : Index → (here back : Spot) → Index
pointed index here back = record index { here = here; back = Some back }

-- an index with the pointers of another that is like it
abbrev pub twin_of : Index → TwinIndex → Index
twin_of index twin = pointed index twin.here twin.back

-- what an index points to that stands there on the index partition, where this is the last place on the data partition
pub record IsTwinAt (label : Label) (place dp : Construct) (twin : TwinIndex) : Type 0 where
  pub place_is : twin.place ≡ place
  pub here : twin.here ≡ record { letter = label.index; block = place.first }
  pub back : twin.back ≡ record { letter = label.dpart; block = dp.first }

-- the last index of each partition, and where it stands
abbrev pub ip_in : Lasts → Option LastIndex
ip_in found.None = None
ip_in (found.OnIp ip) = Some ip
ip_in (found.OnDp dp) = None
ip_in (found.OnBoth ip dp) = Some ip
ip_in (found.Alike ip dp) = Some (record { index = twin_of dp.index ip; place = ip.place })

abbrev pub dp_in : Lasts → Option LastIndex
dp_in found.None = None
dp_in (found.OnIp ip) = None
dp_in (found.OnDp dp) = Some dp
dp_in (found.OnBoth ip dp) = Some dp
dp_in (found.Alike ip dp) = Some dp

abbrev pub generation_in : Option Index → Option ℕ
generation_in None = None
generation_in (Some index) = Some index.generation

abbrev pub index_in : Option LastIndex → Option Index
index_in None = None
index_in (Some l) = Some l.index

abbrev pub place_in : Option LastIndex → Option Construct
place_in None = None
place_in (Some l) = Some l.place

-- an index is valid and of the volume of a label
pub record IsSound (label : Label) (index : Index) : Type 0 where
  pub valid : IsValid index
  pub uuid : index.uuid ≡ label.uuid

pub record IsSoundLast (label : Label) (capacity : ℕ) (last : LastIndex) : Type 0 where
  pub index : IsSound label last.index
  pub place : IsInPlace capacity last.place

-- the same of one that was read of a document
pub record IsSoundRead (label : Label) (capacity : ℕ) (document : List ℕ) (last : LastIndex) : Type 0 where
  pub sound : IsSoundLast label capacity last
  pub text : IndexText document last.index

-- the last index of the data partition, and where it stands
pub record IsLastDp (label : Label) (last : Option LastIndex) (c : Cartridge) : Type 0 where
  pub index : IsLastOnDp label (indexes_of c.dp) (index_in last)
  pub place : place_in last ≡ newest (indexes_of c.dp)

-- the same of the index partition
pub record IsLastIp (label : Label) (on_dp : Option Index) (last : Option LastIndex) (c : Cartridge) : Type 0 where
  pub index : IsLastOnIp label (indexes_of c.ip) (indexes_of c.dp) on_dp (index_in last)
  pub place : place_in last ≡ newest (indexes_of c.ip)

pub record AreLasts (label : Label) (lasts : Lasts) (c : Cartridge) : Type 0 where
  pub dp : IsLastDp label (dp_in lasts) c
  pub ip : IsLastIp label (index_in (dp_in lasts)) (ip_in lasts) c

pub record AreSoundLasts (label : Label) (limits : Limits) (lasts : Lasts) : Type 0 where
  pub dp : IfSome (dp_in lasts) (IsSoundLast label limits.cap_dp)
  pub ip : IfSome (ip_in lasts) (IsSoundLast label limits.cap_ip)

-- the last indexes, where that of the data partition is this one
pub record AreLastsWith (label : Label) (dp : Option LastIndex) (lasts : Lasts) (c : Cartridge) : Type 0 where
  pub dp_is : dp_in lasts ≡ dp
  pub ip : IsLastIp label (index_in dp) (ip_in lasts) c

pub record AreSoundWith (label : Label) (capacity : ℕ) (dp : Option LastIndex) (lasts : Lasts) : Type 0 where
  pub dp_is : dp_in lasts ≡ dp
  pub ip : IfSome (ip_in lasts) (IsSoundLast label capacity)

-- what is kept of the last index of a partition
abbrev pub standing_of : Option LastIndex → Option Standing
standing_of None = None
standing_of (Some l) =
    Some (record { place = l.place; generation = l.index.generation; back = l.index.back })

-- the partition of the chosen index, and the last index of a partition
abbrev pub side : Option Index → Option Index → Part
side None on_dp = Dp
side (Some on_ip) None = Ip
side (Some on_ip) (Some on_dp) = cond (nat_lt on_dp.generation on_ip.generation) Ip Dp

abbrev pub last_on : Part → (ip dp : Option LastIndex) → Option LastIndex
last_on Ip ip dp = ip
last_on Dp ip dp = dp

-- the index of the greater generation, that of the data partition on a tie
pub record IsPicked (ip dp : Option LastIndex) (last : LastIndex) (part : Part) : Type 0 where
  pub index : chosen (index_in ip) (index_in dp) ≡ Some last.index
  pub side_is : side (index_in ip) (index_in dp) ≡ part
  pub on : last_on part ip dp ≡ Some last

-- that index and what is kept of the last ones; or none, where there is no index
pub record IsChosen (lasts : Lasts) (choice : Choice) : Type 0 where
  pub last : LastIndex
  pub picked : IsPicked (ip_in lasts) (dp_in lasts) last choice.chosen.part
  pub index : choice.index ≡ last.index
  pub first : choice.chosen.pos ≡ last.place.first
  pub ip : choice.ip ≡ standing_of (ip_in lasts)
  pub dp : choice.dp ≡ standing_of (dp_in lasts)

abbrev pub HasNone : Lasts → Type 0
HasNone lasts = (ip_in lasts ≡ None) × (dp_in lasts ≡ None)

-- where the next item of a partition goes, by what is kept of its last index
abbrev pub dp_ends : Option Standing → ℕ
dp_ends None = 4
dp_ends (Some s) = s.place.after

abbrev pub IsIpEnd : Content → Option Standing → ℕ → Type 0
IsIpEnd found None end = end ≡ found.lead
IsIpEnd found (Some s) end =
    ((s.place.after ≡ found.front) × (end ≡ s.place.mark)) ⊎ ((s.place.after ≢ found.front) × (end ≡ found.lead))

-- the index was chosen of these, and its extents lie before the ends
pub record IsDecided (labels : Labels) (lasts : Lasts) (choice : Choice) (c : Cartridge) : Type 0 where
  pub forms : HasForms c labels
  pub lasts_are : AreLasts labels.ip lasts c
  pub choice_is : IsChosen lasts choice
  pub end_ip : choice.ends.ip ≡ ip_end c
  pub end_dp : choice.ends.dp ≡ dp_end c
  pub within : AreWithin labels.ip c choice.index.nodes

-- what holds of it whether or not the drive tells
pub record IsSoundChoice (label : Label) (limits : Limits) (choice : Choice) : Type 0 where
  pub index : IsSound label choice.index
  pub fits : AllByRecursion (FitsNode label choice.ends.ip choice.ends.dp) choice.index.nodes
  pub last_dp : IfSome choice.dp (λ s. s.place.first < choice.ends.dp)
  pub ip : (4 ≤ choice.ends.ip) × (choice.ends.ip ≤ limits.cap_ip)
  pub dp : (4 ≤ choice.ends.dp) × (choice.ends.dp ≤ limits.cap_dp)

-- a partition has a front of so many items, within which its last index ends
pub record IsFront (items : List Item) (count : ℕ) (last : Option Standing) : Type 0 where
  pub count_is : count ≡ length (front items)
  pub within : IfSome last (λ s. s.place.after ≤ count)

-- the items of a partition end with its last index
abbrev pub EndsAs : List Item → Option Standing → Type 0
EndsAs items None = ⊥
EndsAs items (Some s) = length items ≡ s.place.after

-- a note tells of the last index of its partition
pub record TellsStanding (note : Note) (vcr uuid : ℕ) (standing : Option Standing) : Type 0 where
  pub values : Coherency
  pub has : HasValues note values
  pub vcr_is : values.vcr ≡ vcr
  pub uuid_is : values.uuid ≡ uuid
  pub last : Standing
  pub is : standing ≡ Some last
  pub generation : values.generation ≡ last.generation
  pub block : last.place.first ≡ values.block

-- both notes do
pub record TellsBoth (c : Cartridge) (uuid : ℕ) (ip dp : Option Standing) : Type 0 where
  pub on_ip : TellsStanding c.note_ip c.vcr uuid ip
  pub on_dp : TellsStanding c.note_dp c.vcr uuid dp

-- an extent lies on the partition with this letter, from position 4 on, and ends at or before this end
pub record LiesOn (block letter end : ℕ) (e : RawExtent) : Type 0 where
  pub on : e.letter ≡ letter
  pub byte : e.byte < block
  pub low : 4 ≤ e.block
  pub high : e.block * block + e.byte + e.count ≤ end * block

-- the first node that has an extent outside
pub record IsFirstOutside (label : Label) (ip dp : ℕ) (nodes : List Node) (uid : ℕ) : Type 0 where
  pub before : List Node
  pub node : Node
  pub behind : List Node
  pub parts : nodes ≡ before ++ node ∷ behind
  pub within : AllByRecursion (FitsNode label ip dp) before
  pub outside : ¬ FitsNode label ip dp node
  pub told : uid ≡ node.uid

-- the last index of the index partition is of the chosen generation, and points back to that of the data partition
pub record Agrees (dpart : ℕ) (choice : Choice) : Type 0 where
  pub ip : Standing
  pub ip_is : choice.ip ≡ Some ip
  pub dp : Standing
  pub dp_is : choice.dp ≡ Some dp
  pub generation : ip.generation ≡ choice.index.generation
  pub back : ip.back ≡ Some (record { letter = dpart; block = dp.place.first })

-- what a choice and what was read beside it make of a mount
pub record IsMountedAs (label : Label) (choice : Choice) (flags : Flags) (m : Mounted) : Type 0 where
  pub label_is : m.label ≡ label
  pub index : m.index ≡ choice.index
  pub chosen : m.chosen ≡ choice.chosen
  pub newest : m.newest ≡ choice.index.generation
  pub end_ip : m.end_ip ≡ choice.ends.ip
  pub end_dp : m.end_dp ≡ choice.ends.dp
  pub last_dp : m.last_dp ≡ option_map (λ (s : Standing). s.place.first) choice.dp
  pub ip_on : (m.ip_on ≡ true) ↔ (choice.chosen.part ≡ Dp)
  pub dp_done : (m.dp_done ≡ true) ↔ ((choice.chosen.part ≡ Dp) × (flags.dp_ends ≡ true))
  pub ip_done : (m.ip_done ≡ true) ↔ ((flags.ip_ends ≡ true) × Agrees label.dpart choice)
  pub noted : m.noted ≡ flags.noted

-- What holds of a mount over every drive: the label is that of some text, and its letters differ; the index is valid,
-- of that volume, and names only blocks below the two ends, which lie within the capacities.
pub record IsSoundMount (limits : Limits) (m : Mounted) : Type 0 where
  pub spelled : IsSpelled m.label
  pub letters : m.label.index ≢ m.label.dpart
  pub valid : IsValid m.index
  pub uuid : m.index.uuid ≡ m.label.uuid
  pub newest : m.newest ≡ m.index.generation
  pub fits : AllByRecursion (FitsNode m.label m.end_ip m.end_dp) m.index.nodes
  pub last_dp : IfSome m.last_dp (λ pos. pos < m.end_dp)
  pub ip_end : (4 ≤ m.end_ip) × (m.end_ip ≤ limits.cap_ip)
  pub dp_end : (4 ≤ m.end_dp) × (m.end_dp ≤ limits.cap_dp)

-- What a mount by a scan tells of a cartridge: what it stands for, and where the indexes of its data partition stand,
-- the oldest first.
pub record IsScannedMount (s : Scanned) (c : Cartridge) : Type 0 where
  pub mounts : Mounts c s.mounted
  pub places_are : s.places ≡ map places_of (reverse (indexes_of c.dp))

-- what holds of it over every drive
pub record IsSoundScanned (limits : Limits) (s : Scanned) : Type 0 where
  pub mounted : IsSoundMount limits s.mounted
  pub places : AreBetween 4 limits.cap_dp s.places

-- it was mounted, or the drive failed or memory was refused
abbrev pub IsMounted : Result Mounted MountErr → Type 0
IsMounted (Ok m) = Unit {0}
IsMounted (Err (errors.Drive counts)) = Unit {0}
IsMounted (Err errors.NoMemory) = Unit {0}
IsMounted (Err e) = ⊥
