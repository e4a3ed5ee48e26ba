-- What a crash may leave of the partitions, and which ops keep it so.
use Rattle.std.specs.Prelude.{ℕ, ◌≤◌, ◌<◌, ◌≡◌, ◌≢◌, ◌⊎◌, List, [], ◌∷◌, ◌++◌, length, take, Option, Some, None, IfSome}
use Rattle.std.specs.List.{AllByRecursion}
use Rattle.tape_types.specs.declared.cartridges.Cartridge.{Cartridge}
use Rattle.tape_types.specs.declared.cartridges.Item.{Item}
use Rattle.tape_types.specs.declared.cartridges.Part.{Part}
use Rattle.tape_types.specs.declared.cartridges.Part.TheVariants.{Ip, Dp}
use Rattle.tape_types.specs.Cartridges.{note_of}
use Rattle.coherency.specs.Notes.{HasValues}
use Rattle.coherency.specs.declared.Coherency.{Coherency}
use Rattle.index_model.specs.declared.indexes.Index.{Index}
use Rattle.content_laws.specs.Readings.{Construct, HasForm}
use Rattle.content_laws.specs.Content.{content}
use Rattle.content_laws.specs.Ends.{IsOneAtMost, end_dp, end_ip}
use Rattle.tape_layout.specs.declared.ops.Op.{Op}
use Rattle.tape_layout.specs.declared.ops.Op.TheVariants as ops
use Rattle.cartridge_meaning.specs.Carried.{carried}
use Rattle.cartridge_meaning.specs.Labels.{HasLabels}
use Rattle.cartridge_meaning.specs.Meaning.{FitsNode, IsTreeOf}
use Rattle.cartridge_meaning.specs.Notes.{IsHonestNote}
use Rattle.cartridge_meaning.specs.Pointers.{IsLastOnDp, IsLastOnIp, indexes_of}
use Rattle.promises.specs.ImageLaws.Made.{Base, CoveredIndex, Job, Made, Trees, Volume, least, makes, newest, newest_entry}
use Rattle.promises.specs.ImageLaws.Made.{part_items}

-- An index tells the tree of the placements that it covers, with the bytes that stand on this cartridge; it names
-- only blocks before these ends; and it carries over what the volume does.
pub record Tells (v : Volume) (t : Trees) (c : Cartridge) (ip dp : ℕ) (e : CoveredIndex) : Type 0 where
  pub facts : v.facts ≡ carried e.index
  pub within : AllByRecursion (FitsNode v.labels.ip ip dp) e.index.nodes
  pub covered : e.place ≤ t.count
  pub tree : IsTreeOf v.labels.ip c e.index (t.nth e.place)

-- The newest index of a data partition is the one that stood there at the last flush, or it is newer than all that
-- stood then, covers no fewer placements, and tells their tree, of blocks that were flushed on the index partition.
abbrev pub Counts : Volume → Trees → Cartridge → Base → (end : ℕ) → (more : List Construct) → CoveredIndex → Type 0
Counts v t plan b end more last =
    ((more ≡ []) × (last ≡ b.floor))
    ⊎ ((newest b < last.index.generation) × (least b ≤ last.place) × Tells v t plan b.sure end last)

-- A data partition as a crash may leave it: with the labels, in form, with all indexes that were flushed, and with
-- the items that are planned up to the end of its newest index.
pub record IsDpImage (v : Volume) (t : Trees) (plan : Cartridge) (b : Base) (dp : List Item)
    (last : CoveredIndex) : Type 0 where
  pub labels : take 4 dp ≡ take 4 plan.dp
  pub form : HasForm dp
  pub more : List Construct
  pub split : indexes_of dp ≡ more ++ b.indexes
  pub reads : IsLastOnDp v.labels.ip (indexes_of dp) (Some last.index)
  pub agrees : take (end_dp (indexes_of dp)) dp ≡ take (end_dp (indexes_of dp)) plan.dp
  pub counts : Counts v t plan b (end_dp (indexes_of dp)) more last

-- the index of the index partition is the one that is ahead, or it isn't newer than what was flushed of the data
-- partition
abbrev pub IsBehind : CoveredIndex → Option CoveredIndex → Option Index → Type 0
IsBehind floor None on_ip = IfSome on_ip (λ index. index.generation ≤ floor.index.generation)
IsBehind floor (Some ahead) on_ip = (on_ip ≡ Some ahead.index) × (floor.index.generation < ahead.index.generation)

-- An index partition as a crash may leave it: in form, with one index at most, with which its front ends, and with
-- what was flushed of its data.
pub record IsIpImage (v : Volume) (plan : Cartridge) (b : Base) (ip : List Item) : Type 0 where
  pub form : HasForm ip
  pub one : IsOneAtMost ip (indexes_of ip)
  pub on_ip : Option Index
  pub reads : IsLastOnIp v.labels.ip (indexes_of ip) b.indexes (Some b.floor.index) on_ip
  pub behind : IsBehind b.floor b.ahead on_ip
  pub agrees : take b.sure ip ≡ take b.sure plan.ip
  pub further : b.sure ≤ end_ip (content ip)

-- both notes say nothing false of a cartridge
pub record AreHonest (v : Volume) (c : Cartridge) : Type 0 where
  pub ip : IsHonestNote c v.labels.ip Ip
  pub dp : IsHonestNote c v.labels.ip Dp

-- the notes of this volume know no greater volume change reference
abbrev pub AreUpTo : Volume → ℕ → Cartridge → Type 0
AreUpTo v vcr c = (part : Part) (note : Coherency) → HasValues (note_of part c) note → note.uuid ≡ v.labels.ip.uuid
    → note.vcr ≤ vcr

-- a cartridge as a crash may leave it
pub record IsImage (v : Volume) (t : Trees) (plan : Cartridge) (b : Base) (c : Cartridge) : Type 0 where
  pub ip : IsIpImage v plan b c.ip
  pub last : CoveredIndex
  pub dp : IsDpImage v t plan b c.dp last
  pub honest : AreHonest v c

-- What is flushed has labels and an index of the data partition, and the newer of both indexes tells its tree; all of
-- it is planned.
pub record IsGrounded (v : Volume) (t : Trees) (plan : Cartridge) (b : Base) : Type 0 where
  pub labels : HasLabels plan v.labels
  pub some : b.indexes ≢ []
  pub floor_reads : IsLastOnDp v.labels.ip b.indexes (Some b.floor.index)
  pub tells : Tells v t plan b.sure (end_dp b.indexes) (newest_entry b)
  pub low : 4 ≤ b.sure
  pub on_ip : b.sure ≤ length plan.ip
  pub on_dp : end_dp b.indexes ≤ length plan.dp

-- what was made may be left by a crash; the index partition only where no index on it is ahead
pub record IsSound (v : Volume) (t : Trees) (plan : Cartridge) (s : Made) : Type 0 where
  pub grounded : IsGrounded v t plan s.base
  pub dp : IsDpImage v t plan s.base s.dp s.last
  pub ip : s.base.ahead ≡ None → IsIpImage v plan s.base s.ip

-- an item goes to the end of its partition; to the index partition only where no index on it is ahead
abbrev pub MayWrite : Part → Base → Type 0
MayWrite Ip b = b.ahead ≡ None
MayWrite Dp b = Unit {0}

abbrev pub IsNext : Op → Made → Type 0
IsNext (ops.Put place bytes) s = (place.pos ≡ length (part_items place.part s)) × MayWrite place.part s.base
IsNext (ops.Mark place) s = (place.pos ≡ length (part_items place.part s)) × MayWrite place.part s.base
IsNext (ops.Flush place) s = Unit {0}

-- jobs may be done one after the other, and a crash within each of them leaves what is sound
abbrev pub AreSafe : Volume → Trees → Cartridge → Made → List Job → Type 0
AreSafe v t plan s [] = Unit {0}
AreSafe v t plan s (job ∷ jobs) = IsNext job.op s × IsSound v t plan (makes job s) × AreSafe v t plan (makes job s) jobs
