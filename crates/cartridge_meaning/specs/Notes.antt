-- What the notes on the partitions of a cartridge say of it (LTFS 2.4 on volume coherency information).
use Rattle.std.specs.Prelude.{◌≡◌, ◌≤◌, Option, Some}
use Rattle.tape_types.specs.declared.cartridges.Cartridge.{Cartridge}
use Rattle.tape_types.specs.declared.cartridges.Part.{Part}
use Rattle.tape_types.specs.declared.cartridges.Part.TheVariants.{Ip, Dp}
use Rattle.tape_types.specs.Cartridges.{items_of, note_of}
use Rattle.coherency.specs.Notes.{HasValues, IsCurrent}
use Rattle.coherency.specs.declared.Coherency.{Coherency}
use Rattle.index_model.specs.declared.indexes.Index.{Index}
use Rattle.ltfs_label.specs.declared.Label.{Label}
use Rattle.content_laws.specs.Readings.{HasForm}
use Rattle.cartridge_meaning.specs.Labels.{HasLabels}
use Rattle.cartridge_meaning.specs.Pointers.{IsLastOnDp, IsLastOnIp, indexes_of, last_block}
use Rattle.cartridge_meaning.specs.declared.labels.Labels.{Labels}

-- both notes have the cartridge's volume change reference and the volume's UUID
pub record IsCoherent (c : Cartridge) : Type 0 where
  pub labels : Labels
  pub has : HasLabels c labels
  pub ip : IsCurrent c.note_ip c.vcr labels.ip.uuid
  pub dp : IsCurrent c.note_dp c.vcr labels.ip.uuid

-- what the last index of a partition reads as, with its pointers right
abbrev pub LastReads : Label → Part → Cartridge → Index → Type 0
LastReads label Dp c index = IsLastOnDp label (indexes_of c.dp) (Some index)
LastReads label Ip c index =
    (on_dp : Option Index) × IsLastOnDp label (indexes_of c.dp) on_dp
    × IsLastOnIp label (indexes_of c.ip) (indexes_of c.dp) on_dp (Some index)

-- a note has the generation of a partition's last index, and its first block
pub record TellsOfLast (c : Cartridge) (label : Label) (part : Part) (note : Coherency) : Type 0 where
  pub index : Index
  pub last : LastReads label part c index
  pub generation : note.generation ≡ index.generation
  pub block : last_block (indexes_of (items_of part c)) ≡ Some note.block

-- a note of this volume has a volume change reference of at most the cartridge's, and with just that one it tells of
-- its partition's last index
pub record IsHonestNote (c : Cartridge) (label : Label) (part : Part) : Type 0 where
  pub not_ahead : (note : Coherency) → HasValues (note_of part c) note → note.uuid ≡ label.uuid → note.vcr ≤ c.vcr
  pub truthful : (note : Coherency) → HasValues (note_of part c) note → note.uuid ≡ label.uuid → note.vcr ≡ c.vcr
      → HasForm (items_of part c) × TellsOfLast c label part note

pub record IsHonest (c : Cartridge) : Type 0 where
  pub labels : Labels
  pub has : HasLabels c labels
  pub ip : IsHonestNote c labels.ip Ip
  pub dp : IsHonestNote c labels.ip Dp

-- The notes are honest as far as the cartridge has labels. One without any is refused before the place that a note
-- names is gone to.
abbrev pub HasHonestNotes : Cartridge → Type 0
HasHonestNotes c =
    (labels : Labels) → HasLabels c labels → IsHonestNote c labels.ip Ip × IsHonestNote c labels.ip Dp

-- a partition's note has the cartridge's volume change reference and the volume's UUID, and tells of its last index
pub record IsNoted (c : Cartridge) (label : Label) (part : Part) : Type 0 where
  pub note : Coherency
  pub has : HasValues (note_of part c) note
  pub vcr : note.vcr ≡ c.vcr
  pub uuid : note.uuid ≡ label.uuid
  pub tells : TellsOfLast c label part note

-- the notes are coherent, with the places and generations of both last indexes
pub record AreNoted (c : Cartridge) (label : Label) : Type 0 where
  pub ip : IsNoted c label Ip
  pub dp : IsNoted c label Dp
