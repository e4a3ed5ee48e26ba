-- The one text of a label that is written.
use Rattle.std.specs.Prelude.{◌≡◌, ◌≤◌, Bool, true, nat_le, ◌&&◌, ℕ, List, [], ◌∷◌, ◌++◌, codes}
use Rattle.std.specs.Fmt.{decimal}
use Rattle.std.specs.List.{list_all}
use Rattle.std.specs.Str.{chars}
use Rattle.tape_types.specs.Times.{civil_text}
use Rattle.tape_types.specs.Uuids.{uuid_text}
use Rattle.ltfs_documents.specs.declared.doc_fields.tags.Tag.{Tag}
use Rattle.ltfs_documents.specs.declared.doc_fields.tags.Tag.TheVariants.{LtfsLabel, Creator, FormatTime, VolumeUuid, Location}
use Rattle.ltfs_documents.specs.declared.doc_fields.tags.Tag.TheVariants.{Partition, Partitions, IndexLetter, DataLetter, BlockSize}
use Rattle.ltfs_documents.specs.declared.doc_fields.tags.Tag.TheVariants.{Compression}
use Rattle.ltfs_documents.specs.declared.doc_fields.starts.Attribute.TheVariants.{Absent, Version}
use Rattle.ltfs_documents.specs.DocFields.Texts.{is_allowed}
use Rattle.ltfs_documents.specs.DocFields.Values.{lock_word}
use Rattle.ltfs_documents.specs.DocFields.Written.{start_text, end_text, bool_text, escape}
use Rattle.ltfs_documents.specs.DocElements.Pieces.{Val, words, time, uuid, letter, number, truth, lock, bytes}
use Rattle.ltfs_documents.specs.DocElements.Written.{bytes_text}
pub use Rattle.ltfs_documents.specs.DocElements.Written.{element, head}
use Rattle.ltfs_label.specs.Values.{LabelValue}

-- a block has 4,096 to 1,048,576 bytes
abbrev pub in_block_range : ℕ → Bool
in_block_range n = nat_le 4096 n && nat_le n 1048576

abbrev pub content_of : Val → List ℕ
content_of (words text) = escape text
content_of (time civil) = civil_text civil
content_of (uuid n) = uuid_text n
content_of (letter byte) = byte ∷ []
content_of (number n) = decimal n
content_of (truth is) = bool_text is
content_of (lock state) = lock_word state
content_of (bytes bs) = bytes_text bs

abbrev pub leaf_text : Tag → Val → List ℕ
leaf_text tag v = element tag (content_of v)

-- the children of a label in their order, with nothing between them
abbrev pub children_text : LabelValue → List ℕ
children_text v =
    leaf_text Creator (words v.creator)
    ++ leaf_text FormatTime (time v.formatted)
    ++ leaf_text VolumeUuid (uuid v.uuid)
    ++ element Location (leaf_text Partition (letter v.location))
    ++ element Partitions (leaf_text IndexLetter (letter v.index) ++ leaf_text DataLetter (letter v.dpart))
    ++ leaf_text BlockSize (number v.block)
    ++ leaf_text Compression (truth v.compression)

unfoldable pub canonical : LabelValue → List ℕ
canonical v = head ++ start_text LtfsLabel Version ++ children_text v ++ end_text LtfsLabel

-- a label that has a text: its creator has only characters that a document may have, its letters are `a` to `z`, and
-- its blocks have a size that they may have
pub record IsLabel (v : LabelValue) : Type 0 where
  pub creator : list_all is_allowed (chars v.creator) ≡ true
  pub location : (97 ≤ v.location) × (v.location ≤ 122)
  pub index : (97 ≤ v.index) × (v.index ≤ 122)
  pub dpart : (97 ≤ v.dpart) × (v.dpart ≤ 122)
  pub block : in_block_range v.block ≡ true
