-- The value of a label.
use Rattle.std.specs.Prelude.{ℕ, pos, List, [], Bool, false}
use lib.Dec.{lit<}
use Rattle.ltfs_documents.specs.declared.doc_fields.tags.Tag.{Tag}
use Rattle.ltfs_documents.specs.declared.doc_fields.tags.Tag.TheVariants.{Creator, FormatTime, VolumeUuid, Partition, IndexLetter}
use Rattle.ltfs_documents.specs.declared.doc_fields.tags.Tag.TheVariants.{DataLetter, BlockSize, Compression}
use Rattle.tape_types.specs.declared.moments.Moment.{Moment}
use Rattle.tape_types.specs.declared.times.Civil.{Civil}
use Rattle.tape_types.specs.Times.{civil_of}
use Rattle.ltfs_documents.specs.DocElements.Pieces.{Val, words, time, uuid, letter, number, truth}
use Rattle.ltfs_label.specs.declared.Label.{Label}

-- the value of a label, its moment as a date and a time of day
pub record LabelValue : Type 0 where
  pub creator : List ℕ
  pub formatted : Civil
  pub uuid : ℕ
  pub location : ℕ
  pub index : ℕ
  pub dpart : ℕ
  pub block : ℕ
  pub compression : Bool

abbrev pub label_of : Label → LabelValue
label_of l = record {
  creator = l.creator;
  formatted = civil_of l.formatted;
  uuid = l.uuid;
  location = l.location;
  index = l.index;
  dpart = l.dpart;
  block = l.block;
  compression = l.compression;
}

-- the first moment of 1970
abbrev pub epoch : Moment
epoch = record {
  secs = pos 0;
  nanos = 0;
  not_before = record { le = tt };
  not_after = record { le = tt };
  within_second = lit< tt;
}

-- what stands there before any child has told a value; a label has all its children
abbrev pub blank : LabelValue
blank = record {
  creator = [];
  formatted = civil_of epoch;
  uuid = 0;
  location = 0;
  index = 0;
  dpart = 0;
  block = 0;
  compression = false;
}

-- a leaf tells one of the label's values
abbrev pub set_leaf : Tag → Val → LabelValue → LabelValue
set_leaf Creator (words t) v = record v { creator = t }
set_leaf FormatTime (time c) v = record v { formatted = c }
set_leaf VolumeUuid (uuid n) v = record v { uuid = n }
set_leaf Partition (letter b) v = record v { location = b }
set_leaf IndexLetter (letter b) v = record v { index = b }
set_leaf DataLetter (letter b) v = record v { dpart = b }
set_leaf BlockSize (number n) v = record v { block = n }
set_leaf Compression (truth b) v = record v { compression = b }
set_leaf _ _ v = v
