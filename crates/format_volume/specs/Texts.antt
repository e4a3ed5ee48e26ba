-- The texts of an empty volume as they are made: each is what it is to be, and is read as what it tells.
use Rattle.std.specs.Prelude.{◌≡◌, ◌<◌, ◌^◌, length}
use Rattle.ltfs_label.specs.Canonical as label_text
use Rattle.ltfs_label.specs.Grammar.{LabelText}
use Rattle.ltfs_label.specs.Values.{label_of}
use Rattle.tape_types.specs.declared.cartridges.Part.TheVariants.{Ip, Dp}
use Rattle.vol_label.specs.Table.{IsRecord, record_of}
use Rattle.format_volume.specs.declared.requests.FormatSpec.{FormatSpec}
use Rattle.format_volume.specs.declared.texts.Texts as kept
use Rattle.format_volume.specs.Refusals.{IsSpec}
use Rattle.format_volume.specs.Volumes.{document_on, label_on, record_for}

-- the bytes of the labels and indexes are those of the volume
pub record AreTextsOf (spec : FormatSpec) (texts : kept.Texts) : Type 0 where
  pub record_is : texts.record ≡ record_of (record_for spec)
  pub ip_label : texts.ip_label ≡ label_text.canonical (label_of (label_on Ip spec))
  pub dp_label : texts.dp_label ≡ label_text.canonical (label_of (label_on Dp spec))
  pub ip_index : texts.ip_index ≡ document_on Ip spec
  pub dp_index : texts.dp_index ≡ document_on Dp spec

-- the labels of a volume are read as what they tell, its texts are texts, and its indexes are in memory
pub record AreRead (spec : FormatSpec) : Type 0 where
  pub values : IsSpec spec
  pub record_is : IsRecord (record_of (record_for spec)) (record_for spec)
  pub ip_label : LabelText (label_text.canonical (label_of (label_on Ip spec))) (label_of (label_on Ip spec))
  pub dp_label : LabelText (label_text.canonical (label_of (label_on Dp spec))) (label_of (label_on Dp spec))
  pub ip_index : length (document_on Ip spec) < 2 ^ 64
  pub dp_index : length (document_on Dp spec) < 2 ^ 64
