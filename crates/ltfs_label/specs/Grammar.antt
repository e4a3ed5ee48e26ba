-- What a label's text is (LTFS 2.4 on the format label).
use Rattle.std.specs.Prelude.{◌≡◌, ℕ, List}
use Rattle.ltfs_documents.specs.declared.doc_elements.schema.Container.TheVariants as place
use Rattle.ltfs_documents.specs.DocElements.Elements.{Items, DocumentText, all_pieces}
use Rattle.ltfs_label.specs.Values.{LabelValue, blank}
use Rattle.ltfs_label.specs.Reading.{value_from}

-- the text is a document of a label, whose elements tell this value
pub record LabelText (text : List ℕ) (v : LabelValue) : Type 0 where
  pub items : Items
  pub spelled : DocumentText place.Label text items
  pub value : v ≡ value_from blank (all_pieces items)
