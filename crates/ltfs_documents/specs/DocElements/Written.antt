-- The texts of which a document that is written is made.
use Rattle.std.specs.Prelude.{ℕ, List, ◌++◌, ◌&&◌, Bool, true, false, codes, if◌then◌else◌}
use Rattle.std.specs.List.{list_all}
use Rattle.std.specs.Str.{chars, is_utf8}
use Rattle.base64.specs.Engines.{standard}
use Rattle.base64.specs.GeneralPurpose.{encode_of}
use Rattle.ltfs_documents.specs.declared.doc_fields.starts.Attribute.{Attribute}
use Rattle.ltfs_documents.specs.declared.doc_fields.starts.Attribute.TheVariants.{Absent, Percent, Base64, Plain}
use Rattle.ltfs_documents.specs.declared.doc_fields.tags.Tag.{Tag}
use Rattle.ltfs_documents.specs.DocFields.Texts.{is_allowed}
use Rattle.ltfs_documents.specs.DocFields.Written.{end_text, escape, start_text}
use Rattle.ltfs_documents.specs.declared.ltfs_text.names.NameText.{NameText}

-- an element with what stands in it
abbrev pub element : Tag → List ℕ → List ℕ
element tag content = start_text tag Absent ++ content ++ end_text tag

-- the attribute of an element that holds the text of a name
abbrev pub encoding : NameText → Attribute
encoding text = by text.percent
  where
    by : Bool → Attribute
    by true = Percent true
    by false = Absent

-- whether bytes are a text of characters that a document may have
abbrev pub is_text : List ℕ → Bool
is_text bs = is_utf8 bs && list_all is_allowed (chars bs)

-- the attribute of an element that holds bytes, and what stands in it: a text where they are one, else base64
abbrev pub bytes_type : List ℕ → Attribute
bytes_type bs = if is_text bs then Plain else Base64

abbrev pub bytes_text : List ℕ → List ℕ
bytes_text bs = if is_text bs then escape bs else encode_of standard bs

abbrev pub head : List ℕ
head = codes "<?xml version=\"1.0\" encoding=\"UTF-8\"?>"
