-- Elements as they are written.
use Rattle.std.proofs.Common.{◌≡◌, ℕ, ◌+◌, Bool, true, false, not, ◌&&◌, List, [], ◌∷◌, ◌++◌, length, drop, Option, Some, None, Ok, IsUtf8}
use Rattle.std.specs.Prelude.{⊤}
use Rattle.std.specs.Fmt.{decimal}
use Rattle.tape_types.specs.Times.{civil_text}
use Rattle.tape_types.specs.Uuids.{uuid_text}
use Rattle.ltfs_documents.specs.declared.doc_fields.tags.Tag.{Tag}
use Rattle.ltfs_documents.specs.declared.doc_fields.starts.Attribute.{Attribute}
use Rattle.ltfs_documents.specs.declared.doc_fields.starts.Attribute.TheVariants.{Absent}
use Rattle.ltfs_documents.specs.declared.doc_fields.starts.Start.{Start}
use Rattle.ltfs_documents.specs.DocFields.Tags.{is_escapable, spelled}
use Rattle.ltfs_documents.specs.DocFields.Values.{lock_word}
use Rattle.ltfs_documents.specs.DocFields.Written.{bool_text, end_text, escape, may_have, start_text}
use Rattle.ltfs_documents.proofs.DocFields.Again.{all_pass}
use Rattle.ltfs_documents.proofs.DocFields.WrittenBytes.{is_ascii}
use Rattle.ltfs_documents.specs.DocElements.Children.{member, first_missing}
use Rattle.ltfs_documents.specs.declared.ltfs_text.names.NameText.{NameText}
use Rattle.ltfs_documents.specs.LtfsText.Names.{written}
use Rattle.ltfs_documents.specs.declared.doc_elements.schema.Container.{Container}
use Rattle.ltfs_documents.specs.declared.doc_elements.schema.Form.{Form}
use Rattle.ltfs_documents.specs.declared.doc_elements.schema.Child.TheVariants as child
use Rattle.ltfs_documents.specs.DocElements.Elements.{Item, plain, bare, nested, Items, no_items, item, item_tag}
use Rattle.ltfs_documents.specs.DocElements.Pieces.{Val, words, time, uuid, letter, number, truth, lock, bytes, value_in, has_any}
use Rattle.ltfs_documents.specs.DocElements.Schema.{rule, required, tag_of, may_repeat, excludes}
use Rattle.ltfs_documents.specs.DocElements.Written.{bytes_text, bytes_type, element, encoding}

-- ---- the text of elements

-- how a text stands in its element
abbrev pub shown : Tag → List ℕ → NameText
shown tag text = by (is_escapable tag)
  where
    by : Bool → NameText
    by true = written text
    by false = record { text = text; percent = false }

-- the attribute with which a leaf's value is written
abbrev pub attribute_of : Tag → Val → Attribute
attribute_of tag (words text) = encoding (shown tag text)
attribute_of tag (bytes bs) = bytes_type bs
attribute_of tag _ = Absent

-- the text with which a leaf's value is written
abbrev pub content_of : Tag → Val → List ℕ
content_of tag (words text) = escape (shown tag text).text
content_of tag (time c) = civil_text c
content_of tag (uuid n) = uuid_text n
content_of tag (letter b) = b ∷ []
content_of tag (number n) = decimal n
content_of tag (truth is) = bool_text is
content_of tag (lock state) = lock_word state
content_of tag (bytes bs) = bytes_text bs

abbrev mutual
  pub text_of : Item → List ℕ
  text_of (plain tag v) = start_text tag (attribute_of tag v) ++ content_of tag v ++ end_text tag
  text_of (bare q) = []
  text_of (nested q is) = element (tag_of q) (texts_of is)

  pub texts_of : Items → List ℕ
  texts_of no_items = []
  texts_of (item i is) = text_of i ++ texts_of is

-- ---- elements that are read where they are written

-- the value of a leaf is read behind its start tag
pub record ReadsBack (f : Form) (tag : Tag) (v : Val) : Type 0 where
  pub again : (text : List ℕ) (from : ℕ) (start : Start) (rest : List ℕ) → start.attribute ≡ attribute_of tag v → drop start.next text ≡ content_of tag v ++ 60 ∷ rest → value_in f from start text ≡ Ok (v, start.next + length (content_of tag v))
  pub valid : IsUtf8 (content_of tag v)

-- an element that may have this attribute
pub record HasTags (tag : Tag) (a : Attribute) : Type 0 where
  pub may : may_have tag a ≡ true
  pub name : all_pass is_ascii (spelled tag) ≡ true

-- whether children stand where they may, behind some that stood there, and none is missing
abbrev pub is_none : Option Tag → Bool
is_none None = true
is_none (Some tag) = false

-- whether an element may stand behind these others in a parent
abbrev pub may_follow : Container → List Tag → Tag → Bool
may_follow p seen tag = not (has_any (excludes tag) seen) && not (member tag seen && not (may_repeat p tag))

-- whether elements may stand one behind the other, with all that are required
abbrev pub stand : Container → List Tag → Items → Bool
stand p seen no_items = is_none (first_missing (required p) seen)
stand p seen (item i is) = may_follow p seen (item_tag i) && stand p (item_tag i ∷ seen) is

abbrev mutual
  pub GoodItem : Container → Item → Type 0
  GoodItem p (plain tag v) = (f : Form) × (rule p tag ≡ child.Leaf f) × HasTags tag (attribute_of tag v) × ReadsBack f tag v
  GoodItem p (bare q) = ⊥
  GoodItem p (nested q is) = (rule p (tag_of q) ≡ child.Parent q) × HasTags (tag_of q) Absent × (stand q [] is ≡ true) × GoodItems q is

  pub GoodItems : Container → Items → Type 0
  GoodItems p no_items = ⊤
  GoodItems p (item i is) = GoodItem p i × GoodItems p is
