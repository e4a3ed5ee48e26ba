-- The one text of each field that is written.
use denote.Ref.{Bor}
use Rattle.std.specs.Prelude.{◌≡◌, ℕ, Option, Some, None, List, [], ◌∷◌, ◌++◌, Bool, true, false, codes, not, ◌==◌}
use Rattle.std.specs.Prelude.{if◌then◌else◌}
use Rattle.std.specs.List.{flat_map}
use Rattle.ltfs_documents.specs.declared.doc_fields.tags.Tag.{Tag}
use Rattle.ltfs_documents.specs.declared.doc_fields.starts.Attribute.{Attribute}
use Rattle.ltfs_documents.specs.declared.doc_fields.starts.Attribute.TheVariants.{Absent, Version, Percent, Base64, Plain}
use Rattle.ltfs_documents.specs.DocFields.Tags.{spelled, is_root, is_escapable, is_typed}

abbrev pub attribute_text : Attribute → List ℕ
attribute_text Absent = []
attribute_text Version = codes " version=\"2.4.0\""
attribute_text (Percent true) = codes " percentencoded=\"true\""
attribute_text (Percent false) = codes " percentencoded=\"false\""
attribute_text Base64 = codes " type=\"base64\""
attribute_text Plain = codes " type=\"text\""

-- the attribute that is written with an element: a root has its version, a name, a key and the text of a symbolic link
-- may say whether they have escapes of percent signs, and a value of which type its text is
abbrev pub may_have : Tag → Attribute → Bool
may_have tag Absent = not (is_root tag)
may_have tag Version = is_root tag
may_have tag (Percent is) = is_escapable tag
may_have tag Base64 = is_typed tag
may_have tag Plain = is_typed tag

abbrev pub start_text : Tag → Attribute → List ℕ
start_text tag a = 60 ∷ spelled tag ++ attribute_text a ++ 62 ∷ []

abbrev pub end_text : Tag → List ℕ
end_text tag = 60 ∷ 47 ∷ spelled tag ++ 62 ∷ []

abbrev pub bool_text : Bool → List ℕ
bool_text true = codes "true"
bool_text false = codes "false"

abbrev pub escaped : ℕ → List ℕ
escaped b =
    if b == 38 then codes "&amp;"
    else (if b == 60 then codes "&lt;"
    else (if b == 62 then codes "&gt;"
    else (if b == 13 then codes "&#13;" else b ∷ [])))

-- a text with escapes for what can't stand raw
abbrev pub escape : List ℕ → List ℕ
escape text = flat_map escaped text

-- what stands for a byte that can't stand raw, and nothing for every other
abbrev pub IsEscape : ℕ → Option (Bor (List ℕ)) → Type 0
IsEscape b None = escaped b ≡ b ∷ []
IsEscape b (Some text) = escaped b ≡ text.now

-- what stood there stands in front
abbrev pub Keeps : List ℕ → List ℕ → Type 0
Keeps old new = (more : List ℕ) × (new ≡ old ++ more)
