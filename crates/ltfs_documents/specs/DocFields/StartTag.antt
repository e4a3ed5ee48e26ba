-- A start tag: `<`, the element's name, attributes, `>` or `/>`.
use Rattle.std.specs.Prelude.{ℕ, ◌+◌, List, Bool, true, false, length, drop, not, codes, Option, Some, None, Ok, Err}
use Rattle.std.specs.Prelude.{nat_le, ◌==◌, ◌&&◌, ◌||◌, if◌then◌else◌}
use Rattle.ltfs_documents.specs.declared.doc_fields.errors.FieldErr.{FieldErr}
use Rattle.ltfs_documents.specs.declared.doc_fields.errors.Why.{Why}
use Rattle.ltfs_documents.specs.declared.doc_fields.errors.Why.TheVariants as why
use Rattle.ltfs_documents.specs.declared.doc_fields.tags.Tag.{Tag}
use Rattle.ltfs_documents.specs.declared.doc_fields.starts.Attribute.{Attribute}
use Rattle.ltfs_documents.specs.declared.doc_fields.starts.Attribute.TheVariants as attribute
use Rattle.ltfs_documents.specs.declared.doc_fields.starts.Start.{Start}
use Rattle.ltfs_documents.specs.DocFields.Space.{run_end, space_end}
use Rattle.ltfs_documents.specs.DocFields.Tags.{tag_named, is_root, is_escapable, is_typed, same}
use Rattle.ltfs_documents.specs.DocFields.Reading.{◌>>=◌, Read, byte, between, fault, syntax_at, unknown_at, one_at}

abbrev pub in_range : ℕ → ℕ → ℕ → Bool
in_range least most b = nat_le least b && nat_le b most

-- letters, `_`, `:` and what is past ASCII
abbrev pub begins_name : ℕ → Bool
begins_name b = in_range 97 122 b || in_range 65 90 b || b == 95 || b == 58 || nat_le 128 b

-- these, digits, `-` and `.`
abbrev pub in_name : ℕ → Bool
in_name b = begins_name b || in_range 48 57 b || b == 45 || b == 46

-- where the name ends that must begin there, and behind which something must stand
unfoldable pub name_at : List ℕ → ℕ → Read ℕ
name_at text at =
    let end = run_end in_name at (drop at text) in
    if begins_name (byte text at) then (if end == length text then syntax_at (length text) else Ok end)
    else syntax_at at

-- where the closing quote of the value stands that must begin there, in double or single quotes
unfoldable pub quoted_at : List ℕ → ℕ → Read ℕ
quoted_at text at =
    let quote = byte text at in
    let end = run_end (λ b. not (b == quote)) (at + 1) (drop (at + 1) text) in
    if quote == 34 || quote == 39 then (if end == length text then syntax_at (length text) else Ok end)
    else syntax_at at

-- a version that is read: 2., a digit up to 4, a point, and one to three digits
unfoldable pub is_version : List ℕ → Bool
is_version v =
    in_range 5 7 (length v) && byte v 0 == 50 && byte v 1 == 46 && in_range 48 52 (byte v 2) && byte v 3 == 46
    && in_range 48 57 (byte v 4) && (nat_le (length v) 5 || in_range 48 57 (byte v 5))
    && (nat_le (length v) 6 || in_range 48 57 (byte v 6))

-- whether an element may have an attribute
abbrev pub is_known : Tag → List ℕ → Bool
is_known tag name = is_root tag && same name (codes "version") || is_escapable tag && same name (codes "percentencoded")
    || is_typed tag && same name (codes "type")

-- What follows in a start tag whose `<` stands at `from`: nothing more, or an attribute that the element may have,
-- with the first place of its name and the place behind it.
unfoldable pub attribute_at : Tag → ℕ → List ℕ → ℕ → Read (Option (ℕ × ℕ))
attribute_at tag from text at =
    let s = space_end text at in
    if byte text s == 62 || byte text s == 47 then Ok None
    else (if s == at then syntax_at at
    else (name_at text s >>= λ end. if is_known tag (between text s end) then Ok (Some (s, end)) else unknown_at from))

-- the value of an attribute, behind its name: where it begins and where its closing quote stands
unfoldable pub value_at : List ℕ → ℕ → Read (ℕ × ℕ)
value_at text at = do
  equals ← one_at 61 text (space_end text at)
  end ← quoted_at text (space_end text equals)
  Ok (space_end text equals + 1, end)

-- of a value that begins at a place
abbrev pub percent_of : List ℕ → ℕ → Read Attribute
percent_of v at =
    if same v (codes "true") then Ok (attribute.Percent true)
    else (if same v (codes "false") then Ok (attribute.Percent false) else syntax_at at)

-- how the text of a value is to be read
abbrev pub type_of : List ℕ → ℕ → Read Attribute
type_of v at =
    if same v (codes "base64") then Ok attribute.Base64
    else (if same v (codes "text") then Ok attribute.Plain else syntax_at at)

-- the attribute that an element may have, by its value
abbrev pub attribute_of : Tag → List ℕ → ℕ → Read Attribute
attribute_of tag v at = if is_typed tag then type_of v at else percent_of v at

-- the end of a start tag
unfoldable pub closes_at : Tag → Attribute → List ℕ → ℕ → Read Start
closes_at tag a text at =
    if byte text at == 62 then Ok (record { tag = tag; attribute = a; empty = false; next = at + 1 })
    else (if byte text at == 47
    then (one_at 62 text (at + 1) >>= λ next. Ok (record { tag = tag; attribute = a; empty = true; next = next }))
    else syntax_at at)

-- an element has one attribute at most, so a second one is there twice
abbrev pub second_at : Tag → Attribute → List ℕ → ℕ → Option (ℕ × ℕ) → Read Start
second_at tag a text at None = closes_at tag a text (space_end text at)
second_at tag a text at (Some twice) = syntax_at twice.0

-- the rest of a start tag behind its first attribute, whose value ends before a place
unfoldable pub behind_at : Tag → Attribute → ℕ → List ℕ → ℕ → Read Start
behind_at tag a from text at = attribute_at tag from text at >>= second_at tag a text at

abbrev pub first_at : Tag → ℕ → List ℕ → ℕ → Option (ℕ × ℕ) → Read Start
first_at tag from text at None = closes_at tag attribute.Absent text (space_end text at)
first_at tag from text at (Some name) = do
  v ← value_at text name.1
  a ← attribute_of tag (between text v.0 v.1) v.0
  behind_at tag a from text (v.1 + 1)

-- a version that isn't read comes before all that is wrong behind it, but for an attribute that isn't known
abbrev pub version_before : Why → Why
version_before why.Unknown = why.Unknown
version_before why.Syntax = why.Version
version_before why.Version = why.Version
version_before why.Number = why.Version
version_before why.NoMemory = why.Version

abbrev pub no_version : ℕ → Read Start → FieldErr
no_version from (Ok start) = record { at = from; why = why.Version }
no_version from (Err e) = record { at = from; why = version_before e.why }

abbrev pub versioned : Bool → ℕ → Read Start → Read Start
versioned right from rest = if right then rest else Err (no_version from rest)

abbrev pub version_at : Tag → ℕ → List ℕ → ℕ → Option (ℕ × ℕ) → Read Start
version_at tag from text at None =
    closes_at tag attribute.Absent text (space_end text at) >>= λ _. fault why.Version from
version_at tag from text at (Some name) = value_at text name.1 >>= λ v.
    versioned (is_version (between text v.0 v.1)) from (behind_at tag attribute.Version from text (v.1 + 1))

-- the rest of a start tag whose `<` stands at `from`, behind its name
unfoldable pub rest_at : Tag → ℕ → List ℕ → ℕ → Read Start
rest_at tag from text at = attribute_at tag from text at >>= λ first.
    if is_root tag then version_at tag from text at first else first_at tag from text at first

abbrev pub tag_or_unknown : ℕ → Option Tag → Read Tag
tag_or_unknown from None = unknown_at from
tag_or_unknown from (Some tag) = Ok tag

-- the element of a start tag whose `<` must stand there, and the place behind its name
unfoldable pub named_at : List ℕ → ℕ → Read (Tag × ℕ)
named_at text at = do
  name ← one_at 60 text at
  end ← name_at text name
  tag ← tag_or_unknown at (tag_named (between text name end))
  Ok (tag, end)

unfoldable pub start_at : List ℕ → ℕ → Read Start
start_at text at = named_at text at >>= λ t. rest_at t.0 at text t.1
