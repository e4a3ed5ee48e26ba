-- The declaration with which a document may begin: `<?xml`, its version, and then its encoding and whether it stands
-- alone, if they are told.
use Rattle.std.specs.Prelude.{ℕ, ◌+◌, List, Bool, length, drop, codes, Ok, nat_lt, ◌==◌, ◌&&◌, ◌||◌, if◌then◌else◌, map}
use Rattle.std.specs.Char.{to_ascii_lowercase}
use Rattle.ltfs_documents.specs.declared.doc_fields.declaration.Told.{Told}
use Rattle.ltfs_documents.specs.declared.doc_fields.declaration.Told.TheVariants as told
use Rattle.ltfs_documents.specs.DocFields.Space.{space_end}
use Rattle.ltfs_documents.specs.DocFields.StartTag.{in_name, quoted_at}
use Rattle.ltfs_documents.specs.DocFields.Tags.{same}
use Rattle.ltfs_documents.specs.DocFields.Reading.{◌>>=◌, Read, byte, between, syntax_at, one_at, literal_at, begins}

abbrev pub label : Told → List ℕ
label told.Version = codes "version="
label told.Encoding = codes "encoding="
label told.Standalone = codes "standalone="

-- the letters of the encoding's name count in either case
abbrev pub is_told : Told → List ℕ → Bool
is_told told.Version v = same v (codes "1.0")
is_told told.Encoding v = same (map to_ascii_lowercase v) (map to_ascii_lowercase (codes "utf-8"))
is_told told.Standalone v = same v (codes "yes") || same v (codes "no")

-- a part with its value in quotes
unfoldable pub told_at : Told → List ℕ → ℕ → Read ℕ
told_at part text at = do
  quote ← literal_at (label part) text at
  end ← quoted_at text quote
  if is_told part (between text (quote + 1) end) then Ok (end + 1) else syntax_at (quote + 1)

-- white space or none, and the end
abbrev pub close_at : List ℕ → ℕ → Read ℕ
close_at text at = one_at 63 text (space_end text at) >>= one_at 62 text

-- whether a part follows behind white space, by its first letter
abbrev pub follows : ℕ → List ℕ → ℕ → Bool
follows letter text at = nat_lt at (space_end text at) && byte text (space_end text at) == letter

unfoldable pub standalone_at : List ℕ → ℕ → Read ℕ
standalone_at text at =
    if follows 115 text at then (told_at told.Standalone text (space_end text at) >>= close_at text)
    else close_at text at

unfoldable pub encoding_at : List ℕ → ℕ → Read ℕ
encoding_at text at =
    if follows 101 text at then (told_at told.Encoding text (space_end text at) >>= standalone_at text)
    else standalone_at text at

-- what stands behind `<?xml`
unfoldable pub parts_at : List ℕ → ℕ → Read ℕ
parts_at text at =
    if nat_lt at (space_end text at) then (told_at told.Version text (space_end text at) >>= encoding_at text)
    else syntax_at at

-- Where a declaration stands at a place, the place behind it; else that place. A text that ends within `<?xml` ends
-- too early.
unfoldable pub head_at : List ℕ → ℕ → Read ℕ
head_at text at =
    if begins (codes "<?xml") (drop at text)
    then (if in_name (byte text (at + 5)) then Ok at else parts_at text (at + 5))
    else (if nat_lt (at + 1) (length text) && begins (drop at text) (codes "<?xml")
    then syntax_at (length text)
    else Ok at)
