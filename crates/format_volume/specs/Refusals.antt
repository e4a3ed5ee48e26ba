-- Which values the fields of a volume may have (LTFS 2.4 on labels, names and data placement policies).
use Rattle.std.specs.Prelude.{ℕ, ◌^◌, ◌<◌, Bool, true, not, nat_le}
use Rattle.std.specs.Prelude.{◌&&◌, ◌||◌, if◌then◌else◌, List, length, Option, Some, None}
use Rattle.std.specs.Int.{is_in_range}
use Rattle.std.specs.List.{AllByRecursion, list_all}
use Rattle.std.specs.Str.{IsUtf8, chars}
use Rattle.ltfs_documents.specs.DocFields.Texts.{is_allowed}
use Rattle.index_model.specs.declared.indexes.Policy.{Policy}
use Rattle.tape_types.specs.Bounds.{longest_file, longest_name}
use Rattle.tape_types.specs.Names.{has_byte}
use Rattle.format_volume.specs.declared.requests.FormatSpec.{FormatSpec}
use Rattle.format_volume.specs.declared.requests.Field.{Field}
use Rattle.format_volume.specs.declared.requests.Field.TheVariants as fields

-- a capital letter, or a digit
abbrev pub is_capital : ℕ → Bool
is_capital byte = is_in_range 65 90 byte || is_in_range 48 57 byte

-- up to 255 characters without a slash and a NUL
abbrev pub is_volume_name : List ℕ → Bool
is_volume_name name = nat_le (length (chars name)) longest_name && not (has_byte 47 name) && not (has_byte 0 name)

-- 1 to 255 characters that a document may have
abbrev pub is_pattern : List ℕ → Bool
is_pattern text = nat_le 1 (length text) && nat_le (length (chars text)) longest_name
    && list_all is_allowed (chars text)

-- up to 64 patterns, for files of up to 2^40 bytes
abbrev pub is_policy : Option Policy → Bool
is_policy None = true
is_policy (Some p) = nat_le p.size longest_file && nat_le (length p.names) 64 && list_all is_pattern p.names

-- the first field with a value that it may not have
abbrev pub spec_fault : FormatSpec → Option Field
spec_fault spec =
    if not (list_all is_capital spec.volume) then Some fields.Vol
    else if not (is_in_range 4096 1048576 spec.block) then Some fields.Block
    else if not (is_volume_name spec.name) then Some fields.Name
    else if not (is_policy spec.policy) then Some fields.Policy
    else None

-- the patterns of a policy are texts
abbrev pub HasTexts : Option Policy → Type 0
HasTexts None = Unit {0}
HasTexts (Some p) = AllByRecursion IsUtf8 p.names

-- a volume that may be asked for, with texts where there are to be texts and a number of 128 bits for a UUID
pub record IsSpec (spec : FormatSpec) : Type 0 where
  pub uuid : spec.uuid < 2 ^ 128
  pub name : IsUtf8 spec.name
  pub patterns : HasTexts spec.policy
