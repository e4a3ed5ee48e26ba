-- The text of a UUID (RFC 4122): 32 hexadecimal digits with hyphens after the 8th, 12th, 16th and 20th.
use Rattle.std.specs.Prelude.{ℕ, List, Option, option_map}
use Rattle.std.specs.Int.{w128, from_be_bytes, to_be_bytes}
use Rattle.uuid.specs.Text.{hyphenated_text, lower, parsed_hyphenated}

-- the number whose text this is, its letters in either case
abbrev pub uuid_in : List ℕ → Option ℕ
uuid_in text = option_map (from_be_bytes w128) (parsed_hyphenated text)

-- the text in lower case
abbrev pub uuid_text : ℕ → List ℕ
uuid_text uuid = hyphenated_text lower (to_be_bytes w128 uuid)
