-- What is escaped in a name or a text that is printed.
use Rattle.std.specs.Prelude.{ℕ, ◌/◌, ◌%◌, List, [], ◌∷◌, Bool, true, ◌||◌, nat_le, ◌==◌, if◌then◌else◌}
use Rattle.std.specs.List.{flat_map}
use Rattle.std.specs.Fmt.{digit_glyph}

-- a control, the space, `%`, DEL, or a byte past ASCII
abbrev pub is_escaped : ℕ → Bool
is_escaped b = nat_le b 32 || (b == 37) || nat_le 127 b

-- `%` and two hexadecimal digits in upper case for such a byte, any other as it is
abbrev pub escaped_byte : ℕ → List ℕ
escaped_byte b = if is_escaped b then 37 ∷ digit_glyph true (b / 16 % 16) ∷ digit_glyph true (b % 16) ∷ [] else b ∷ []

unfoldable pub escaped : List ℕ → List ℕ
escaped text = flat_map escaped_byte text
