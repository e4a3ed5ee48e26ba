-- The bytes of a document that stand for themselves, and are characters: those of ASCII but for controls and `&`.
use Rattle.std.specs.Prelude.{ℕ, Bool, nat_le, nat_lt, not, ◌==◌, ◌&&◌, ◌||◌}

abbrev pub is_bare : ℕ → Bool
is_bare b = b == 9 || b == 10 || nat_le 32 b && nat_lt b 128 && not (b == 38)

-- or a carriage return, with which a line may end
abbrev pub is_lined : ℕ → Bool
is_lined b = is_bare b || b == 13
