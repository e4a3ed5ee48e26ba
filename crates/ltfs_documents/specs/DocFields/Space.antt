-- White space is space, tab, line feed and carriage return.
use Rattle.std.specs.Prelude.{ℕ, ◌+◌, List, [], ◌∷◌, Bool, drop, ◌==◌, ◌||◌, if◌then◌else◌}

abbrev pub is_space : ℕ → Bool
is_space b = b == 32 || b == 9 || b == 10 || b == 13

-- where a run of bytes that pass a test ends, which begins at a place
abbrev pub run_end : (ℕ → Bool) → ℕ → List ℕ → ℕ
run_end passes at [] = at
run_end passes at (b ∷ bytes) = if passes b then run_end passes (at + 1) bytes else at

-- where the white space ends that begins at a place
unfoldable pub space_end : List ℕ → ℕ → ℕ
space_end text at = run_end is_space at (drop at text)
