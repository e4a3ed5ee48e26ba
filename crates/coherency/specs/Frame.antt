-- The bytes of a note that no value gives.
use Rattle.std.specs.Prelude.{ℕ, Bool, nat_le, ◌==◌, ◌&&◌, List, [], ◌∷◌, ◌++◌, codes, slice_index}
use Rattle.std.specs.List.{slice_range}
use Rattle.std.specs.Str.{bytes_eq}

-- they are in form
abbrev pub has_frame : List ℕ → Bool
has_frame note =
    (slice_index note 0 == 8) && bytes_eq (slice_range note 25 27) (0 ∷ 43 ∷ [])
    && bytes_eq (slice_range note 27 32) (codes "LTFS" ++ 0 ∷ [])
    && (slice_index note 68 == 0) && nat_le (slice_index note 69) 1
