-- The cells of a file that is kept in pages.
use Rattle.std.specs.Prelude.{ℕ, ◌/◌, ◌%◌, List, map, slice_index, Option, Some, None}
use Rattle.std.specs.List.{range_with_len}
use Rattle.std.specs.Ordering.{nat_cmp, is_eq}
use Rattle.std.specs.Map.{lookup}

-- the byte at a place of a page, and 0 where there is no page
abbrev pub byte_in : {B : Type 0} → (B → List ℕ) → Option B → ℕ → ℕ
byte_in bytes None i = 0
byte_in bytes (Some page) i = slice_index (bytes page) i

-- the page of this number
abbrev pub page_at : {B : Type 0} → List (ℕ × B) → ℕ → Option B
page_at es number = lookup (λ k. is_eq (nat_cmp number k)) es

-- the byte at a place of the file
abbrev pub byte_at : {B : Type 0} → (B → List ℕ) → List (ℕ × B) → ℕ → ℕ
byte_at bytes es i = byte_in bytes (page_at es (i / 4096)) (i % 4096)

-- the first n cells, of which none is lost
abbrev pub cells_of : {B : Type 0} → (B → List ℕ) → List (ℕ × B) → ℕ → List (Option ℕ)
cells_of bytes es n = map (λ i. Some (byte_at bytes es i)) (range_with_len 0 n)
