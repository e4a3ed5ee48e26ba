-- A number that stands for a name, as std's hasher computes it.
use Rattle.std.specs.Prelude.{ℕ, List}
use Rattle.std.specs.Hash.FoldHasher.{finish, initial, write}

-- the number that stands for a name
unfoldable pub digest : List ℕ → ℕ
digest name = finish (write initial name)
