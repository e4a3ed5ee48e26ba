-- What contracts see of a head.
use Rattle.std.specs.Prelude.{ℕ, List}

-- the drive, and the bytes of the block that the last read found: none where it found no block or failed
pub record HeadView (D : Type 0) : Type 0 where
  pub drive : D
  pub block : List ℕ
