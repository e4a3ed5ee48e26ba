-- A document is cut into blocks in one way.
use Rattle.std.specs.Prelude.{◌≡◌, ℕ, ◌≤◌, List, length}
use Rattle.std.specs.Int.{div_ceil}
use Rattle.tape_layout.specs.IndexConstruct.Blocks.{AreBlocks, blocks_of}

pub record AreCutInOneWay : Type 0 where
  pub cut : (size : ℕ) (doc : List ℕ) → 1 ≤ size → AreBlocks size doc (blocks_of size doc)
  pub only : (size : ℕ) (doc : List ℕ) (bs : List (List ℕ)) → 1 ≤ size → AreBlocks size doc bs → bs ≡ blocks_of size doc
  pub count : (size : ℕ) (doc : List ℕ) (bs : List (List ℕ)) → 1 ≤ size → AreBlocks size doc bs
      → length bs ≡ div_ceil (length doc) size
