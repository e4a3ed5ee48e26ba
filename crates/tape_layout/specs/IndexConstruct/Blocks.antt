-- The blocks in which a document stands on tape (LTFS 2.4 on the index construct).
use Rattle.std.specs.Prelude.{◌≡◌, ℕ, ◌*◌, ◌≤◌, List, [], ◌∷◌, map, take, drop, length}
use Rattle.std.specs.Int.{div_ceil}
use Rattle.std.specs.List.{concat, range_with_len}

-- all but the last have just so many bytes, and the last has one or more and no more than these
abbrev pub AreFull : ℕ → List (List ℕ) → Type 0
AreFull size [] = Unit {0}
AreFull size (last ∷ []) = (1 ≤ length last) × (length last ≤ size)
AreFull size (b ∷ next ∷ bs) = (length b ≡ size) × AreFull size (next ∷ bs)

-- these are the blocks of a document: joined in their order they are the document, and all but the last are full
pub record AreBlocks (size : ℕ) (doc : List ℕ) (bs : List (List ℕ)) : Type 0 where
  pub joined : concat bs ≡ doc
  pub full : AreFull size bs

-- the k-th block of a document, counted from 0
abbrev pub block_at : ℕ → List ℕ → ℕ → List ℕ
block_at size doc k = take size (drop (k * size) doc)

-- all blocks of a document
abbrev pub blocks_of : ℕ → List ℕ → List (List ℕ)
blocks_of size doc = map (block_at size doc) (range_with_len 0 (div_ceil (length doc) size))
