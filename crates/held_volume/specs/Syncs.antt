-- What a sync admits, and how many ops that brings.
use Rattle.std.specs.Prelude.{◌≡◌, ℕ, ◌≤◌, Bool, true, false, List, length, Option, Some, None}
use Rattle.tape_types.specs.declared.moments.Moment.{Moment}
use Rattle.space_laws.specs.Space.{Rules, Space, index, ops_of, store}
use Rattle.space_laws.specs.Standing.{Given, Standing, sync_text}

-- the text of the index that a sync at this moment admits, or none where nothing has changed since the last one
abbrev pub IsDocument : Given → Standing → Moment → Option (List ℕ) → Type 0
IsDocument g st at (Some text) = (st.space.changed ≡ true) × (text ≡ sync_text g st at)
IsDocument g st at None = st.space.changed ≡ false

-- a write of so many bytes, and an index whose text has so many, bring at most so many ops
pub record BringsAtMost (v : Rules) (on : Bool) (s : Space) (count most : ℕ) : Type 0 where
  pub stores : (wanted : Bool) (bytes : List ℕ) → length bytes ≡ count
      → length (ops_of v on s (store wanted bytes)) ≤ most
  pub indexes : (text : List ℕ) → length text ≡ count → length (ops_of v on s (index text)) ≤ most
