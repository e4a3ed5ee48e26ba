-- Where a key stands among attributes that ascend, or would stand.
use Rattle.std.specs.Prelude.{◌≡◌, ℕ, ◌<◌, ◌≤◌, List, length, slice_index_or}
use Rattle.std.specs.declared.cmp.Ordering.TheVariants.{Less, Greater}
use Rattle.tape_types.specs.declared.node_keys.xattrs.Xattr.{Xattr}
use Rattle.tape_types.specs.NodeKeys.Keys.{key_cmp}

-- the key stands at this place
pub record IsKeyAt (xattrs : List Xattr) (key : List ℕ) (at : ℕ) : Type 0 where
  pub in_range : at < length xattrs
  pub is : (d : Xattr) → (slice_index_or xattrs at d).key ≡ key

-- the key stands nowhere, and would stand at this place
pub record IsGapFor (xattrs : List Xattr) (key : List ℕ) (at : ℕ) : Type 0 where
  pub in_range : at ≤ length xattrs
  pub below : (k : ℕ) (d : Xattr) → k < at → key_cmp (slice_index_or xattrs k d).key key ≡ Less
  pub above : (k : ℕ) (d : Xattr) → at ≤ k → k < length xattrs
      → key_cmp (slice_index_or xattrs k d).key key ≡ Greater
