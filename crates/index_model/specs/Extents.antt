-- Files and their extents (LTFS 2.4 on data extents).
use Rattle.std.specs.Prelude.{◌≡◌, ◌⊎◌, ⊤, ℕ, ◌+◌, ◌<◌, ◌≤◌, ◌^◌, List}
use Rattle.std.specs.List.{AllByRecursion}
use Rattle.std.specs.Str.{IsUtf8}
use Rattle.tape_types.specs.Bounds.{longest_file}
use Rattle.index_model.specs.declared.nodes.RawExtent.{RawExtent}
use Rattle.index_model.specs.declared.nodes.NodeKind.{NodeKind}
use Rattle.index_model.specs.declared.nodes.NodeKind.TheVariants as kinds
use Rattle.index_model.specs.declared.nodes.Node.{Node}
use Rattle.index_model.specs.Places.{IsAt}
use Rattle.index_model.specs.Texts.{IsLetter}

-- an extent has the letter of a partition, and each of its numbers is at most 2^62
pub record IsExtent (e : RawExtent) : Type 0 where
  pub offset : e.offset ≤ 2 ^ 62
  pub letter : IsLetter e.letter
  pub block : e.block ≤ 2 ^ 62
  pub byte : e.byte ≤ 2 ^ 62
  pub count : e.count ≤ 2 ^ 62

-- what a node's element may hold: a file's extents are such, and a link's text is any text
abbrev pub IsKind : NodeKind → Type 0
IsKind kinds.Dir = ⊤
IsKind (kinds.File bytes extents) = AllByRecursion IsExtent extents
IsKind (kinds.Link text) = IsUtf8 text

-- at this place stands a file of so many bytes with these extents
pub record IsFileAt (nodes : List Node) (at bytes : ℕ) (extents : List RawExtent) : Type 0 where
  pub node : Node
  pub is : IsAt nodes at node
  pub file : node.kind ≡ kinds.File bytes extents

-- the byte of the file at this offset is one of the extent's
pub record Covers (e : RawExtent) (offset : ℕ) : Type 0 where
  pub from : e.offset ≤ offset
  pub until : offset < e.offset + e.count

-- the extents at two places share this offset of the file
pub record ShareOffset (extents : List RawExtent) (at other offset : ℕ) : Type 0 where
  pub one : RawExtent
  pub is : IsAt extents at one
  pub covers : Covers one offset
  pub two : RawExtent
  pub other_is : IsAt extents other two
  pub other_covers : Covers two offset

-- Each file has at most 2^40 bytes. Its extents end at or before 2^62, and no two of them share an offset; one of no
-- bytes shares none.
pub record AreFiles (nodes : List Node) : Type 0 where
  pub size : (at bytes : ℕ) (extents : List RawExtent) → IsFileAt nodes at bytes extents → bytes ≤ longest_file
  pub ends : (at bytes : ℕ) (extents : List RawExtent) → IsFileAt nodes at bytes extents →
      AllByRecursion (λ e. e.offset + e.count ≤ 2 ^ 62) extents
  pub apart : (at bytes : ℕ) (extents : List RawExtent) → IsFileAt nodes at bytes extents → (one two offset : ℕ) →
      ShareOffset extents one two offset → one ≡ two

-- some extent ends past 2^62
pub record EndsTooFar (extents : List RawExtent) : Type 0 where
  pub at : ℕ
  pub extent : RawExtent
  pub is : IsAt extents at extent
  pub far : 2 ^ 62 < extent.offset + extent.count

-- some two extents share an offset
pub record Overlap (extents : List RawExtent) : Type 0 where
  pub earlier : ℕ
  pub later : ℕ
  pub two : earlier < later
  pub offset : ℕ
  pub shared : ShareOffset extents earlier later offset

-- at this place stands a file that is too long, or of which some extent ends too far
pub record IsOutOfBounds (nodes : List Node) (at : ℕ) : Type 0 where
  pub bytes : ℕ
  pub extents : List RawExtent
  pub file : IsFileAt nodes at bytes extents
  pub out : (longest_file < bytes) ⊎ EndsTooFar extents

-- at this place stands a file of which some extents overlap
pub record HasOverlap (nodes : List Node) (at : ℕ) : Type 0 where
  pub bytes : ℕ
  pub extents : List RawExtent
  pub file : IsFileAt nodes at bytes extents
  pub overlap : Overlap extents

-- at this place stands a file that is wrong in the one or the other way
abbrev pub IsBadFile : List Node → ℕ → Type 0
IsBadFile nodes at = IsOutOfBounds nodes at ⊎ HasOverlap nodes at
