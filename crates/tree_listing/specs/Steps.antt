-- What a listing is made of, node by node.
use Rattle.std.specs.Prelude.{◌≡◌, ◌⊎◌, ℕ, suc, ◌≤◌, Bool, true, List, [], ◌∷◌, ◌++◌, length, map, take, codes}
use Rattle.std.specs.Prelude.{decimal, get_or, Option, Some, Result, IfErr}
use Rattle.std.specs.List.{concat, flat_map, slice_get}
use Rattle.std.specs.FinMap as fin
use Rattle.std.specs.Io.KnownBytes.{Appends}
use Rattle.tape_types.specs.Counts.{Rose}
use Rattle.tape_types.specs.NodeKeys.Keys.{entries_of}
use Rattle.tape_types.specs.declared.node_keys.xattrs.Xattr.{Xattr}
use Rattle.index_model.specs.declared.nodes.Node as told
use Rattle.index_model.specs.declared.nodes.NodeKind as told_kind
use Rattle.index_model.specs.declared.nodes.NodeKind.TheVariants as told_kinds
use Rattle.plain_tree.specs.declared.nodes.Node.{Node}
use Rattle.plain_tree.specs.Paths.{Path}
use Rattle.plain_tree.specs.Tree.{Tree}
use Rattle.tape_edge.specs.Streams.{AppendsFront}
use Rattle.session_script.specs.Escapes.{escaped}
use Rattle.tree_listing.specs.Listing.{key_lines, line_end, lines_of, names_text, AreNodesOf}
use Rattle.tree_listing.specs.declared.errors.ListErr.{ListErr}
use Rattle.tree_listing.specs.declared.errors.ListErr.TheVariants as errors
use Rattle.tree_listing.specs.declared.lines.Lines.{Lines}

-- the text of a path's names, or `/` where there is none
abbrev pub shown : List ℕ → List ℕ
shown [] = codes "/"
shown (b ∷ names) = b ∷ names

-- the words of a node as an index tells it
abbrev pub told_words_of : (path : List ℕ) (uid : ℕ) → told_kind.NodeKind → List ℕ
told_words_of path uid told_kinds.Dir = codes "d " ++ decimal uid ++ codes " " ++ path
told_words_of path uid (told_kinds.File size extents) =
    codes "f " ++ decimal uid ++ codes " " ++ decimal size ++ codes " " ++ path
told_words_of path uid (told_kinds.Link text) =
    codes "l " ++ decimal uid ++ codes " " ++ path ++ codes " " ++ escaped text

-- its line
abbrev pub told_line : (all : Bool) → (names : List ℕ) → told.Node → List ℕ
told_line all names node = told_words_of (shown names) node.uid node.kind ++ line_end all node.readonly

-- the lines of its attributes
abbrev pub told_keys : (all : Bool) → (names : List ℕ) → List Xattr → List (List ℕ)
told_keys all names xattrs = key_lines all (shown names) (entries_of xattrs)

-- all its lines
abbrev pub told_lines : (all : Bool) → (names : List ℕ) → told.Node → List (List ℕ)
told_lines all names node = told_line all names node ∷ told_keys all names node.xattrs

-- The text of the names of a node's path: that of its directory's, cut from the text of the node before, and its own
-- name. Where the text of each node before ends is told by place. The first node has no name.
abbrev pub next_names : (ends names : List ℕ) → told.Node → List ℕ
next_names [] names node = names
next_names (end ∷ ends) names node =
    take (get_or (end ∷ ends) node.parent 0) names ++ codes "/" ++ escaped node.name

-- the line of a node was put behind the others
pub record IsPut (all : Bool) (old new : Lines) (node : told.Node) : Type 0 where
  pub names : new.names.items ≡ next_names old.ends.items old.names.items node
  pub ends : new.ends.items ≡ old.ends.items ++ length new.names.items ∷ []
  pub text : new.text.items ≡ old.text.items ++ told_line all new.names.items node

-- nothing was written, or all of a text was
abbrev pub IsPassedOn : (old new : Option (List ℕ)) (text left : List ℕ) → Type 0
IsPassedOn old new text left = ((new ≡ old) × (left ≡ text)) ⊎ (Appends old new text × (left ≡ []))

-- Lines are put together: the first of them were written, and the others are held.
pub record AreListed (lines : List (List ℕ)) (old now : Option (List ℕ)) (held : List ℕ) : Type 0 where
  pub passed : List (List ℕ)
  pub left : List (List ℕ)
  pub all : lines ≡ passed ++ left
  pub written : Appends old now (concat passed)
  pub holds : held ≡ concat left

-- what was written where lines stop: a front of their text, or whole lines
abbrev pub IsStopped : ListErr → (lines : List (List ℕ)) (old new : Option (List ℕ)) → Type 0
IsStopped errors.Sink lines old new = AppendsFront old new (concat lines)
IsStopped errors.NoMemory lines old new = (count : ℕ) × Appends old new (concat (take count lines))

-- behind all lines that were put these are put too, wherever they began
abbrev pub GoesOn : (more : List (List ℕ)) (old new : Option (List ℕ)) (held left : List ℕ) → Type 0
GoesOn more old new held left = (start : Option (List ℕ)) (lines : List (List ℕ))
    → AreListed lines start old held → AreListed (lines ++ more) start new left

-- behind all lines that were put these stop
abbrev pub StopsIn : ListErr → (more : List (List ℕ)) (old new : Option (List ℕ)) (held : List ℕ) → Type 0
StopsIn e more old new held = (start : Option (List ℕ)) (lines : List (List ℕ))
    → AreListed lines start old held → IsStopped e (lines ++ more) start new

-- the texts of the names and their ends are as they were
abbrev pub StaysWhere : (old new : Lines) → Type 0
StaysWhere old new = (new.names ≡ old.names) × (new.ends ≡ old.ends)

-- the texts of the paths of the first nodes of a tree are known by their ends, and that of the last of them is there
pub record AreWalked (es : List (Path × Node)) (count : ℕ) (ends names : List ℕ) : Type 0 where
  pub ends_are : ends ≡ map (λ (e : Path × Node). length (names_text e.0)) (take count es)
  pub begins : count ≡ 0 → names ≡ []
  pub last : (at : ℕ) (e : Path × Node) → count ≡ suc at → slice_get es at ≡ Some e → names ≡ names_text e.0

-- the count of faults rose where the sink failed
abbrev pub IsCause : (before now : ℕ) → ListErr → Type 0
IsCause before now errors.Sink = Rose before now
IsCause before now errors.NoMemory = Unit {0}

-- the count of faults never falls, and rose where the sink failed
pub record HasListCause {T : Type 0} (before now : ℕ) (result : Result T ListErr) : Type 0 where
  pub later : before ≤ now
  pub failed : IfErr result (IsCause before now)

-- the lines of a node were put behind the others, and some may have been written
pub record IsNodePut (all : Bool) (node : told.Node) (before now : Option (List ℕ)) (old new : Lines) : Type 0 where
  pub names : new.names.items ≡ next_names old.ends.items old.names.items node
  pub ends : new.ends.items ≡ old.ends.items ++ length new.names.items ∷ []
  pub lines : GoesOn (told_lines all new.names.items node) before now old.text.items new.text.items

-- a node's lines stop
abbrev pub IsNodeStopped : (all : Bool) → told.Node → (before now : Option (List ℕ)) → (old : Lines) → ListErr → Type 0
IsNodeStopped all node before now old e =
    StopsIn e (told_lines all (next_names old.ends.items old.names.items node) node) before now old.text.items

-- how the listing of each tree that has these nodes stands once so many of them have been put
pub record IsOnWay (all : Bool) (nodes : List told.Node) (count : ℕ) (old now : Option (List ℕ)) (lines : Lines)
    (before faults : ℕ) : Type 0 where
  pub listed : (tree : Tree) → AreNodesOf nodes tree
      → AreListed (flat_map (lines_of all) (take count (fin.entries tree.nodes))) old now lines.text.items
  pub walked : (tree : Tree) → AreNodesOf nodes tree
      → AreWalked (fin.entries tree.nodes) count lines.ends.items lines.names.items
  pub later : before ≤ faults

-- how the attributes of a node stand once so many of them have been put
pub record AreKeysOnWay (xattrs : List Xattr) (count : ℕ) (old now : Option (List ℕ)) (from lines : Lines)
    (before faults : ℕ) : Type 0 where
  pub put : GoesOn (told_keys true from.names.items (take count xattrs)) old now from.text.items lines.text.items
  pub stays : StaysWhere from lines
  pub later : before ≤ faults
