-- What a cartridge stands for (LTFS 2.4 on mounting and on consistency).
use Rattle.std.specs.Prelude.{ℕ, ◌+◌, ◌*◌, ◌≡◌, ◌≢◌, ◌≤◌, ◌<◌, List, [], ◌∷◌, Option, Some}
use Rattle.std.specs.List.{AllByRecursion}
use Rattle.tape_types.specs.declared.cartridges.Cartridge.{Cartridge}
use Rattle.tape_types.specs.declared.cartridges.Part.{Part}
use Rattle.tape_types.specs.declared.cartridges.Part.TheVariants.{Ip, Dp}
use Rattle.plain_tree.specs.Tree.{Tree}
use Rattle.extent_map.specs.Cells.{tape_of}
use Rattle.file_tree.specs.Mounts as mounts
use Rattle.file_tree.specs.Tree.{FileTree, plain_of}
use Rattle.index_model.specs.declared.indexes.Index.{Index}
use Rattle.index_model.specs.declared.nodes.NodeKind.{NodeKind}
use Rattle.index_model.specs.declared.nodes.NodeKind.TheVariants as kinds
use Rattle.index_model.specs.declared.nodes.Node.{Node}
use Rattle.index_model.specs.declared.nodes.RawExtent.{RawExtent}
use Rattle.ltfs_label.specs.declared.Label.{Label}
use Rattle.content_laws.specs.Readings.{Construct, HasForm}
use Rattle.content_laws.specs.Content.{content}
use Rattle.content_laws.specs.Ends.{end_dp, end_ip, EndsWith, IsOneAtMost}
use Rattle.cartridge_meaning.specs.Carried.{Carried, carried}
use Rattle.cartridge_meaning.specs.Labels.{HasLabels}
use Rattle.cartridge_meaning.specs.Pointers.{IsLastOnDp, IsLastOnIp, chosen, indexes_of, letter_of, spot_of}
use Rattle.cartridge_meaning.specs.declared.labels.Labels.{Labels}

abbrev pub end_on : Part → (ip dp : ℕ) → ℕ
end_on Ip ip dp = ip
end_on Dp ip dp = dp

-- an extent lies on one of the two partitions, from position 4 on, and ends at or before the end of that partition
pub record Fits (label : Label) (ip dp : ℕ) (e : RawExtent) : Type 0 where
  pub part : Part
  pub letter : e.letter ≡ letter_of label part
  pub byte : e.byte < label.block
  pub low : 4 ≤ e.block
  pub high : e.block * label.block + e.byte + e.count ≤ end_on part ip dp * label.block

-- so does each extent of a node that has bytes
abbrev pub FitsKind : Label → (ip dp : ℕ) → NodeKind → Type 0
FitsKind label ip dp kinds.Dir = Unit {0}
FitsKind label ip dp (kinds.File size extents) = AllByRecursion (λ e. 0 < e.count → Fits label ip dp e) extents
FitsKind label ip dp (kinds.Link text) = Unit {0}

abbrev pub FitsNode : Label → (ip dp : ℕ) → Node → Type 0
FitsNode label ip dp node = FitsKind label ip dp node.kind

-- the ends of the partitions of a cartridge
abbrev pub ip_end : Cartridge → ℕ
ip_end c = end_ip (content c.ip)

abbrev pub dp_end : Cartridge → ℕ
dp_end c = end_dp (indexes_of c.dp)

-- each extent of an index lies before the ends of the cartridge's partitions
abbrev pub AreWithin : Label → Cartridge → List Node → Type 0
AreWithin label c nodes = AllByRecursion (FitsNode label (ip_end c) (dp_end c)) nodes

-- the labels of a volume are there, and both partitions have the form
pub record HasForms (c : Cartridge) (labels : Labels) : Type 0 where
  pub has : HasLabels c labels
  pub ip : HasForm c.ip
  pub dp : HasForm c.dp

-- What mounting finds: the labels, both partitions in form, what the last index of each reads as, and the chosen one of
-- them, whose extents lie before the ends. The volume's label is that of the index partition.
pub record Found (c : Cartridge) : Type 0 where
  pub labels : Labels
  pub forms : HasForms c labels
  pub on_dp : Option Index
  pub dp_last : IsLastOnDp labels.ip (indexes_of c.dp) on_dp
  pub on_ip : Option Index
  pub ip_last : IsLastOnIp labels.ip (indexes_of c.ip) (indexes_of c.dp) on_dp on_ip
  pub index : Index
  pub choice : chosen on_ip on_dp ≡ Some index
  pub within : AreWithin labels.ip c index.nodes

-- the tree of an index, with the bytes that stand on the cartridge
abbrev pub IsTreeOf : Label → Cartridge → Index → Tree → Type 0
IsTreeOf label c index tree =
    (t : FileTree) × mounts.IsTreeOf (label.index, label.dpart) label.block index t × (tree ≡ plain_of (tape_of c) t)

-- the cartridge reads as the tree of the chosen index, of its generation, with what that carries over
pub record Reads (c : Cartridge) (facts : Carried) (tree : Tree) (generation : ℕ) : Type 0 where
  pub found : Found c
  pub facts_are : facts ≡ carried found.index
  pub tree_is : IsTreeOf found.labels.ip c found.index tree
  pub generation_is : generation ≡ found.index.generation

-- it reads so, and the data partition has an index
pub record Stands (c : Cartridge) (facts : Carried) (tree : Tree) (generation : ℕ) : Type 0 where
  pub reads : Reads c facts tree generation
  pub has_index : indexes_of c.dp ≢ []

-- the last indexes of both partitions are of this generation, and tell this tree and carry over this
pub record AreAlike (c : Cartridge) (facts : Carried) (tree : Tree) (generation : ℕ) : Type 0 where
  pub found : Found c
  pub ip_index : Index
  pub ip_last : found.on_ip ≡ Some ip_index
  pub ip_generation : ip_index.generation ≡ generation
  pub ip_facts : facts ≡ carried ip_index
  pub ip_tree : IsTreeOf found.labels.ip c ip_index tree
  pub dp_index : Index
  pub dp_last : found.on_dp ≡ Some dp_index
  pub dp_generation : dp_index.generation ≡ generation
  pub dp_facts : facts ≡ carried dp_index
  pub dp_tree : IsTreeOf found.labels.ip c dp_index tree

-- both partitions end with an index, and that of the index partition points back to that of the data partition
pub record IsConsistent (c : Cartridge) : Type 0 where
  pub found : Found c
  pub ip : Construct
  pub ip_older : List Construct
  pub ip_is : indexes_of c.ip ≡ ip ∷ ip_older
  pub ip_ends : EndsWith c.ip ip
  pub dp : Construct
  pub dp_older : List Construct
  pub dp_is : indexes_of c.dp ≡ dp ∷ dp_older
  pub dp_ends : EndsWith c.dp dp
  pub index : Index
  pub on_ip : found.on_ip ≡ Some index
  pub back : index.back ≡ Some (spot_of found.labels.ip Dp dp)

-- the index partition has no index, or one alone, with which its front ends
abbrev pub HasOneIndex : Cartridge → Type 0
HasOneIndex c = IsOneAtMost c.ip (indexes_of c.ip)
