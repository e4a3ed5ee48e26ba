-- The index of a text is valid.
use Rattle.std.proofs.Common.{◌≡◌, ℕ, zero, suc, ◌+◌, ◌<◌, List, [], ◌∷◌, ◌++◌, map, sym, subst, arith}
use Rattle.std.specs.List.{AllByRecursion}
use Rattle.std.proofs.lemmas.Option.{same_Some}
use Rattle.index_model.specs.declared.indexes.Index.{Index}
use Rattle.index_model.specs.declared.nodes.NodeKind.TheVariants as kinds
use Rattle.index_model.specs.declared.nodes.Node.{Node}
use Rattle.ltfs_documents.specs.declared.doc_elements.schema.Container.TheVariants as place
use Rattle.tape_types.specs.declared.node_keys.xattrs.Xattr.{Xattr}
use Rattle.index_model.specs.Extents.{IsKind}
use Rattle.index_model.specs.Grammar.{IndexText}
use Rattle.index_model.specs.Keys.{IsXattr}
use Rattle.index_model.specs.Names.{AreNames, IsNodeName, IsVolumeName}
use Rattle.index_model.specs.Places.{IsAt}
use Rattle.index_model.specs.Valid.{IsFormed, IsValid}
use Rattle.index_model.specs.Values.{IndexValue, NodeValue, Nodes, no_nodes, directory, file, link, all_nodes, count, listed, value_in, value_of, volume_of}
use Rattle.index_model.proofs.Walks.{all_at}
use Rattle.index_read.proofs.Formed.{AreFacts, AreFormed, IsFormedVolume, all_count, all_xattrs, contents_formed, root_named, volume_formed}
use Rattle.index_read.proofs.Listed.{listed_in_order, listed_length}
use Rattle.index_read.proofs.Ranged.{all_ranged, inside_ranged}

-- ---- each node of the list

abbrev AreXattrs : List Xattr → Type 0
AreXattrs xattrs = AllByRecursion IsXattr xattrs

record IsFormedNode (n : NodeValue) : Type 0 where
  facts : AreFacts n.facts
  kind : IsKind n.kind

both_all : {X : Type 0} (P : X → Type 0) (xs ys : List X) → AllByRecursion P xs → AllByRecursion P ys → AllByRecursion P (xs ++ ys)
both_all P [] ys h k = k
both_all P (x ∷ xs) ys h k = (h.0, both_all P xs ys h.1 k)

listed_formed : (parent at : ℕ) (tree : Nodes) → AreFormed tree → AllByRecursion IsFormedNode (listed parent at tree)
listed_formed parent at no_nodes h = tt
listed_formed parent at (directory f inside behind) h =
    (record { facts = h.0; kind = tt }, both_all IsFormedNode (listed at (at + 1) inside) (listed parent (at + 1 + count inside) behind) (listed_formed at (at + 1) inside h.1) (listed_formed parent (at + 1 + count inside) behind h.2))
listed_formed parent at (file f bytes extents behind) h = (record { facts = h.0; kind = h.1 }, listed_formed parent (at + 1) behind h.2)
listed_formed parent at (link f text behind) h = (record { facts = h.0; kind = h.1 }, listed_formed parent (at + 1) behind h.2)

from_mapped : {X Y : Type 0} (P : Y → Type 0) (f : X → Y) (xs : List X) → AllByRecursion P (map f xs) → AllByRecursion (λ (x : X). P (f x)) xs
from_mapped P f [] h = tt
from_mapped P f (x ∷ xs) h = (h.0, from_mapped P f xs h.1)

kinds_of : (nodes : List Node) → AllByRecursion (λ (n : Node). IsFormedNode (value_of n)) nodes → AllByRecursion (λ (n : Node). IsKind n.kind) nodes
kinds_of [] h = tt
kinds_of (node ∷ nodes) h = (h.0.kind, kinds_of nodes h.1)

xattrs_of : (nodes : List Node) → AllByRecursion (λ (n : Node). IsFormedNode (value_of n)) nodes → AllByRecursion (λ (n : Node). AreXattrs n.xattrs) nodes
xattrs_of [] h = tt
xattrs_of (node ∷ nodes) h = (h.0.facts.xattrs, xattrs_of nodes h.1)

names_of : (root : Node) (others : List Node) → IsVolumeName root.name → AllByRecursion (λ (n : Node). IsFormedNode (value_of n)) others → AreNames (root ∷ others)
names_of root others name h = record {
  volume = λ node is. subst (λ (n : Node). IsVolumeName n.name) (same_Some root node is) name;
  others = λ at node behind is. behind_root at node behind is;
}
  where
    behind_root : (at : ℕ) (node : Node) → 0 < at → IsAt (root ∷ others) at node → IsNodeName node.name
    behind_root zero node behind is = absurd (omega (arith, behind))
    behind_root (suc at) node behind is = (all_at (λ (n : Node). IsFormedNode (value_of n)) others h at node is).facts.name

-- what is seen of each node of an index by itself
record AreFormedNodes (nodes : List Node) : Type 0 where
  names : AreNames nodes
  xattrs : AllByRecursion (λ (n : Node). AreXattrs n.xattrs) nodes
  kinds : AllByRecursion (λ (n : Node). IsKind n.kind) nodes

nodes_formed : (nodes : List Node) (v : IndexValue) → map value_of nodes ≡ all_nodes v → IsVolumeName v.root.name → AreXattrs v.root.xattrs → AreFormed v.inside → AreFormedNodes nodes
nodes_formed [] v e name xattrs formed = absurd (let bad : [] ≡ all_nodes v = e in cc)
nodes_formed (root ∷ others) v e name xattrs formed =
    let first : value_of root ≡ value_in 0 v.root kinds.Dir = cc (e) in
    let rest : map value_of others ≡ listed 0 1 v.inside = cc (e) in
    let all = from_mapped IsFormedNode value_of others (subst (AllByRecursion IsFormedNode) (sym rest) (listed_formed 0 1 v.inside formed)) in
    let named : IsVolumeName root.name = subst (λ (n : NodeValue). IsVolumeName n.facts.name) (sym first) name in
    let marked : AreXattrs root.xattrs = subst (λ (n : NodeValue). AreXattrs n.facts.xattrs) (sym first) xattrs in
    let kind : IsKind root.kind = subst (λ (n : NodeValue). IsKind n.kind) (sym first) tt in
    record { names = names_of root others named all; xattrs = (marked, xattrs_of others all); kinds = (kind, kinds_of others all) }

-- ---- the whole index

-- the index of a text is valid
pub index_valid : (text : List ℕ) (index : Index) → IndexText text index → IsValid index
index_valid text index h =
    let v = h.value in
    let s = h.spells in
    let ranged = all_ranged text place.Index [] s.spelled.inside s.items s.spelled.end s.spelled.children in
    let rooted = inside_ranged place.Index s.items place.Root s.root_items ranged s.root in
    let volume : IsFormedVolume (volume_of index) = subst IsFormedVolume (sym h.tells.volume) (volume_formed s.items v.volume ranged s.volume) in
    let nodes = nodes_formed index.nodes v h.tells.nodes (root_named s.root_items v.root rooted s.facts) (all_xattrs place.Root s.root_items v.root rooted s.facts) (contents_formed place.Root s.root_items v.inside rooted s.contents) in
    let formed : IsFormed index = record {
      volume = record {
        creator = volume.creator;
        comment = volume.comment;
        uuid = volume.uuid;
        generation_least = volume.generation.0;
        generation_most = volume.generation.1;
        here = volume.here;
        back = volume.back;
        policy = volume.policy;
      };
      count = omega (arith, listed_length index.nodes v h.tells.nodes, all_count s.items s.root_items v.inside s.root s.contents, s.few);
      order = listed_in_order index.nodes v h.tells.nodes;
      names = nodes.names;
      xattrs = nodes.xattrs;
      kinds = nodes.kinds;
    } in
    record { formed = formed; agrees = h.agrees }
