-- The document that is written of a valid index is that index's.
use Rattle.std.proofs.Common.{◌≡◌, ℕ, suc, ◌+◌, ◌≤◌, ◌<◌, ◌^◌, List, [], ◌∷◌, ◌++◌, length, map, IsUtf8, refl, sym, ap, subst, ◌∙◌, arith}
use Rattle.std.specs.Prelude.{⊤}
use Rattle.std.specs.List.{AllByRecursion}
use Rattle.std.proofs.lemmas.List.{length-map}
use Rattle.tape_types.specs.Bounds.{most_nodes}
use Rattle.ltfs_documents.specs.declared.doc_fields.tags.Tag.TheVariants.{LtfsIndex}
use Rattle.ltfs_documents.specs.DocFields.Tags.{spelled}
use Rattle.index_model.specs.declared.indexes.Index.{Index}
use Rattle.index_model.specs.declared.nodes.NodeKind.{NodeKind}
use Rattle.index_model.specs.declared.nodes.NodeKind.TheVariants as kinds
use Rattle.index_model.specs.declared.nodes.Node.{Node}
use Rattle.ltfs_documents.specs.declared.doc_elements.schema.Container.TheVariants as place
use Rattle.index_model.specs.Canonical.{canonical}
use Rattle.ltfs_documents.proofs.DocElements.Written.{framed, inner, written_document}
use Rattle.index_model.specs.Extents.{AreFiles, IsExtent, IsKind}
use Rattle.index_model.specs.Grammar.{IndexText, Spells}
use Rattle.index_model.specs.Keys.{IsXattr}
use Rattle.index_model.specs.Names.{IsNodeName, IsVolumeName}
use Rattle.index_model.specs.Places.{IsAt}
use Rattle.index_model.specs.Valid.{IsValid}
use Rattle.index_model.specs.Values.{NodeFacts, Nodes, no_nodes, directory, file, link, NodeValue, value_in, IndexValue, count, listed, all_nodes, facts_of, value_of, volume_of, Tells}
use Rattle.index_model.proofs.Walks.{all_at}
use Rattle.index_read.specs.Links.{AreLinksShort, IsShortLink}
use Rattle.ltfs_documents.proofs.DocElements.WrittenAgain.{all_again, all_valid}
use Rattle.index_read.proofs.WrittenGood.{all_good, all_stand, GoodFacts, GoodIndex, GoodNodes, GoodVolume}
use Rattle.ltfs_documents.proofs.DocElements.WrittenItems.{texts_of}
use Rattle.index_read.proofs.WrittenItems.{directory_items, items_of, nodes_items}
use Rattle.index_read.proofs.WrittenTells.{all_count, contents_tell, directory_tells, root_told, volume_tells}
use Rattle.index_read.proofs.WrittenTexts.{canonical_is}

-- ---- lists

each_is : {X : Type 0} (P : X → Type 0) (xs : List X) → ((at : ℕ) (x : X) → IsAt xs at x → P x) → AllByRecursion P xs
each_is P [] h = tt
each_is P (x ∷ xs) h = (h 0 x refl, each_is P xs (λ at y is. h (suc at) y is))

all_mapped : {X Y : Type 0} (P : Y → Type 0) (f : X → Y) (xs : List X) → AllByRecursion (λ (x : X). P (f x)) xs → AllByRecursion P (map f xs)
all_mapped P f [] h = tt
all_mapped P f (x ∷ xs) h = (h.0, all_mapped P f xs h.1)

all_split : {X : Type 0} (P : X → Type 0) (xs ys : List X) → AllByRecursion P (xs ++ ys) → AllByRecursion P xs × AllByRecursion P ys
all_split P [] ys h = (tt, h)
all_split P (x ∷ xs) ys h = let rest = all_split P xs ys h.1 in ((h.0, rest.0), rest.1)

-- ---- what a valid index tells can be told in a document

abbrev GoodKind : NodeKind → Type 0
GoodKind kinds.Dir = ⊤
GoodKind (kinds.File bytes extents) = (bytes < 2 ^ 64) × AllByRecursion IsExtent extents
GoodKind (kinds.Link text) = IsUtf8 text × (length text < 2 ^ 64)

record GoodValue (n : NodeValue) : Type 0 where
  facts : GoodFacts n.facts
  name : IsNodeName n.facts.name
  kind : GoodKind n.kind

nodes_from : (parent at : ℕ) (nodes : Nodes) → AllByRecursion GoodValue (listed parent at nodes) → GoodNodes nodes
nodes_from parent at no_nodes h = tt
nodes_from parent at (directory f inside behind) h =
    let parts = all_split GoodValue (listed at (at + 1) inside) (listed parent (at + 1 + count inside) behind) h.1 in
    (h.0.facts, h.0.name, nodes_from at (at + 1) inside parts.0, nodes_from parent (at + 1 + count inside) behind parts.1)
nodes_from parent at (file f bytes extents behind) h = let kind = h.0.kind in (h.0.facts, h.0.name, kind.0, kind.1, nodes_from parent (at + 1) behind h.1)
nodes_from parent at (link f text behind) h = let kind = h.0.kind in (h.0.facts, h.0.name, kind.0, kind.1, nodes_from parent (at + 1) behind h.1)

facts_good : (highest : ℕ) (node : Node) → highest ≤ 2 ^ 62 → node.uid ≤ highest → AllByRecursion IsXattr node.xattrs → GoodFacts (facts_of node)
facts_good highest node bounded most xattrs = record {
  uid = omega arith;
  xattrs = xattrs;
  times = record { create = (node.times.create, refl); change = (node.times.change, refl); modify = (node.times.modify, refl); access = (node.times.access, refl); backup = (node.times.backup, refl) };
}

kind_good : (nodes : List Node) (at : ℕ) (node : Node) (kind : NodeKind) → AreFiles nodes → IsAt nodes at node → node.kind ≡ kind → IsKind kind → IsShortLink kind → GoodKind kind
kind_good nodes at node kinds.Dir files is e k short = tt
kind_good nodes at node (kinds.File bytes extents) files is e k short =
    let most = files.size at bytes extents record { node = node; is = is; file = e } in
    (omega arith, k)
kind_good nodes at node (kinds.Link text) files is e k short = (k, short)

xattrs_at : (index : Index) → IsValid index → (at : ℕ) (node : Node) → IsAt index.nodes at node → AllByRecursion IsXattr node.xattrs
xattrs_at index valid at node is = all_at (λ (n : Node). AllByRecursion IsXattr n.xattrs) index.nodes valid.formed.xattrs at node is

node_good : (index : Index) → IsValid index → AreLinksShort index.nodes → (at : ℕ) (node : Node) → 0 < at → IsAt index.nodes at node → GoodValue (value_of node)
node_good index valid short at node behind is =
    let uids = valid.agrees.uids in
    record {
      facts = facts_good index.highest node uids.bounded (uids.most at node is) (xattrs_at index valid at node is);
      name = valid.formed.names.others at node behind is;
      kind = kind_good index.nodes at node node.kind valid.agrees.files is refl (all_at (λ (n : Node). IsKind n.kind) index.nodes valid.formed.kinds at node is) (all_at (λ (n : Node). IsShortLink n.kind) index.nodes short at node is);
    }

volume_good : (index : Index) → IsValid index → GoodVolume (volume_of index)
volume_good index valid =
    let volume = valid.formed.volume in
    record {
      creator = volume.creator;
      comment = volume.comment;
      uuid = volume.uuid;
      generation_least = volume.generation_least;
      generation_most = volume.generation_most;
      updated = (index.updated, refl);
      here = volume.here;
      back = volume.back;
      policy = volume.policy;
      highest = (let bounded = valid.agrees.uids.bounded in omega arith);
    }

by_nodes : (index : Index) (v : IndexValue) → IsValid index → AreLinksShort index.nodes → volume_of index ≡ v.volume → (nodes : List Node) → index.nodes ≡ nodes → map value_of nodes ≡ all_nodes v → GoodIndex v
by_nodes index v valid short volume [] same e = absurd (let bad : [] ≡ all_nodes v = e in cc)
by_nodes index v valid short volume (root ∷ others) same e =
    let first : value_of root ≡ value_in 0 v.root kinds.Dir = cc (e) in
    let rest : map value_of others ≡ listed 0 1 v.inside = cc (e) in
    let facts : facts_of root ≡ v.root = ap (λ (n : NodeValue). n.facts) first in
    let is : IsAt index.nodes 0 root = subst (λ (ns : List Node). IsAt ns 0 root) (sym same) refl in
    let uids = valid.agrees.uids in
    let good = facts_good index.highest root uids.bounded (uids.most 0 root is) (xattrs_at index valid 0 root is) in
    let name = valid.formed.names.volume root is in
    let behind = each_is (λ (n : Node). GoodValue (value_of n)) others (λ at node there. node_good index valid short (suc at) node (omega arith) (subst (λ (ns : List Node). IsAt ns (suc at) node) (sym same) there)) in
    record {
      volume = subst GoodVolume volume (volume_good index valid);
      root = subst GoodFacts facts good;
      name = subst (λ (f : NodeFacts). IsVolumeName f.name) facts name;
      inside = nodes_from 0 1 v.inside (subst (AllByRecursion GoodValue) rest (all_mapped GoodValue value_of others behind));
    }

-- ---- the document

spelled_by : (text : List ℕ) (v : IndexValue) → text ≡ framed place.Index (texts_of (items_of v)) → GoodIndex v → length (all_nodes v) ≤ most_nodes → Spells text v
spelled_by text v is good few =
    let body = texts_of (items_of v) in
    let items = all_good v good in
    record {
      items = items_of v;
      spelled = written_document place.Index text body (items_of v) refl is (all_valid place.Index (items_of v) items)
          (λ inside. all_again text place.Index [] (inner place.Index) (items_of v) (47 ∷ (spelled LtfsIndex ++ 62 ∷ [])) (all_stand v) items inside);
      volume = volume_tells v.volume (directory_items v.root (nodes_items v.inside));
      root_items = directory_items v.root (nodes_items v.inside);
      root = root_told v.volume (directory_items v.root (nodes_items v.inside));
      facts = directory_tells v.root (nodes_items v.inside);
      contents = contents_tell v.root v.inside;
      few = all_count v few;
    }

-- the document of a valid index with short links is that index's text
pub document_back : (index : Index) (v : IndexValue) → IsValid index → Tells index v → AreLinksShort index.nodes → IndexText (canonical v) index
document_back index v valid tells short =
    let count = valid.formed.count in
    let same : length (all_nodes v) ≡ length index.nodes = ap length (sym tells.nodes) ∙ length-map index.nodes value_of in
    let few : length (all_nodes v) ≤ most_nodes = omega arith in
    record {
      value = v;
      spells = spelled_by (canonical v) v (canonical_is v) (by_nodes index v valid short tells.volume index.nodes refl tells.nodes) few;
      tells = tells;
      agrees = valid.agrees;
    }
