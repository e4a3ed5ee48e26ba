-- What elements tell is in its ranges: the facts of the volume, and each node.
use Rattle.std.proofs.Common.{◌≡◌, ◌⊎◌, inl, inr, ℕ, ◌+◌, ◌<◌, ◌≤◌, ◌^◌, List, ◌∷◌, Option, Some, None, IfSome, IsUtf8, refl, sym, ap, subst, arith}
use Rattle.std.specs.Prelude.{⊤}
use Rattle.std.specs.List.{AllByRecursion}
use Rattle.std.specs.Option.{option_map}
use Rattle.tape_types.specs.declared.node_keys.xattrs.Xattr.{Xattr}
use Rattle.ltfs_documents.specs.declared.doc_fields.tags.Tag.TheVariants.{Creator, Comment, VolumeUuid, GenerationNumber, Partition, StartBlock, Size, Name, Symlink, FileOffset, ByteOffset, ByteCount, Key, Value}
use Rattle.index_model.specs.declared.indexes.Policy.{Policy}
use Rattle.index_model.specs.declared.indexes.Spot.{Spot}
use Rattle.index_model.specs.declared.nodes.RawExtent.{RawExtent}
use Rattle.ltfs_documents.specs.declared.doc_elements.schema.Container.{Container}
use Rattle.ltfs_documents.specs.declared.doc_elements.schema.Container.TheVariants as place
use Rattle.ltfs_documents.specs.declared.doc_elements.schema.Form.TheVariants as form
use Rattle.ltfs_documents.specs.declared.doc_elements.schema.Child.TheVariants as child
use Rattle.index_model.specs.Extents.{IsExtent}
use Rattle.ltfs_documents.specs.DocElements.Elements.{Item, plain, bare, nested, Items, no_items, item, nodes_of, node_count}
use Rattle.index_model.specs.Grammar.{told, inside, own_children, or_else, TellsMaybe, TellsSpot, TellsPolicy, TellsVolume, TellsFacts, TellsExtent, TellsExtents, HasExtents, TellsXattr, TellsXattrs, HasXattrs, TellsFile, TellsLink, TellsNodes, TellsContents}
use Rattle.index_model.specs.Keys.{IsXattr}
use Rattle.index_model.specs.Names.{IsNodeName, IsVolumeName}
use Rattle.ltfs_documents.specs.DocElements.Pieces.{words, uuid, letter, number}
use Rattle.ltfs_documents.specs.DocElements.Pieces as val
use Rattle.ltfs_documents.specs.DocElements.Schema.{rule}
use Rattle.index_model.specs.Texts.{IsPlainText}
use Rattle.index_model.specs.Valid.{IsPolicy, IsSpot}
use Rattle.index_model.specs.Values.{NodeFacts, Nodes, no_nodes, directory, file, link, VolumeFacts, count}
use Rattle.index_read.proofs.Ranged.{AreRanged, told_range, inside_ranged, names_ranged}

-- ---- the volume

-- what is seen of each fact of a volume by itself
pub record IsFormedVolume (v : VolumeFacts) : Type 0 where
  pub creator : IsPlainText v.creator
  pub comment : IfSome v.comment IsPlainText
  pub uuid : v.uuid < 2 ^ 128
  pub generation : (1 ≤ v.generation) × (v.generation ≤ 2 ^ 62)
  pub here : IsSpot v.here
  pub back : IfSome v.back IsSpot
  pub policy : IfSome v.policy IsPolicy

comment_formed : (is : Items) (o : Option (List ℕ)) → AreRanged place.Index is → told Comment is ≡ option_map words o → IfSome o IsPlainText
comment_formed is None ranged e = tt
comment_formed is (Some t) ranged e = told_range place.Index is Comment form.Text (words t) ranged refl e

spot_formed : (q : Container) → rule q Partition ≡ child.Leaf form.Letter → rule q StartBlock ≡ child.Leaf form.Bounded → (is : Items) (s : Spot) → AreRanged q is → TellsSpot is s → IsSpot s
spot_formed q letters blocks is s ranged t = record {
  letter = told_range q is Partition form.Letter (letter s.letter) ranged letters t.letter;
  block = told_range q is StartBlock form.Bounded (number s.block) ranged blocks t.block;
}

policy_formed : (is : Items) (p : Policy) → AreRanged place.Policy is → TellsPolicy is p → IsPolicy p
policy_formed is p ranged t =
    let inner = inside_ranged place.Policy is place.Criteria t.criteria ranged t.are in
    record {
      size = told_range place.Criteria t.criteria Size form.Bounded (number p.size) inner refl t.size;
      names = subst (AllByRecursion IsUtf8) t.names (names_ranged t.criteria inner);
    }

-- what is told of a parent's children holds of what the parent stands for, where it is there
maybe_formed : {X : Type 0} (R : Items → X → Type 0) (P : X → Type 0) (p q : Container) (is : Items) (x : Option X) → ((js : Items) (y : X) → AreRanged q js → R js y → P y) → AreRanged p is → TellsMaybe R (inside q is) x → IfSome x P
maybe_formed {X = X} R P p q is x formed ranged t = by (inside q is) refl x t
  where
    by : (o : Option Items) → inside q is ≡ o → (x : Option X) → TellsMaybe R o x → IfSome x P
    by o e None h = tt
    by None e (Some y) h = absurd h
    by (Some js) e (Some y) h = formed js y (inside_ranged p is q js ranged e) h

-- the facts that are told of a volume are in their ranges
pub volume_formed : (is : Items) (v : VolumeFacts) → AreRanged place.Index is → TellsVolume is v → IsFormedVolume v
volume_formed is v ranged t =
    let p = place.Index in
    record {
      creator = told_range p is Creator form.Text (words v.creator) ranged refl t.creator;
      comment = comment_formed is v.comment ranged t.comment;
      uuid = told_range p is VolumeUuid form.Uuid (uuid v.uuid) ranged refl t.uuid;
      generation = told_range p is GenerationNumber form.Generation (number v.generation) ranged refl t.generation;
      here = maybe_formed TellsSpot IsSpot p place.Here is (Some v.here) (spot_formed place.Here refl refl) ranged t.here;
      back = maybe_formed TellsSpot IsSpot p place.Back is v.back (spot_formed place.Back refl refl) ranged t.back;
      policy = maybe_formed TellsPolicy IsPolicy p place.Policy is v.policy policy_formed ranged t.policy;
    }

-- ---- extents

extent_formed : (is : Items) (e : RawExtent) → AreRanged place.Extent is → TellsExtent is e → IsExtent e
extent_formed is e ranged t =
    let p = place.Extent in
    record {
      offset = told_range p is FileOffset form.Bounded (number e.offset) ranged refl t.offset;
      letter = told_range p is Partition form.Letter (letter e.letter) ranged refl t.letter;
      block = told_range p is StartBlock form.Bounded (number e.block) ranged refl t.block;
      byte = told_range p is ByteOffset form.Bounded (number e.byte) ranged refl t.byte;
      count = told_range p is ByteCount form.Bounded (number e.count) ranged refl t.count;
    }

extents_formed : (is : Items) (es : List RawExtent) → AreRanged place.ExtentInfo is → TellsExtents is es → AllByRecursion IsExtent es
extents_formed no_items es ranged t = subst (AllByRecursion IsExtent) (sym t) tt
extents_formed (item (plain u v) is) es ranged t = extents_formed is es ranged.1 t
extents_formed (item (bare q) is) es ranged t = extents_formed is es ranged.1 t
extents_formed (item (nested place.Extent x) is) es ranged t =
    let all : AllByRecursion IsExtent (t.0 ∷ t.1) = (extent_formed x t.0 ranged.0 t.3, extents_formed is t.1 ranged.1 t.4) in
    subst (AllByRecursion IsExtent) (sym t.2) all
extents_formed (item (nested _ x) is) es ranged t = extents_formed is es ranged.1 t

has_formed : (is : Items) (es : List RawExtent) → AreRanged place.File is → HasExtents (inside place.ExtentInfo is) es → AllByRecursion IsExtent es
has_formed is es ranged t = by (inside place.ExtentInfo is) refl t
  where
    by : (o : Option Items) → inside place.ExtentInfo is ≡ o → HasExtents o es → AllByRecursion IsExtent es
    by None e h = subst (AllByRecursion IsExtent) (sym h) tt
    by (Some js) e h = extents_formed js es (inside_ranged place.File is place.ExtentInfo js ranged e) h

-- ---- extended attributes

xattr_formed : (is : Items) (x : Xattr) → AreRanged place.Xattr is → TellsXattr is x → IsXattr x
xattr_formed is x ranged t =
    let key = told_range place.Xattr is Key form.Key (words x.key) ranged refl t.key in
    record { utf8 = key.0; key = key.1; bytes = told_range place.Xattr is Value form.Value (val.bytes x.value) ranged refl t.value }

xattrs_formed : (is : Items) (xs : List Xattr) → AreRanged place.Attributes is → TellsXattrs is xs → AllByRecursion IsXattr xs
xattrs_formed no_items xs ranged t = subst (AllByRecursion IsXattr) (sym t) tt
xattrs_formed (item (plain u v) is) xs ranged t = xattrs_formed is xs ranged.1 t
xattrs_formed (item (bare q) is) xs ranged t = xattrs_formed is xs ranged.1 t
xattrs_formed (item (nested place.Xattr x) is) xs ranged t =
    let all : AllByRecursion IsXattr (t.0 ∷ t.1) = (xattr_formed x t.0 ranged.0 t.3, xattrs_formed is t.1 ranged.1 t.4) in
    subst (AllByRecursion IsXattr) (sym t.2) all
xattrs_formed (item (nested _ x) is) xs ranged t = xattrs_formed is xs ranged.1 t

-- the extended attributes that are told of a node are proper ones
pub all_xattrs : (p : Container) (is : Items) (f : NodeFacts) → AreRanged p is → TellsFacts is f → AllByRecursion IsXattr f.xattrs
all_xattrs p is f ranged t = by (inside place.Attributes is) refl t.xattrs
  where
    by : (o : Option Items) → inside place.Attributes is ≡ o → HasXattrs o f.xattrs → AllByRecursion IsXattr f.xattrs
    by None e h = subst (AllByRecursion IsXattr) (sym h) tt
    by (Some js) e h = xattrs_formed js f.xattrs (inside_ranged p is place.Attributes js ranged e) h

-- ---- nodes

-- what is seen of the facts of each node but the root by themselves
pub record AreFacts (f : NodeFacts) : Type 0 where
  pub name : IsNodeName f.name
  pub xattrs : AllByRecursion IsXattr f.xattrs

-- what is seen of each node by itself
abbrev pub AreFormed : Nodes → Type 0
AreFormed no_nodes = ⊤
AreFormed (directory f inside behind) = AreFacts f × AreFormed inside × AreFormed behind
AreFormed (file f bytes extents behind) = AreFacts f × AllByRecursion IsExtent extents × AreFormed behind
AreFormed (link f text behind) = AreFacts f × IsUtf8 text × AreFormed behind

-- the name that is told of the root may be a volume's
pub root_named : (is : Items) (f : NodeFacts) → AreRanged place.Root is → TellsFacts is f → IsVolumeName f.name
root_named is f ranged t = told_range place.Root is Name form.VolumeName (words f.name) ranged refl t.name

directory_facts : (is : Items) (f : NodeFacts) → AreRanged place.Directory is → TellsFacts is f → AreFacts f
directory_facts is f ranged t = record { name = told_range place.Directory is Name form.NodeName (words f.name) ranged refl t.name; xattrs = all_xattrs place.Directory is f ranged t }

file_facts : (is : Items) (f : NodeFacts) → AreRanged place.File is → TellsFacts is f → AreFacts f
file_facts is f ranged t = record { name = told_range place.File is Name form.NodeName (words f.name) ranged refl t.name; xattrs = all_xattrs place.File is f ranged t }

file_formed : (is : Items) (nodes behind : Nodes) → AreRanged place.File is → TellsFile is nodes behind ⊎ TellsLink is nodes behind → AreFormed behind → AreFormed nodes
file_formed is nodes behind ranged (inl t) rest =
    let one : AreFormed (file t.facts t.bytes t.extents behind) = (file_facts is t.facts ranged t.tells, has_formed is t.extents ranged t.has, rest) in
    subst AreFormed (sym t.node) one
file_formed is nodes behind ranged (inr t) rest =
    let one : AreFormed (link t.facts t.text behind) = (file_facts is t.facts ranged t.tells, told_range place.File is Symlink form.AnyName (words t.text) ranged refl t.told_text, rest) in
    subst AreFormed (sym t.node) one

mutual
  nodes_formed : (is : Items) (nodes : Nodes) → AreRanged place.Contents is → TellsNodes is nodes → AreFormed nodes
  nodes_formed no_items nodes ranged t = subst AreFormed (sym t) tt
  nodes_formed (item (plain u v) is) nodes ranged t = nodes_formed is nodes ranged.1 t
  nodes_formed (item (bare q) is) nodes ranged t = nodes_formed is nodes ranged.1 t
  nodes_formed (item (nested place.Directory x) is) nodes ranged t =
      let one : AreFormed (directory t.0 t.1 t.2) = (directory_facts x t.0 ranged.0 t.4, contents_formed place.Directory x t.1 ranged.0 t.5, nodes_formed is t.2 ranged.1 t.6) in
      subst AreFormed (sym t.3) one
  nodes_formed (item (nested place.File x) is) nodes ranged t = file_formed x nodes t.0 ranged.0 t.1 (nodes_formed is t.0 ranged.1 t.2)
  nodes_formed (item (nested _ x) is) nodes ranged t = nodes_formed is nodes ranged.1 t

  pub contents_formed : (p : Container) (is : Items) (nodes : Nodes) → AreRanged p is → TellsContents is nodes → AreFormed nodes
  contents_formed p no_items nodes ranged t = subst AreFormed (sym t) tt
  contents_formed p (item (plain u v) is) nodes ranged t = contents_formed p is nodes ranged.1 t
  contents_formed p (item (bare q) is) nodes ranged t = contents_formed p is nodes ranged.1 t
  contents_formed p (item (nested place.Contents x) is) nodes ranged t = nodes_formed x nodes ranged.0 t
  contents_formed p (item (nested _ x) is) nodes ranged t = contents_formed p is nodes ranged.1 t

-- ---- how many nodes are told

file_counts : (is more : Items) (nodes behind : Nodes) → TellsFile is nodes behind ⊎ TellsLink is nodes behind → count behind ≤ node_count more → count nodes ≤ 1 + node_count is + node_count more
file_counts is more nodes behind (inl t) h = omega (arith, ap count t.node, h)
file_counts is more nodes behind (inr t) h = omega (arith, ap count t.node, h)

mutual
  nodes_count : (is : Items) (nodes : Nodes) → TellsNodes is nodes → count nodes ≤ node_count is
  nodes_count no_items nodes t = omega (arith, ap count t)
  nodes_count (item (plain u v) is) nodes t = omega (arith, nodes_count is nodes t)
  nodes_count (item (bare q) is) nodes t = omega (arith, nodes_count is nodes t)
  nodes_count (item (nested place.Directory x) is) nodes t = omega (arith, ap count t.3, contents_count x t.1 t.5, nodes_count is t.2 t.6)
  nodes_count (item (nested place.File x) is) nodes t = file_counts x is nodes t.0 t.1 (nodes_count is t.0 t.2)
  nodes_count (item (nested _ x) is) nodes t = omega (arith, nodes_count is nodes t)

  contents_count : (is : Items) (nodes : Nodes) → TellsContents is nodes → count nodes ≤ node_count is
  contents_count no_items nodes t = omega (arith, ap count t)
  contents_count (item (plain u v) is) nodes t = omega (arith, contents_count is nodes t)
  contents_count (item (bare q) is) nodes t = omega (arith, contents_count is nodes t)
  contents_count (item (nested place.Contents x) is) nodes t = omega (arith, nodes_count x nodes t)
  contents_count (item (nested _ x) is) nodes t = omega (arith, contents_count is nodes t)

-- the root counts with what is in it
root_count : (is : Items) (x : Items) → inside place.Root is ≡ Some x → 1 + node_count x ≤ node_count is
root_count no_items x e = absurd cc
root_count (item i is) x e = by (inside place.Root is) refl (λ y. root_count is y) e
  where
    now : (i : Item) → own_children place.Root i ≡ Some x → 1 + node_count x ≤ nodes_of i
    now (plain t v) o = absurd cc
    now (bare place.Root) o = let same : no_items ≡ x = cc (o) in omega (arith, ap node_count same)
    now (bare _) o = absurd cc
    now (nested place.Root y) o = let same : y ≡ x = cc (o) in omega (arith, ap node_count same)
    now (nested _ y) o = absurd cc

    by : (o : Option Items) → inside place.Root is ≡ o → ((y : Items) → inside place.Root is ≡ Some y → 1 + node_count y ≤ node_count is) → or_else o (own_children place.Root i) ≡ Some x → 1 + node_count x ≤ nodes_of i + node_count is
    by None h later o = omega (arith, now i o)
    by (Some y) h later o = let same : y ≡ x = cc (o) in omega (arith, ap node_count same, later y h)

-- the nodes that are told are no more than the node elements
pub all_count : (is : Items) (x : Items) (nodes : Nodes) → inside place.Root is ≡ Some x → TellsContents x nodes → 1 + count nodes ≤ node_count is
all_count is x nodes e t = omega (arith, root_count is x e, contents_count x nodes t)
