-- The elements of an index that are written tell that index.
use Rattle.std.proofs.Common.{◌≡◌, ℕ, ◌+◌, ◌≤◌, List, [], ◌∷◌, length, Option, Some, None, inl, inr, refl, ap, arith, length-append}
use Rattle.std.specs.Option.{option_map}
use Rattle.tape_types.specs.Bounds.{most_nodes}
use Rattle.ltfs_documents.specs.declared.doc_fields.tags.Tag.TheVariants.{Creator, Comment, VolumeUuid, GenerationNumber, UpdateTime, AllowPolicyUpdate, Size, VolumeLockState, HighestFileUid, Symlink}
use Rattle.ltfs_documents.specs.declared.doc_fields.values.LockState.{LockState}
use Rattle.index_model.specs.declared.indexes.Policy.{Policy}
use Rattle.index_model.specs.declared.indexes.Spot.{Spot}
use Rattle.index_model.specs.declared.nodes.RawExtent.{RawExtent}
use Rattle.tape_types.specs.declared.node_keys.xattrs.Xattr.{Xattr}
use Rattle.ltfs_documents.specs.declared.doc_elements.schema.Container.TheVariants as place
use Rattle.index_model.specs.Grammar.{inside, names_in, told, TellsContents, TellsExtents, TellsFacts, TellsFile, TellsLink, TellsXattrs, TellsMaybe, TellsNodes, TellsPolicy, TellsSpot, TellsVolume}
use Rattle.ltfs_documents.specs.DocElements.Elements.{Item, Items, item, nested, no_items, node_count, nodes_of, plain}
use Rattle.ltfs_documents.specs.DocElements.Pieces.{words, time, uuid, number, truth, lock}
use Rattle.index_model.specs.Values.{NodeFacts, Nodes, no_nodes, directory, file, link, VolumeFacts, IndexValue, count, listed, all_nodes}
use Rattle.index_read.proofs.WrittenItems.{attributes_items, back_item, comment_item, directory_items, either_way, extents_items, file_items, index_items, items_of, lock_item, maybe, name_items, nodes_items, policy_item, spot_items, xattrs_items}

-- ---- the volume

spot_tells : (s : Spot) → TellsSpot (spot_items s) s
spot_tells s = record { letter = refl; block = refl }

no_size : (names : List (List ℕ)) → told Size (name_items names) ≡ None
no_size [] = refl
no_size (n ∷ names) = rw (no_size names) refl

names_are : (names : List (List ℕ)) → names_in (name_items names) ≡ names
names_are [] = refl
names_are (n ∷ names) = ap (λ (x : List (List ℕ)). n ∷ x) (names_are names)

policy_tells : (p : Policy) → TellsPolicy (item (nested place.Criteria (item (plain Size (number p.size)) (name_items p.names))) no_items) p
policy_tells p = record {
  criteria = item (plain Size (number p.size)) (name_items p.names);
  are = refl;
  size = rw (no_size p.names) refl;
  names = names_are p.names;
}

-- what is told of a volume in which each element may be left out that may
module _ (v : VolumeFacts) (root : Items) where
  abbrev ToldBy : Items → VolumeFacts → Type 0
  ToldBy is w =
      (told Creator is ≡ Some (words w.creator))
      × (told Comment is ≡ option_map words w.comment)
      × (told VolumeUuid is ≡ Some (uuid w.uuid))
      × (told GenerationNumber is ≡ Some (number w.generation))
      × (told UpdateTime is ≡ Some (time w.updated))
      × TellsMaybe TellsSpot (inside place.Here is) (Some w.here)
      × TellsMaybe TellsSpot (inside place.Back is) w.back
      × (told AllowPolicyUpdate is ≡ Some (truth w.allow))
      × TellsMaybe TellsPolicy (inside place.Policy is) w.policy
      × (told VolumeLockState is ≡ option_map lock w.lock)
      × (told HighestFileUid is ≡ Some (number w.highest))
      × (inside place.Root is ≡ Some root)

  abbrev ToldWith : Option (List ℕ) → Option Spot → Option Policy → Option LockState → Type 0
  ToldWith comment back policy state =
      let w = record v { comment = comment; back = back; policy = policy; lock = state } in
      ToldBy (index_items w root) w

  told_with : (comment : Option (List ℕ)) (back : Option Spot) (policy : Option Policy) (state : Option LockState) → ToldWith comment back policy state
  told_with None None None None = (refl, refl, refl, refl, refl, spot_tells v.here, tt, refl, tt, refl, refl, refl)
  told_with None None None (Some l) = (refl, refl, refl, refl, refl, spot_tells v.here, tt, refl, tt, refl, refl, refl)
  told_with None None (Some p) None = (refl, refl, refl, refl, refl, spot_tells v.here, tt, refl, policy_tells p, refl, refl, refl)
  told_with None None (Some p) (Some l) = (refl, refl, refl, refl, refl, spot_tells v.here, tt, refl, policy_tells p, refl, refl, refl)
  told_with None (Some b) None None = (refl, refl, refl, refl, refl, spot_tells v.here, spot_tells b, refl, tt, refl, refl, refl)
  told_with None (Some b) None (Some l) = (refl, refl, refl, refl, refl, spot_tells v.here, spot_tells b, refl, tt, refl, refl, refl)
  told_with None (Some b) (Some p) None = (refl, refl, refl, refl, refl, spot_tells v.here, spot_tells b, refl, policy_tells p, refl, refl, refl)
  told_with None (Some b) (Some p) (Some l) = (refl, refl, refl, refl, refl, spot_tells v.here, spot_tells b, refl, policy_tells p, refl, refl, refl)
  told_with (Some c) None None None = (refl, refl, refl, refl, refl, spot_tells v.here, tt, refl, tt, refl, refl, refl)
  told_with (Some c) None None (Some l) = (refl, refl, refl, refl, refl, spot_tells v.here, tt, refl, tt, refl, refl, refl)
  told_with (Some c) None (Some p) None = (refl, refl, refl, refl, refl, spot_tells v.here, tt, refl, policy_tells p, refl, refl, refl)
  told_with (Some c) None (Some p) (Some l) = (refl, refl, refl, refl, refl, spot_tells v.here, tt, refl, policy_tells p, refl, refl, refl)
  told_with (Some c) (Some b) None None = (refl, refl, refl, refl, refl, spot_tells v.here, spot_tells b, refl, tt, refl, refl, refl)
  told_with (Some c) (Some b) None (Some l) = (refl, refl, refl, refl, refl, spot_tells v.here, spot_tells b, refl, tt, refl, refl, refl)
  told_with (Some c) (Some b) (Some p) None = (refl, refl, refl, refl, refl, spot_tells v.here, spot_tells b, refl, policy_tells p, refl, refl, refl)
  told_with (Some c) (Some b) (Some p) (Some l) = (refl, refl, refl, refl, refl, spot_tells v.here, spot_tells b, refl, policy_tells p, refl, refl, refl)

  -- the elements written of a volume tell that volume
  pub volume_tells : TellsVolume (index_items v root) v
  volume_tells = let t = told_with v.comment v.back v.policy v.lock in record { creator = t.0; comment = t.1; uuid = t.2; generation = t.3; updated = t.4; here = t.5; back = t.6; allow = t.7; policy = t.8; lock = t.9; highest = t.10 }

  -- the root's elements are found among those that are written of an index
  pub root_told : inside place.Root (index_items v root) ≡ Some root
  root_told = (told_with v.comment v.back v.policy v.lock).11

-- ---- the nodes

xattrs_tell : (xs : List Xattr) → TellsXattrs (xattrs_items xs) xs
xattrs_tell [] = refl
xattrs_tell (x ∷ xs) = (x, xs, refl, record { key = refl; value = refl }, xattrs_tell xs)

-- the elements written of a directory tell its facts
pub directory_tells : (f : NodeFacts) (inner : Items) → TellsFacts (directory_items f inner) f
directory_tells f inner = go f.xattrs
  where
    go : (xs : List Xattr) → TellsFacts (directory_items (record f { xattrs = xs }) inner) (record f { xattrs = xs })
    go [] = record { uid = refl; name = refl; create = refl; change = refl; modify = refl; access = refl; backup = refl; readonly = refl; xattrs = refl }
    go (x ∷ xs) = record { uid = refl; name = refl; create = refl; change = refl; modify = refl; access = refl; backup = refl; readonly = refl; xattrs = xattrs_tell (x ∷ xs) }

extents_tell : (es : List RawExtent) → TellsExtents (extents_items es) es
extents_tell [] = refl
extents_tell (e ∷ es) = (e, es, refl, record { offset = refl; letter = refl; block = refl; byte = refl; count = refl }, extents_tell es)

file_tells : (f : NodeFacts) (bytes : ℕ) (extents : List RawExtent) (behind : Nodes) → TellsFile (file_items f bytes (nested place.ExtentInfo (extents_items extents))) (file f bytes extents behind) behind
file_tells f bytes extents behind = go f.xattrs
  where
    go : (xs : List Xattr) → TellsFile (file_items (record f { xattrs = xs }) bytes (nested place.ExtentInfo (extents_items extents))) (file (record f { xattrs = xs }) bytes extents behind) behind
    go [] = record {
      facts = record f { xattrs = [] };
      bytes = bytes;
      extents = extents;
      node = refl;
      tells = record { uid = refl; name = refl; create = refl; change = refl; modify = refl; access = refl; backup = refl; readonly = refl; xattrs = refl };
      no_text = refl;
      length = refl;
      has = extents_tell extents;
    }
    go (x ∷ xs) = record {
      facts = record f { xattrs = x ∷ xs };
      bytes = bytes;
      extents = extents;
      node = refl;
      tells = record { uid = refl; name = refl; create = refl; change = refl; modify = refl; access = refl; backup = refl; readonly = refl; xattrs = xattrs_tell (x ∷ xs) };
      no_text = refl;
      length = refl;
      has = extents_tell extents;
    }

link_tells : (f : NodeFacts) (bytes : ℕ) (text : List ℕ) (behind : Nodes) → TellsLink (file_items f bytes (plain Symlink (words text))) (link f text behind) behind
link_tells f bytes text behind = go f.xattrs
  where
    go : (xs : List Xattr) → TellsLink (file_items (record f { xattrs = xs }) bytes (plain Symlink (words text))) (link (record f { xattrs = xs }) text behind) behind
    go [] = record {
      facts = record f { xattrs = [] };
      text = text;
      node = refl;
      tells = record { uid = refl; name = refl; create = refl; change = refl; modify = refl; access = refl; backup = refl; readonly = refl; xattrs = refl };
      told_text = refl;
    }
    go (x ∷ xs) = record {
      facts = record f { xattrs = x ∷ xs };
      text = text;
      node = refl;
      tells = record { uid = refl; name = refl; create = refl; change = refl; modify = refl; access = refl; backup = refl; readonly = refl; xattrs = xattrs_tell (x ∷ xs) };
      told_text = refl;
    }

-- what stands in a directory
inner_tells : (f : NodeFacts) (inner : Items) (nodes : Nodes) → TellsNodes inner nodes → TellsContents (directory_items f inner) nodes
inner_tells f inner nodes h = either_way (λ xs. TellsContents (directory_items (record f { xattrs = xs }) inner) nodes) h (λ x xs. h) f.xattrs

nodes_tell : (nodes : Nodes) → TellsNodes (nodes_items nodes) nodes
nodes_tell no_nodes = refl
nodes_tell (directory f inner behind) = (f, inner, behind, refl, directory_tells f (nodes_items inner), inner_tells f (nodes_items inner) inner (nodes_tell inner), nodes_tell behind)
nodes_tell (file f bytes extents behind) = (behind, inl (file_tells f bytes extents behind), nodes_tell behind)
nodes_tell (link f text behind) = (behind, inr (link_tells f (length text) text behind), nodes_tell behind)

-- the elements written of a directory's contents tell those nodes
pub contents_tell : (f : NodeFacts) (nodes : Nodes) → TellsContents (directory_items f (nodes_items nodes)) nodes
contents_tell f nodes = inner_tells f (nodes_items nodes) nodes (nodes_tell nodes)

-- ---- how many nodes there are

names_count : (names : List (List ℕ)) → node_count (name_items names) ≡ 0
names_count [] = refl
names_count (n ∷ names) = let more = names_count names in omega arith

extents_count : (es : List RawExtent) → node_count (extents_items es) ≡ 0
extents_count [] = refl
extents_count (e ∷ es) = let more = extents_count es in omega arith

maybe_count : {X : Type 0} (make : X → Item) (o : Option X) (is : Items) → ((x : X) → nodes_of (make x) ≡ 0) → node_count (maybe make o is) ≡ node_count is
maybe_count make None is none = refl
maybe_count make (Some x) is none = let e = none x in omega arith

policy_count : (p : Policy) → nodes_of (policy_item p) ≡ 0
policy_count p = let e = names_count p.names in omega arith

xattrs_count : (xs : List Xattr) → node_count (xattrs_items xs) ≡ 0
xattrs_count [] = refl
xattrs_count (x ∷ xs) = let more = xattrs_count xs in omega arith

attributes_count : (xs : List Xattr) (behind : Items) → node_count (attributes_items xs behind) ≡ node_count behind
attributes_count [] behind = refl
attributes_count (x ∷ xs) behind = let e = xattrs_count xs in omega arith

directory_count : (f : NodeFacts) (inner : Items) → node_count (directory_items f inner) ≡ node_count inner
directory_count f inner = let e = attributes_count f.xattrs (item (nested place.Contents inner) no_items) in omega arith

file_count : (f : NodeFacts) (bytes : ℕ) (last : Item) → nodes_of last ≡ 0 → node_count (file_items f bytes last) ≡ 0
file_count f bytes last e = let a = attributes_count f.xattrs (item last no_items) in omega arith

nodes_count : (nodes : Nodes) → node_count (nodes_items nodes) ≡ count nodes
nodes_count no_nodes = refl
nodes_count (directory f inner behind) =
    let here = directory_count f (nodes_items inner) in
    let a = nodes_count inner in
    let b = nodes_count behind in
    omega arith
nodes_count (file f bytes extents behind) =
    let last : nodes_of (nested place.ExtentInfo (extents_items extents)) ≡ 0 = let e = extents_count extents in omega arith in
    let here = file_count f bytes (nested place.ExtentInfo (extents_items extents)) last in
    let b = nodes_count behind in
    omega arith
nodes_count (link f text behind) =
    let here = file_count f (length text) (plain Symlink (words text)) refl in
    let b = nodes_count behind in
    omega arith

listed_count : (parent at : ℕ) (nodes : Nodes) → length (listed parent at nodes) ≡ count nodes
listed_count parent at no_nodes = refl
listed_count parent at (directory f inner behind) =
    let a = listed_count at (at + 1) inner in
    let b = listed_count parent (at + 1 + count inner) behind in
    omega (arith, length-append (listed at (at + 1) inner) (listed parent (at + 1 + count inner) behind))
listed_count parent at (file f bytes extents behind) = let b = listed_count parent (at + 1) behind in omega arith
listed_count parent at (link f text behind) = let b = listed_count parent (at + 1) behind in omega arith

volume_count : (v : VolumeFacts) (root : Items) → node_count (index_items v root) ≡ 1 + node_count root
volume_count v root =
    let e = item (plain HighestFileUid (number v.highest)) (item (nested place.Root root) no_items) in
    let d = maybe lock_item v.lock e in
    let c = maybe policy_item v.policy d in
    let b = maybe back_item v.back (item (plain AllowPolicyUpdate (truth v.allow)) c) in
    let lock = maybe_count lock_item v.lock e (λ state. refl) in
    let policy = maybe_count policy_item v.policy d policy_count in
    let back = maybe_count back_item v.back (item (plain AllowPolicyUpdate (truth v.allow)) c) (λ s. refl) in
    let comment = maybe_count comment_item v.comment (item (plain VolumeUuid (uuid v.uuid)) (item (plain GenerationNumber (number v.generation)) (item (plain UpdateTime (time v.updated)) (item (nested place.Here (spot_items v.here)) b)))) (λ t. refl) in
    omega arith

-- with few enough nodes, the written elements have few enough node elements
pub all_count : (v : IndexValue) → length (all_nodes v) ≤ most_nodes → node_count (items_of v) ≤ most_nodes
all_count v few =
    let volume = volume_count v.volume (directory_items v.root (nodes_items v.inside)) in
    let root = directory_count v.root (nodes_items v.inside) in
    let nodes = nodes_count v.inside in
    let all = listed_count 0 1 v.inside in
    omega arith
