-- What the pieces of a document tell, one after the other.
use Rattle.std.specs.Prelude.{◌≡◌, ℕ, zero, suc, pos, List, [], ◌∷◌, ◌++◌, Bool, false, Option, Some, None, length}
use Rattle.std.specs.Prelude.{if◌then◌else◌}
use Rattle.std.specs.Option.{option_map}
use lib.Dec.{lit<}
use Rattle.tape_types.specs.declared.moments.Moment.{Moment}
use Rattle.tape_types.specs.declared.times.Civil.{Civil}
use Rattle.tape_types.specs.Times.{civil_of}
use Rattle.ltfs_documents.specs.declared.doc_fields.tags.Tag.TheVariants.{Creator, Comment, VolumeUuid, Partition, GenerationNumber}
use Rattle.ltfs_documents.specs.declared.doc_fields.tags.Tag.TheVariants.{UpdateTime, StartBlock, AllowPolicyUpdate, Size}
use Rattle.ltfs_documents.specs.declared.doc_fields.tags.Tag.TheVariants.{VolumeLockState, HighestFileUid, FileUid, Name, Length}
use Rattle.ltfs_documents.specs.declared.doc_fields.tags.Tag.TheVariants.{CreationTime, ChangeTime, ModifyTime, AccessTime, BackupTime}
use Rattle.ltfs_documents.specs.declared.doc_fields.tags.Tag.TheVariants.{ReadOnly, Symlink, FileOffset, ByteOffset, ByteCount}
use Rattle.ltfs_documents.specs.declared.doc_fields.tags.Tag.TheVariants.{Key, Value}
use Rattle.ltfs_documents.specs.declared.doc_fields.values.LockState.{LockState}
use Rattle.tape_types.specs.declared.node_keys.xattrs.Xattr.{Xattr}
use Rattle.index_model.specs.declared.indexes.Policy.{Policy}
use Rattle.index_model.specs.declared.indexes.Spot.{Spot}
use Rattle.index_model.specs.declared.nodes.NodeKind.{NodeKind}
use Rattle.index_model.specs.declared.nodes.NodeKind.TheVariants as kinds
use Rattle.index_model.specs.declared.nodes.RawExtent.{RawExtent}
use Rattle.ltfs_documents.specs.declared.doc_elements.schema.Container.{Container}
use Rattle.ltfs_documents.specs.declared.doc_elements.schema.Container.TheVariants as place
use Rattle.ltfs_documents.specs.DocElements.Schema.{is_node}
use Rattle.index_model.specs.Values.{NodeFacts, TimesValue, NodeValue, VolumeFacts}
use Rattle.ltfs_documents.specs.DocElements.Pieces.{Val, words, time, uuid, letter, number, truth, lock, bytes}
use Rattle.ltfs_documents.specs.DocElements.Pieces.{Piece, opens, whole, closes, leaf}
use Rattle.ltfs_documents.specs.DocElements.Elements.{Item, plain, bare, nested, Items, no_items, item}
use Rattle.index_model.specs.Grammar.{own}

-- ---- a value, where one of its kind is told, else the one that was there

abbrev pub words_or : List ℕ → Option Val → List ℕ
words_or old (Some (words text)) = text
words_or old _ = old

abbrev pub words_told : Option (List ℕ) → Option Val → Option (List ℕ)
words_told old (Some (words text)) = Some text
words_told old _ = old

abbrev pub time_or : Civil → Option Val → Civil
time_or old (Some (time c)) = c
time_or old _ = old

abbrev pub uuid_or : ℕ → Option Val → ℕ
uuid_or old (Some (uuid n)) = n
uuid_or old _ = old

abbrev pub letter_or : ℕ → Option Val → ℕ
letter_or old (Some (letter b)) = b
letter_or old _ = old

abbrev pub number_or : ℕ → Option Val → ℕ
number_or old (Some (number n)) = n
number_or old _ = old

abbrev pub truth_or : Bool → Option Val → Bool
truth_or old (Some (truth is)) = is
truth_or old _ = old

abbrev pub lock_told : Option LockState → Option Val → Option LockState
lock_told old (Some (lock state)) = Some state
lock_told old _ = old

abbrev pub bytes_or : List ℕ → Option Val → List ℕ
bytes_or old (Some (bytes bs)) = bs
bytes_or old _ = old

-- a symbolic link, where its text is told
abbrev pub link_or : NodeKind → Option Val → NodeKind
link_or old (Some (words text)) = kinds.Link text
link_or old _ = old

-- ---- what one element tells

abbrev pub volume_with : Item → VolumeFacts → VolumeFacts
volume_with i v = record {
  creator = words_or v.creator (own Creator i);
  comment = words_told v.comment (own Comment i);
  uuid = uuid_or v.uuid (own VolumeUuid i);
  generation = number_or v.generation (own GenerationNumber i);
  updated = time_or v.updated (own UpdateTime i);
  here = v.here;
  back = v.back;
  allow = truth_or v.allow (own AllowPolicyUpdate i);
  policy = v.policy;
  lock = lock_told v.lock (own VolumeLockState i);
  highest = number_or v.highest (own HighestFileUid i);
}

abbrev pub spot_with : Item → Spot → Spot
spot_with i s = record { letter = letter_or s.letter (own Partition i); block = number_or s.block (own StartBlock i) }

-- the name that an element tells
abbrev pub name_told : Option Val → List (List ℕ)
name_told (Some (words text)) = text ∷ []
name_told _ = []

abbrev pub policy_with : Item → Policy → Policy
policy_with i p = record { size = number_or p.size (own Size i); names = p.names ++ name_told (own Name i) }

abbrev pub times_with : Item → TimesValue → TimesValue
times_with i t = record {
  create = time_or t.create (own CreationTime i);
  change = time_or t.change (own ChangeTime i);
  modify = time_or t.modify (own ModifyTime i);
  access = time_or t.access (own AccessTime i);
  backup = time_or t.backup (own BackupTime i);
}

abbrev pub facts_with : Item → NodeFacts → NodeFacts
facts_with i f = record {
  uid = number_or f.uid (own FileUid i);
  name = words_or f.name (own Name i);
  times = times_with i f.times;
  readonly = truth_or f.readonly (own ReadOnly i);
  xattrs = f.xattrs;
}

-- the length is a file's
abbrev pub sized : Item → NodeKind → NodeKind
sized i kinds.Dir = kinds.Dir
sized i (kinds.File size extents) = kinds.File (number_or size (own Length i)) extents
sized i (kinds.Link text) = kinds.Link text

abbrev pub kind_with : Item → NodeKind → NodeKind
kind_with i k = link_or (sized i k) (own Symlink i)

abbrev pub node_with : Item → NodeValue → NodeValue
node_with i n = record { parent = n.parent; facts = facts_with i n.facts; kind = kind_with i n.kind }

abbrev pub extent_with : Item → RawExtent → RawExtent
extent_with i e = record {
  offset = number_or e.offset (own FileOffset i);
  letter = letter_or e.letter (own Partition i);
  block = number_or e.block (own StartBlock i);
  byte = number_or e.byte (own ByteOffset i);
  count = number_or e.count (own ByteCount i);
}

abbrev pub xattr_with : Item → Xattr → Xattr
xattr_with i x = record { key = words_or x.key (own Key i); value = bytes_or x.value (own Value i) }

-- ---- what stands there before anything is told

-- the first moment of 1970
abbrev pub epoch : Moment
epoch = record {
  secs = pos 0;
  nanos = 0;
  not_before = record { le = tt };
  not_after = record { le = tt };
  within_second = lit< tt;
}

abbrev pub blank_spot : Spot
blank_spot = record { letter = 0; block = 0 }

abbrev pub blank_policy : Policy
blank_policy = record { size = 0; names = [] }

abbrev pub blank_extent : RawExtent
blank_extent = record { offset = 0; letter = 0; block = 0; byte = 0; count = 0 }

abbrev pub blank_xattr : Xattr
blank_xattr = record { key = []; value = [] }

abbrev pub blank_volume : VolumeFacts
blank_volume = record {
  creator = [];
  comment = None;
  uuid = 0;
  generation = 0;
  updated = civil_of epoch;
  here = blank_spot;
  back = None;
  allow = false;
  policy = None;
  lock = None;
  highest = 0;
}

abbrev pub blank_times : TimesValue
blank_times = record {
  create = civil_of epoch;
  change = civil_of epoch;
  modify = civil_of epoch;
  access = civil_of epoch;
  backup = civil_of epoch;
}

abbrev pub blank_node : ℕ → NodeKind → NodeValue
blank_node parent kind = record {
  parent = parent;
  facts = record { uid = 0; name = []; times = blank_times; readonly = false; xattrs = [] };
  kind = kind;
}

-- ---- a document up to a place

-- what was told: of the volume, the nodes that have begun, and the extent and the attribute that are being read
pub record State : Type 0 where
  pub volume : VolumeFacts
  pub nodes : List NodeValue
  pub extent : RawExtent
  pub xattr : Xattr

abbrev pub blank : State
blank = record { volume = blank_volume; nodes = []; extent = blank_extent; xattr = blank_xattr }

-- the list with the element at a place changed, where there is one
abbrev pub changed : {X : Type 0} → ℕ → (X → X) → List X → List X
changed at f [] = []
changed zero f (x ∷ xs) = f x ∷ xs
changed (suc at) f (x ∷ xs) = x ∷ changed at f xs

-- the node that a parent's children speak of: its own, or the one that it stands in
abbrev pub node_in : Container → ℕ → State → ℕ
node_in p node s = if is_node p then length s.nodes else node

-- a parent begins in a node
abbrev pub begun : Container → ℕ → State → State
begun place.Here node s = record s { volume = record s.volume { here = blank_spot } }
begun place.Back node s = record s { volume = record s.volume { back = Some blank_spot } }
begun place.Criteria node s = record s { volume = record s.volume { policy = Some blank_policy } }
begun place.Root node s = record s { nodes = s.nodes ++ blank_node 0 kinds.Dir ∷ [] }
begun place.Directory node s = record s { nodes = s.nodes ++ blank_node node kinds.Dir ∷ [] }
begun place.File node s = record s { nodes = s.nodes ++ blank_node node (kinds.File 0 []) ∷ [] }
begun place.Extent node s = record s { extent = blank_extent }
begun place.Xattr node s = record s { xattr = blank_xattr }
begun _ node s = s

-- a leaf of a parent
abbrev pub leaf_told : Container → ℕ → Item → State → State
leaf_told place.Index node i s = record s { volume = volume_with i s.volume }
leaf_told place.Here node i s = record s { volume = record s.volume { here = spot_with i s.volume.here } }
leaf_told place.Back node i s = record s { volume = record s.volume { back = option_map (spot_with i) s.volume.back } }
leaf_told place.Criteria node i s =
    record s { volume = record s.volume { policy = option_map (policy_with i) s.volume.policy } }
leaf_told place.Root node i s = record s { nodes = changed node (node_with i) s.nodes }
leaf_told place.Directory node i s = record s { nodes = changed node (node_with i) s.nodes }
leaf_told place.File node i s = record s { nodes = changed node (node_with i) s.nodes }
leaf_told place.Extent node i s = record s { extent = extent_with i s.extent }
leaf_told place.Xattr node i s = record s { xattr = xattr_with i s.xattr }
leaf_told _ node i s = s

abbrev pub one_more : RawExtent → NodeKind → NodeKind
one_more e kinds.Dir = kinds.Dir
one_more e (kinds.File size extents) = kinds.File size (extents ++ e ∷ [])
one_more e (kinds.Link text) = kinds.Link text

abbrev pub with_extent : RawExtent → NodeValue → NodeValue
with_extent e n = record n { kind = one_more e n.kind }

abbrev pub with_xattr : Xattr → NodeValue → NodeValue
with_xattr x n = record n { facts = record n.facts { xattrs = n.facts.xattrs ++ x ∷ [] } }

-- a parent ends; of an attribute nothing is left then but in its node
abbrev pub ended : Container → ℕ → State → State
ended place.Extent node s = record s { nodes = changed node (with_extent s.extent) s.nodes }
ended place.Xattr node s = record s { nodes = changed node (with_xattr s.xattr) s.nodes; xattr = blank_xattr }
ended _ node s = s

-- ---- elements

abbrev mutual
  pub item_told : Container → ℕ → Item → State → State
  item_told p node (plain tag v) s = leaf_told p node (plain tag v) s
  item_told p node (bare q) s = ended q (node_in q node s) (begun q node s)
  item_told p node (nested q is) s = ended q (node_in q node s) (items_told q (node_in q node s) is (begun q node s))

  pub items_told : Container → ℕ → Items → State → State
  items_told p node no_items s = s
  items_told p node (item i is) s = items_told p node is (item_told p node i s)

-- ---- pieces

-- an open parent, and the node that its children speak of
pub record Level : Type 0 where
  pub place : Container
  pub node : ℕ

abbrev pub levels_after : Piece → Level → List Level → State → List Level
levels_after (opens q) l ls s = record { place = q; node = node_in q l.node s } ∷ l ∷ ls
levels_after (whole q) l ls s = l ∷ ls
levels_after closes l ls s = ls
levels_after (leaf tag v) l ls s = l ∷ ls

abbrev pub piece_told : Piece → Level → State → State
piece_told (opens q) l s = begun q l.node s
piece_told (whole q) l s = ended q (node_in q l.node s) (begun q l.node s)
piece_told closes l s = ended l.place l.node s
piece_told (leaf tag v) l s = leaf_told l.place l.node (plain tag v) s

-- these pieces lead from open parents and what was told to others
abbrev pub Tell : List Piece → List Level → State → List Level → State → Type 0
Tell [] ls s ms t = (ls ≡ ms) × (s ≡ t)
Tell (p ∷ ps) [] s ms t = ⊥
Tell (p ∷ ps) (l ∷ ls) s ms t = Tell ps (levels_after p l ls s) (piece_told p l s) ms t

abbrev pub outermost : List Level
outermost = record { place = place.Index; node = 0 } ∷ []
