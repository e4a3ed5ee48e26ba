-- The elements of a valid index are read where they are written.
use Rattle.std.proofs.Common.{◌≡◌, ℕ, ◌≤◌, ◌<◌, ◌^◌, Bool, true, false, not, ◌&&◌, List, [], ◌∷◌, length, Option, Some, None, IfSome, IsUtf8, refl}
use Rattle.std.specs.Prelude.{⊤, if◌then◌else◌}
use Rattle.std.specs.List.{AllByRecursion}
use Rattle.tape_types.specs.declared.moments.Moment.{Moment}
use Rattle.tape_types.specs.declared.times.Civil.{Civil}
use Rattle.tape_types.specs.Times.{civil_of}
use Rattle.ltfs_documents.specs.declared.doc_fields.tags.Tag.{Tag}
use Rattle.ltfs_documents.specs.declared.doc_fields.tags.Tag.TheVariants.{Creator, Comment, VolumeUuid, Partition, GenerationNumber, UpdateTime, StartBlock, AllowPolicyUpdate, Size, VolumeLockState, HighestFileUid, FileUid, Name, Length, CreationTime, ChangeTime, ModifyTime, AccessTime, BackupTime, ReadOnly, Symlink, FileOffset, ByteOffset, ByteCount, ExtendedAttributes, Key, Value}
use Rattle.ltfs_documents.specs.declared.doc_fields.starts.Attribute.TheVariants.{Absent, Base64, Plain}
use Rattle.tape_types.specs.declared.node_keys.xattrs.Xattr.{Xattr}
use Rattle.ltfs_documents.specs.declared.doc_fields.values.LockState.{LockState}
use Rattle.ltfs_documents.specs.DocFields.Tags.{spelled}
use Rattle.ltfs_documents.specs.DocFields.Written.{may_have}
use Rattle.ltfs_documents.proofs.DocFields.Again.{all_pass}
use Rattle.ltfs_documents.proofs.DocFields.WrittenBytes.{is_ascii}
use Rattle.ltfs_documents.specs.DocElements.Children.{member}
use Rattle.ltfs_documents.specs.LtfsText.Names.{written}
use Rattle.index_model.specs.declared.indexes.Policy.{Policy}
use Rattle.index_model.specs.declared.indexes.Spot.{Spot}
use Rattle.index_model.specs.declared.nodes.RawExtent.{RawExtent}
use Rattle.ltfs_documents.specs.declared.doc_elements.schema.Container.{Container}
use Rattle.ltfs_documents.specs.declared.doc_elements.schema.Container.TheVariants as place
use Rattle.ltfs_documents.specs.declared.doc_elements.schema.Form.{Form}
use Rattle.ltfs_documents.specs.declared.doc_elements.schema.Form.TheVariants as form
use Rattle.ltfs_documents.specs.declared.doc_elements.schema.Child.TheVariants as child
use Rattle.index_model.specs.Canonical.{encoding}
use Rattle.ltfs_documents.specs.DocElements.Written.{bytes_type, is_text}
use Rattle.index_model.specs.Extents.{IsExtent}
use Rattle.index_model.specs.Keys.{IsXattr}
use Rattle.ltfs_documents.specs.DocElements.Elements.{Item, plain, nested, Items, no_items, item}
use Rattle.index_model.specs.Names.{IsVolumeName, IsNodeName}
use Rattle.ltfs_documents.specs.DocElements.Pieces.{Val, words, time, uuid, letter, number, truth, lock}
use Rattle.ltfs_documents.specs.DocElements.Pieces as val
use Rattle.ltfs_documents.specs.DocElements.Schema.{rule, tag_of}
use Rattle.index_model.specs.Texts.{IsPlainText}
use Rattle.index_model.specs.Valid.{IsSpot, IsPolicy}
use Rattle.index_model.specs.Values.{TimesValue, NodeFacts, Nodes, no_nodes, directory, file, link, VolumeFacts, IndexValue}
use Rattle.ltfs_documents.proofs.DocElements.WrittenItems.{attribute_of, GoodItem, GoodItems, ReadsBack, stand}
use Rattle.index_read.proofs.WrittenItems.{attributes_items, back_item, comment_item, directory_items, either_way, extent_items, extents_items, file_items, index_items, items_of, lock_item, maybe, name_items, nodes_items, policy_item, spot_items, times_items, xattr_items, xattrs_items}
use Rattle.ltfs_documents.proofs.DocElements.WrittenAttributes.{key_back, value_back}
use Rattle.ltfs_documents.proofs.DocElements.WrittenValues.{creator_back, time_back, truth_back, uuid_back}
use Rattle.index_read.proofs.WrittenValues.{bounded_back, comment_back, generation_back, letter_back, lock_back, node_name_back, number_back, pattern_back, target_back, volume_name_back}

-- ---- facts that can be told in a document

-- a date and a time of day of some moment
abbrev pub IsMoment : Civil → Type 0
IsMoment c = (m : Moment) × (c ≡ civil_of m)

pub record AreMoments (t : TimesValue) : Type 0 where
  pub create : IsMoment t.create
  pub change : IsMoment t.change
  pub modify : IsMoment t.modify
  pub access : IsMoment t.access
  pub backup : IsMoment t.backup

-- the facts of a node but its name
pub record GoodFacts (f : NodeFacts) : Type 0 where
  pub uid : f.uid < 2 ^ 64
  pub times : AreMoments f.times
  pub xattrs : AllByRecursion IsXattr f.xattrs

-- the nodes can be written and read again
abbrev pub GoodNodes : Nodes → Type 0
GoodNodes no_nodes = ⊤
GoodNodes (directory f inside behind) = GoodFacts f × IsNodeName f.name × GoodNodes inside × GoodNodes behind
GoodNodes (file f bytes extents behind) = GoodFacts f × IsNodeName f.name × (bytes < 2 ^ 64) × AllByRecursion IsExtent extents × GoodNodes behind
GoodNodes (link f text behind) = GoodFacts f × IsNodeName f.name × IsUtf8 text × (length text < 2 ^ 64) × GoodNodes behind

-- the facts of a volume can be written and read again
pub record GoodVolume (v : VolumeFacts) : Type 0 where
  pub creator : IsPlainText v.creator
  pub comment : IfSome v.comment IsPlainText
  pub uuid : v.uuid < 2 ^ 128
  pub generation_least : 1 ≤ v.generation
  pub generation_most : v.generation ≤ 2 ^ 62
  pub updated : IsMoment v.updated
  pub here : IsSpot v.here
  pub back : IfSome v.back IsSpot
  pub policy : IfSome v.policy IsPolicy
  pub highest : v.highest < 2 ^ 64

-- the volume, the root and the nodes can be written and read again
pub record GoodIndex (v : IndexValue) : Type 0 where
  pub volume : GoodVolume v.volume
  pub root : GoodFacts v.root
  pub name : IsVolumeName v.root.name
  pub inside : GoodNodes v.inside

-- ---- one element

leaf_good : (p : Container) (tag : Tag) (v : Val) (f : Form) → rule p tag ≡ child.Leaf f → may_have tag (attribute_of tag v) ≡ true → all_pass is_ascii (spelled tag) ≡ true → ReadsBack f tag v → GoodItem p (plain tag v)
leaf_good p tag v f r may ascii back = (f, r, record { may = may; name = ascii }, back)

parent_good : (p q : Container) (is : Items) → rule p (tag_of q) ≡ child.Parent q → may_have (tag_of q) Absent ≡ true → all_pass is_ascii (spelled (tag_of q)) ≡ true → stand q [] is ≡ true → GoodItems q is → GoodItem p (nested q is)
parent_good p q is r may ascii standing good = (r, record { may = may; name = ascii }, standing, good)

may_name : (name : List ℕ) → may_have Name (encoding (written name)) ≡ true
may_name name = go (written name).percent
  where
    go : (b : Bool) → may_have Name (encoding (record { text = []; percent = b })) ≡ true
    go true = refl
    go false = refl

may_link : (text : List ℕ) → may_have Symlink (encoding (written text)) ≡ true
may_link text = go (written text).percent
  where
    go : (b : Bool) → may_have Symlink (encoding (record { text = []; percent = b })) ≡ true
    go true = refl
    go false = refl

may_key : (key : List ℕ) → may_have Key (encoding (written key)) ≡ true
may_key key = go (written key).percent
  where
    go : (b : Bool) → may_have Key (encoding (record { text = []; percent = b })) ≡ true
    go true = refl
    go false = refl

may_value : (bs : List ℕ) → may_have Value (bytes_type bs) ≡ true
may_value bs = go (is_text bs)
  where
    go : (b : Bool) → may_have Value (if b then Plain else Base64) ≡ true
    go true = refl
    go false = refl

maybe_good : {X : Type 0} (p : Container) (make : X → Item) (P : X → Type 0) (o : Option X) (is : Items) → ((x : X) → P x → GoodItem p (make x)) → IfSome o P → GoodItems p is → GoodItems p (maybe make o is)
maybe_good p make P None is each h good = good
maybe_good p make P (Some x) is each h good = (each x h, good)

-- an element that may repeat may follow any others
repeats : (b : Bool) → not (b && false) ≡ true
repeats true = refl
repeats false = refl

-- ---- what stands in one another

spot_good : (p : Container) (s : Spot) → rule p Partition ≡ child.Leaf form.Letter → rule p StartBlock ≡ child.Leaf form.Bounded → IsSpot s → GoodItems p (spot_items s)
spot_good p s l b h = (
  leaf_good p Partition (letter s.letter) form.Letter l refl refl (letter_back Partition s.letter h.letter),
  (leaf_good p StartBlock (number s.block) form.Bounded b refl refl (bounded_back StartBlock s.block h.block), tt),
)

back_good : (s : Spot) → IsSpot s → GoodItem place.Index (back_item s)
back_good s h = parent_good place.Index place.Back (spot_items s) refl refl refl refl (spot_good place.Back s refl refl h)

names_stand : (names : List (List ℕ)) (seen : List Tag) → member Size seen ≡ true → stand place.Criteria seen (name_items names) ≡ true
names_stand [] seen there = rw there refl
names_stand (n ∷ names) seen there = rw (repeats (member Name seen)) (names_stand names (Name ∷ seen) there)

names_good : (names : List (List ℕ)) → AllByRecursion IsUtf8 names → GoodItems place.Criteria (name_items names)
names_good [] h = tt
names_good (n ∷ names) h = (leaf_good place.Criteria Name (words n) form.AnyName refl (may_name n) refl (pattern_back n h.0), names_good names h.1)

policy_good : (p : Policy) → IsPolicy p → GoodItem place.Index (policy_item p)
policy_good p h =
    let criteria = item (plain Size (number p.size)) (name_items p.names) in
    let size = leaf_good place.Criteria Size (number p.size) form.Bounded refl refl refl (bounded_back Size p.size h.size) in
    let inner = parent_good place.Policy place.Criteria criteria refl refl refl (names_stand p.names (Size ∷ []) refl) (size, names_good p.names h.names) in
    parent_good place.Index place.Policy (item (nested place.Criteria criteria) no_items) refl refl refl refl (inner, tt)

comment_good : (text : List ℕ) → IsPlainText text → GoodItem place.Index (comment_item text)
comment_good text h = leaf_good place.Index Comment (words text) form.Text refl refl refl (comment_back text h)

lock_good : (state : LockState) → ⊤ → GoodItem place.Index (lock_item state)
lock_good state h = leaf_good place.Index VolumeLockState (lock state) form.Lock refl refl refl (lock_back VolumeLockState state)

extent_good : (e : RawExtent) → IsExtent e → GoodItem place.ExtentInfo (nested place.Extent (extent_items e))
extent_good e h = parent_good place.ExtentInfo place.Extent (extent_items e) refl refl refl refl (
  leaf_good place.Extent FileOffset (number e.offset) form.Bounded refl refl refl (bounded_back FileOffset e.offset h.offset),
  (
    leaf_good place.Extent Partition (letter e.letter) form.Letter refl refl refl (letter_back Partition e.letter h.letter),
    (
      leaf_good place.Extent StartBlock (number e.block) form.Bounded refl refl refl (bounded_back StartBlock e.block h.block),
      (
        leaf_good place.Extent ByteOffset (number e.byte) form.Bounded refl refl refl (bounded_back ByteOffset e.byte h.byte),
        (leaf_good place.Extent ByteCount (number e.count) form.Bounded refl refl refl (bounded_back ByteCount e.count h.count), tt),
      ),
    ),
  ),
)

extents_stand : (es : List RawExtent) (seen : List Tag) → stand place.ExtentInfo seen (extents_items es) ≡ true
extents_stand [] seen = refl
extents_stand (e ∷ es) seen = rw (repeats (member (tag_of place.Extent) seen)) (extents_stand es (tag_of place.Extent ∷ seen))

extents_good : (es : List RawExtent) → AllByRecursion IsExtent es → GoodItems place.ExtentInfo (extents_items es)
extents_good [] h = tt
extents_good (e ∷ es) h = (extent_good e h.0, extents_good es h.1)

-- ---- extended attributes

xattr_good : (x : Xattr) → IsXattr x → GoodItem place.Attributes (nested place.Xattr (xattr_items x))
xattr_good x h = parent_good place.Attributes place.Xattr (xattr_items x) refl refl refl refl (
  leaf_good place.Xattr Key (words x.key) form.Key refl (may_key x.key) refl (key_back x.key h.utf8 h.key),
  (leaf_good place.Xattr Value (val.bytes x.value) form.Value refl (may_value x.value) refl (value_back x.value h.bytes), tt),
)

xattrs_stand : (xs : List Xattr) (seen : List Tag) → stand place.Attributes seen (xattrs_items xs) ≡ true
xattrs_stand [] seen = refl
xattrs_stand (x ∷ xs) seen = rw (repeats (member (tag_of place.Xattr) seen)) (xattrs_stand xs (tag_of place.Xattr ∷ seen))

xattrs_good : (xs : List Xattr) → AllByRecursion IsXattr xs → GoodItems place.Attributes (xattrs_items xs)
xattrs_good [] h = tt
xattrs_good (x ∷ xs) h = (xattr_good x h.0, xattrs_good xs h.1)

attributes_good : (p : Container) (xs : List Xattr) (behind : Items) → rule p ExtendedAttributes ≡ child.Parent place.Attributes → AllByRecursion IsXattr xs → GoodItems p behind → GoodItems p (attributes_items xs behind)
attributes_good p [] behind r h good = good
attributes_good p (x ∷ xs) behind r h good = (parent_good p place.Attributes (xattrs_items (x ∷ xs)) r refl refl (xattrs_stand (x ∷ xs) []) (xattrs_good (x ∷ xs) h), good)

-- ---- directories and files

-- a parent in which the times of a node stand
pub record HasTimes (p : Container) : Type 0 where
  create : rule p CreationTime ≡ child.Leaf form.Time
  change : rule p ChangeTime ≡ child.Leaf form.Time
  modify : rule p ModifyTime ≡ child.Leaf form.Time
  access : rule p AccessTime ≡ child.Leaf form.Time
  backup : rule p BackupTime ≡ child.Leaf form.Time

times_good : (p : Container) (t : TimesValue) (behind : Items) → HasTimes p → AreMoments t → GoodItems p behind → GoodItems p (times_items t behind)
times_good p t behind r h good = (
  leaf_good p CreationTime (time t.create) form.Time r.create refl refl (time_back CreationTime t.create h.create.0 h.create.1),
  (
    leaf_good p ChangeTime (time t.change) form.Time r.change refl refl (time_back ChangeTime t.change h.change.0 h.change.1),
    (
      leaf_good p ModifyTime (time t.modify) form.Time r.modify refl refl (time_back ModifyTime t.modify h.modify.0 h.modify.1),
      (
        leaf_good p AccessTime (time t.access) form.Time r.access refl refl (time_back AccessTime t.access h.access.0 h.access.1),
        (leaf_good p BackupTime (time t.backup) form.Time r.backup refl refl (time_back BackupTime t.backup h.backup.0 h.backup.1), good),
      ),
    ),
  ),
)

nodes_stand : (nodes : Nodes) (seen : List Tag) → stand place.Contents seen (nodes_items nodes) ≡ true
nodes_stand no_nodes seen = refl
nodes_stand (directory f inside behind) seen = rw (repeats (member (tag_of place.Directory) seen)) (nodes_stand behind (tag_of place.Directory ∷ seen))
nodes_stand (file f bytes extents behind) seen = rw (repeats (member (tag_of place.File) seen)) (nodes_stand behind (tag_of place.File ∷ seen))
nodes_stand (link f text behind) seen = rw (repeats (member (tag_of place.File) seen)) (nodes_stand behind (tag_of place.File ∷ seen))

file_good : (f : NodeFacts) (bytes : ℕ) (last : Item) → GoodFacts f → IsNodeName f.name → bytes < 2 ^ 64 → GoodItem place.File last → GoodItems place.File (file_items f bytes last)
file_good f bytes last h name fits good = (
  leaf_good place.File FileUid (number f.uid) form.Number refl refl refl (number_back FileUid f.uid h.uid),
  (
    leaf_good place.File Name (words f.name) form.NodeName refl (may_name f.name) refl (node_name_back f.name name),
    (
      leaf_good place.File Length (number bytes) form.Number refl refl refl (number_back Length bytes fits),
      times_good place.File f.times (item (plain ReadOnly (truth f.readonly)) (attributes_items f.xattrs (item last no_items))) record { create = refl; change = refl; modify = refl; access = refl; backup = refl } h.times
          (leaf_good place.File ReadOnly (truth f.readonly) form.Truth refl refl refl (truth_back ReadOnly f.readonly), attributes_good place.File f.xattrs (item last no_items) refl h.xattrs (good, tt)),
    ),
  ),
)

directory_good : (p : Container) (f : NodeFacts) (inside : Nodes) → rule p FileUid ≡ child.Leaf form.Number → GoodItem p (plain Name (words f.name)) → HasTimes p → rule p ReadOnly ≡ child.Leaf form.Truth → rule p ExtendedAttributes ≡ child.Parent place.Attributes → rule p (tag_of place.Contents) ≡ child.Parent place.Contents → GoodFacts f → GoodItems place.Contents (nodes_items inside) → GoodItems p (directory_items f (nodes_items inside))
directory_good p f inside uid name times readonly marked contents h good = (
  leaf_good p FileUid (number f.uid) form.Number uid refl refl (number_back FileUid f.uid h.uid),
  (
    name,
    times_good p f.times (item (plain ReadOnly (truth f.readonly)) (attributes_items f.xattrs (item (nested place.Contents (nodes_items inside)) no_items))) times h.times (
      leaf_good p ReadOnly (truth f.readonly) form.Truth readonly refl refl (truth_back ReadOnly f.readonly),
      attributes_good p f.xattrs (item (nested place.Contents (nodes_items inside)) no_items) marked h.xattrs
          (parent_good p place.Contents (nodes_items inside) contents refl refl (nodes_stand inside []) good, tt),
    ),
  ),
)

directory_stands : (f : NodeFacts) (inside : Items) → stand place.Directory [] (directory_items f inside) ≡ true
directory_stands f inside = either_way (λ xs. stand place.Directory [] (directory_items (record f { xattrs = xs }) inside) ≡ true) refl (λ x xs. refl) f.xattrs

root_stands : (f : NodeFacts) (inside : Items) → stand place.Root [] (directory_items f inside) ≡ true
root_stands f inside = either_way (λ xs. stand place.Root [] (directory_items (record f { xattrs = xs }) inside) ≡ true) refl (λ x xs. refl) f.xattrs

file_stands : (f : NodeFacts) (bytes : ℕ) (extents : Items) → stand place.File [] (file_items f bytes (nested place.ExtentInfo extents)) ≡ true
file_stands f bytes extents = either_way (λ xs. stand place.File [] (file_items (record f { xattrs = xs }) bytes (nested place.ExtentInfo extents)) ≡ true) refl (λ x xs. refl) f.xattrs

link_stands : (f : NodeFacts) (bytes : ℕ) (text : List ℕ) → stand place.File [] (file_items f bytes (plain Symlink (words text))) ≡ true
link_stands f bytes text = either_way (λ xs. stand place.File [] (file_items (record f { xattrs = xs }) bytes (plain Symlink (words text))) ≡ true) refl (λ x xs. refl) f.xattrs

nodes_good : (nodes : Nodes) → GoodNodes nodes → GoodItems place.Contents (nodes_items nodes)
nodes_good no_nodes h = tt
nodes_good (directory f inside behind) h = (
  parent_good place.Contents place.Directory (directory_items f (nodes_items inside)) refl refl refl (directory_stands f (nodes_items inside))
      (directory_good place.Directory f inside refl (leaf_good place.Directory Name (words f.name) form.NodeName refl (may_name f.name) refl (node_name_back f.name h.1)) record { create = refl; change = refl; modify = refl; access = refl; backup = refl } refl refl refl h.0 (nodes_good inside h.2)),
  nodes_good behind h.3,
)
nodes_good (file f bytes extents behind) h = (
  parent_good place.Contents place.File (file_items f bytes (nested place.ExtentInfo (extents_items extents))) refl refl refl (file_stands f bytes (extents_items extents))
      (file_good f bytes (nested place.ExtentInfo (extents_items extents)) h.0 h.1 h.2 (parent_good place.File place.ExtentInfo (extents_items extents) refl refl refl (extents_stand extents []) (extents_good extents h.3))),
  nodes_good behind h.4,
)
nodes_good (link f text behind) h = (
  parent_good place.Contents place.File (file_items f (length text) (plain Symlink (words text))) refl refl refl (link_stands f (length text) text)
      (file_good f (length text) (plain Symlink (words text)) h.0 h.1 h.3 (leaf_good place.File Symlink (words text) form.AnyName refl (may_link text) refl (target_back text h.2))),
  nodes_good behind h.4,
)

-- ---- the index

index_good : (v : VolumeFacts) (root : Items) → GoodVolume v → GoodItem place.Index (nested place.Root root) → GoodItems place.Index (index_items v root)
index_good v root h good =
    let highest = leaf_good place.Index HighestFileUid (number v.highest) form.Number refl refl refl (number_back HighestFileUid v.highest h.highest) in
    let locked = maybe_good place.Index lock_item (λ state. ⊤) v.lock (item (plain HighestFileUid (number v.highest)) (item (nested place.Root root) no_items)) lock_good (free v.lock) (highest, (good, tt)) in
    let policed = maybe_good place.Index policy_item IsPolicy v.policy _ policy_good h.policy locked in
    let allow = leaf_good place.Index AllowPolicyUpdate (truth v.allow) form.Truth refl refl refl (truth_back AllowPolicyUpdate v.allow) in
    let backed = maybe_good place.Index back_item IsSpot v.back _ back_good h.back (allow, policed) in
    let here = parent_good place.Index place.Here (spot_items v.here) refl refl refl refl (spot_good place.Here v.here refl refl h.here) in
    let updated = leaf_good place.Index UpdateTime (time v.updated) form.Time refl refl refl (time_back UpdateTime v.updated h.updated.0 h.updated.1) in
    let generation = leaf_good place.Index GenerationNumber (number v.generation) form.Generation refl refl refl (generation_back GenerationNumber v.generation h.generation_least h.generation_most) in
    let id = leaf_good place.Index VolumeUuid (uuid v.uuid) form.Uuid refl refl refl (uuid_back VolumeUuid v.uuid h.uuid) in
    let commented = maybe_good place.Index comment_item IsPlainText v.comment _ comment_good h.comment (id, (generation, (updated, (here, backed)))) in
    (leaf_good place.Index Creator (words v.creator) form.Text refl refl refl (creator_back v.creator (h.creator.utf8, h.creator.allowed)), commented)
  where
    free : (o : Option LockState) → IfSome o (λ state. ⊤)
    free None = tt
    free (Some state) = tt

-- the four elements that may be left out
volume_stands : (v : VolumeFacts) (root : Items) → stand place.Index [] (index_items v root) ≡ true
volume_stands v root = go v.comment v.back v.policy v.lock
  where
    go : (comment : Option (List ℕ)) (back : Option Spot) (policy : Option Policy) (lock : Option LockState) → stand place.Index [] (index_items (record v { comment = comment; back = back; policy = policy; lock = lock }) root) ≡ true
    go None None None None = refl
    go None None None (Some l) = refl
    go None None (Some p) None = refl
    go None None (Some p) (Some l) = refl
    go None (Some b) None None = refl
    go None (Some b) None (Some l) = refl
    go None (Some b) (Some p) None = refl
    go None (Some b) (Some p) (Some l) = refl
    go (Some c) None None None = refl
    go (Some c) None None (Some l) = refl
    go (Some c) None (Some p) None = refl
    go (Some c) None (Some p) (Some l) = refl
    go (Some c) (Some b) None None = refl
    go (Some c) (Some b) None (Some l) = refl
    go (Some c) (Some b) (Some p) None = refl
    go (Some c) (Some b) (Some p) (Some l) = refl

-- the elements that are written of an index may stand where they stand
pub all_stand : (v : IndexValue) → stand place.Index [] (items_of v) ≡ true
all_stand v = volume_stands v.volume (directory_items v.root (nodes_items v.inside))

-- the elements that are written of a valid index are read where they stand
pub all_good : (v : IndexValue) → GoodIndex v → GoodItems place.Index (items_of v)
all_good v h =
    let root = directory_items v.root (nodes_items v.inside) in
    index_good v.volume root h.volume (
    parent_good place.Index place.Root root refl refl refl (root_stands v.root (nodes_items v.inside))
    (directory_good place.Root v.root v.inside refl (leaf_good place.Root Name (words v.root.name) form.VolumeName refl (may_name v.root.name) refl (volume_name_back v.root.name h.name)) record { create = refl; change = refl; modify = refl; access = refl; backup = refl } refl refl refl h.root (nodes_good v.inside h.inside))
    )
