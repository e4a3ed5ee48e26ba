-- What the text of an index is, by what its elements tell (LTFS 2.4 on the index).
use Rattle.std.specs.Prelude.{◌≡◌, ◌⊎◌, ◌≤◌, ℕ, List, [], ◌∷◌, Option, Some, None, ◌==◌, if◌then◌else◌}
use Rattle.std.specs.Option.{option_map}
use Rattle.tape_types.specs.Bounds.{most_nodes}
use Rattle.ltfs_documents.specs.declared.doc_fields.tags.Tag.{Tag}
use Rattle.ltfs_documents.specs.declared.doc_fields.tags.Tag.TheVariants.{Creator, Comment, VolumeUuid, Partition, GenerationNumber}
use Rattle.ltfs_documents.specs.declared.doc_fields.tags.Tag.TheVariants.{UpdateTime, StartBlock, AllowPolicyUpdate, Size}
use Rattle.ltfs_documents.specs.declared.doc_fields.tags.Tag.TheVariants.{VolumeLockState, HighestFileUid, FileUid, Name, Length}
use Rattle.ltfs_documents.specs.declared.doc_fields.tags.Tag.TheVariants.{CreationTime, ChangeTime, ModifyTime, AccessTime, BackupTime}
use Rattle.ltfs_documents.specs.declared.doc_fields.tags.Tag.TheVariants.{ReadOnly, Symlink, FileOffset, ByteOffset, ByteCount}
use Rattle.ltfs_documents.specs.declared.doc_fields.tags.Tag.TheVariants.{Key, Value}
use Rattle.ltfs_documents.specs.DocElements.Children.{code}
use Rattle.tape_types.specs.declared.node_keys.xattrs.Xattr.{Xattr}
use Rattle.index_model.specs.declared.indexes.Index.{Index}
use Rattle.index_model.specs.declared.indexes.Policy.{Policy}
use Rattle.index_model.specs.declared.indexes.Spot.{Spot}
use Rattle.index_model.specs.declared.nodes.RawExtent.{RawExtent}
use Rattle.ltfs_documents.specs.declared.doc_elements.schema.Container.{Container}
use Rattle.ltfs_documents.specs.declared.doc_elements.schema.Container.TheVariants as place
use Rattle.index_model.specs.declared.errors.IndexErr.{IndexErr}
use Rattle.index_model.specs.declared.faults.Fault.{Fault}
use Rattle.ltfs_documents.specs.DocElements.Schema.{place_code}
use Rattle.index_model.specs.Values.{NodeFacts, Nodes, no_nodes, directory, file, link, VolumeFacts, IndexValue, Tells}
use Rattle.ltfs_documents.specs.DocElements.Pieces.{Val, words, time, uuid, letter, number, truth, lock, bytes}
use Rattle.ltfs_documents.specs.DocElements.Elements.{Item, plain, bare, nested, Items, no_items, item, DocumentText, node_count}
use Rattle.index_model.specs.Documents.{StopsAs, fault_told}
use Rattle.index_model.specs.Refusals.{IsToldOf}
use Rattle.index_model.specs.Valid.{Agrees}

-- the first, where it is there, else the second
abbrev pub or_else : {X : Type 0} → Option X → Option X → Option X
or_else (Some x) other = Some x
or_else None other = other

-- the value of an element, where it is a leaf of this name
abbrev pub own : Tag → Item → Option Val
own tag (plain t v) = if code tag == code t then Some v else None
own tag (bare p) = None
own tag (nested p is) = None

-- the value of a leaf among children, where it is there; of several it is the last
abbrev pub told : Tag → Items → Option Val
told tag no_items = None
told tag (item i more) = or_else (told tag more) (own tag i)

-- the children of an element, where it is this parent
abbrev pub own_children : Container → Item → Option Items
own_children p (plain tag v) = None
own_children p (bare q) = if place_code p == place_code q then Some no_items else None
own_children p (nested q is) = if place_code p == place_code q then Some is else None

-- the children of a parent among children, where it is there; of several it is the last
abbrev pub inside : Container → Items → Option Items
inside p no_items = None
inside p (item i more) = or_else (inside p more) (own_children p i)

-- both are there, and one tells the other, or neither is
abbrev pub TellsMaybe : {X : Type 0} → (Items → X → Type 0) → Option Items → Option X → Type 0
TellsMaybe R None None = Unit {0}
TellsMaybe R (Some is) (Some x) = R is x
TellsMaybe R _ _ = ⊥

pub record TellsSpot (is : Items) (s : Spot) : Type 0 where
  pub letter : told Partition is ≡ Some (letter s.letter)
  pub block : told StartBlock is ≡ Some (number s.block)

-- the names among children, in their order
abbrev pub names_in : Items → List (List ℕ)
names_in no_items = []
names_in (item (plain Name (words text)) more) = text ∷ names_in more
names_in (item _ more) = names_in more

pub record TellsPolicy (is : Items) (p : Policy) : Type 0 where
  pub criteria : Items
  pub are : inside place.Criteria is ≡ Some criteria
  pub size : told Size criteria ≡ Some (number p.size)
  pub names : names_in criteria ≡ p.names

pub record TellsVolume (is : Items) (v : VolumeFacts) : Type 0 where
  pub creator : told Creator is ≡ Some (words v.creator)
  pub comment : told Comment is ≡ option_map words v.comment
  pub uuid : told VolumeUuid is ≡ Some (uuid v.uuid)
  pub generation : told GenerationNumber is ≡ Some (number v.generation)
  pub updated : told UpdateTime is ≡ Some (time v.updated)
  pub here : TellsMaybe TellsSpot (inside place.Here is) (Some v.here)
  pub back : TellsMaybe TellsSpot (inside place.Back is) v.back
  pub allow : told AllowPolicyUpdate is ≡ Some (truth v.allow)
  pub policy : TellsMaybe TellsPolicy (inside place.Policy is) v.policy
  pub lock : told VolumeLockState is ≡ option_map lock v.lock
  pub highest : told HighestFileUid is ≡ Some (number v.highest)

pub record TellsXattr (is : Items) (x : Xattr) : Type 0 where
  pub key : told Key is ≡ Some (words x.key)
  pub value : told Value is ≡ Some (bytes x.value)

-- the extended attributes among children, in their order
abbrev pub TellsXattrs : Items → List Xattr → Type 0
TellsXattrs no_items xs = xs ≡ []
TellsXattrs (item (nested place.Xattr is) more) xs =
    (x : Xattr) × (behind : List Xattr) × (xs ≡ x ∷ behind) × TellsXattr is x × TellsXattrs more behind
TellsXattrs (item _ more) xs = TellsXattrs more xs

-- the extended attributes of a node, which has none where none are told
abbrev pub HasXattrs : Option Items → List Xattr → Type 0
HasXattrs None xs = xs ≡ []
HasXattrs (Some is) xs = TellsXattrs is xs

pub record TellsFacts (is : Items) (f : NodeFacts) : Type 0 where
  pub uid : told FileUid is ≡ Some (number f.uid)
  pub name : told Name is ≡ Some (words f.name)
  pub create : told CreationTime is ≡ Some (time f.times.create)
  pub change : told ChangeTime is ≡ Some (time f.times.change)
  pub modify : told ModifyTime is ≡ Some (time f.times.modify)
  pub access : told AccessTime is ≡ Some (time f.times.access)
  pub backup : told BackupTime is ≡ Some (time f.times.backup)
  pub readonly : told ReadOnly is ≡ Some (truth f.readonly)
  pub xattrs : HasXattrs (inside place.Attributes is) f.xattrs

pub record TellsExtent (is : Items) (e : RawExtent) : Type 0 where
  pub offset : told FileOffset is ≡ Some (number e.offset)
  pub letter : told Partition is ≡ Some (letter e.letter)
  pub block : told StartBlock is ≡ Some (number e.block)
  pub byte : told ByteOffset is ≡ Some (number e.byte)
  pub count : told ByteCount is ≡ Some (number e.count)

-- the extents among children, in their order
abbrev pub TellsExtents : Items → List RawExtent → Type 0
TellsExtents no_items es = es ≡ []
TellsExtents (item (nested place.Extent is) more) es =
    (e : RawExtent) × (behind : List RawExtent) × (es ≡ e ∷ behind) × TellsExtent is e × TellsExtents more behind
TellsExtents (item _ more) es = TellsExtents more es

-- the extents of a file, which has none where none are told
abbrev pub HasExtents : Option Items → List RawExtent → Type 0
HasExtents None es = es ≡ []
HasExtents (Some is) es = TellsExtents is es

-- a file is a symbolic link where it has the text of one; its length isn't read then
pub record TellsLink (is : Items) (nodes behind : Nodes) : Type 0 where
  pub facts : NodeFacts
  pub text : List ℕ
  pub node : nodes ≡ link facts text behind
  pub tells : TellsFacts is facts
  pub told_text : told Symlink is ≡ Some (words text)

pub record TellsFile (is : Items) (nodes behind : Nodes) : Type 0 where
  pub facts : NodeFacts
  pub bytes : ℕ
  pub extents : List RawExtent
  pub node : nodes ≡ file facts bytes extents behind
  pub tells : TellsFacts is facts
  pub no_text : told Symlink is ≡ None
  pub length : told Length is ≡ Some (number bytes)
  pub has : HasExtents (inside place.ExtentInfo is) extents

abbrev mutual
  -- the nodes among children, in their order
  pub TellsNodes : Items → Nodes → Type 0
  TellsNodes no_items nodes = nodes ≡ no_nodes
  TellsNodes (item (nested place.Directory is) more) nodes =
      (facts : NodeFacts) × (inner : Nodes) × (behind : Nodes) × (nodes ≡ directory facts inner behind)
      × TellsFacts is facts × TellsContents is inner × TellsNodes more behind
  TellsNodes (item (nested place.File is) more) nodes =
      (behind : Nodes) × (TellsFile is nodes behind ⊎ TellsLink is nodes behind) × TellsNodes more behind
  TellsNodes (item _ more) nodes = TellsNodes more nodes

  -- the nodes in a directory with these children
  pub TellsContents : Items → Nodes → Type 0
  TellsContents no_items nodes = nodes ≡ no_nodes
  TellsContents (item (nested place.Contents is) more) nodes = TellsNodes is nodes
  TellsContents (item _ more) nodes = TellsContents more nodes

-- The text is a document of an index, whose elements, of which 65,536 at most are nodes, tell this value.
pub record Spells (text : List ℕ) (v : IndexValue) : Type 0 where
  pub items : Items
  pub spelled : DocumentText place.Index text items
  pub volume : TellsVolume items v.volume
  pub root_items : Items
  pub root : inside place.Root items ≡ Some root_items
  pub facts : TellsFacts root_items v.root
  pub contents : TellsContents root_items v.inside
  pub few : node_count items ≤ most_nodes

-- the text is that of an index, of which no fault is told
pub record IndexText (text : List ℕ) (index : Index) : Type 0 where
  pub value : IndexValue
  pub spells : Spells text value
  pub tells : Tells index value
  pub agrees : Agrees index

-- the text spells an index of which this fault is told
pub record SpellsFaulty (text : List ℕ) (fault : Fault) : Type 0 where
  pub value : IndexValue
  pub spells : Spells text value
  pub index : Index
  pub tells : Tells index value
  pub told : IsToldOf index fault

-- why a text is no index, and where
abbrev pub Stops : List ℕ → IndexErr → Type 0
Stops text e = StopsAs text e ⊎ ((fault : Fault) × SpellsFaulty text fault × (e ≡ fault_told fault))
