-- The one text of an index that is written: one line, without white space between elements, each parent's children in
-- their order (LTFS 2.4 on the index).
use Rattle.std.specs.Prelude.{ℕ, List, [], ◌∷◌, ◌++◌, Bool, true, false, codes, length, Option, Some, None}
use Rattle.std.specs.Fmt.{decimal}
use Rattle.std.specs.List.{flat_map}
use Rattle.tape_types.specs.declared.times.Civil.{Civil}
use Rattle.tape_types.specs.Times.{civil_text}
use Rattle.tape_types.specs.Uuids.{uuid_text}
use Rattle.ltfs_documents.specs.declared.doc_fields.starts.Attribute.{Attribute}
use Rattle.ltfs_documents.specs.declared.doc_fields.starts.Attribute.TheVariants.{Absent, Version, Percent}
use Rattle.ltfs_documents.specs.declared.doc_fields.tags.Tag.{Tag}
use Rattle.ltfs_documents.specs.declared.doc_fields.tags.Tag.TheVariants.{LtfsIndex, Creator, Comment, VolumeUuid, Location, Partition}
use Rattle.ltfs_documents.specs.declared.doc_fields.tags.Tag.TheVariants.{GenerationNumber, UpdateTime, PreviousGenerationLocation}
use Rattle.ltfs_documents.specs.declared.doc_fields.tags.Tag.TheVariants.{StartBlock, AllowPolicyUpdate, DataPlacementPolicy}
use Rattle.ltfs_documents.specs.declared.doc_fields.tags.Tag.TheVariants.{IndexPartitionCriteria, Size, VolumeLockState}
use Rattle.ltfs_documents.specs.declared.doc_fields.tags.Tag.TheVariants.{HighestFileUid, Directory, File, FileUid, Name, Length}
use Rattle.ltfs_documents.specs.declared.doc_fields.tags.Tag.TheVariants.{CreationTime, ChangeTime, ModifyTime, AccessTime, BackupTime}
use Rattle.ltfs_documents.specs.declared.doc_fields.tags.Tag.TheVariants.{ReadOnly, Contents, ExtentInfo, Symlink, Extent, FileOffset}
use Rattle.ltfs_documents.specs.declared.doc_fields.tags.Tag.TheVariants.{ByteOffset, ByteCount, ExtendedAttributes, Key, Value}
use Rattle.ltfs_documents.specs.declared.doc_fields.tags.Tag.TheVariants as tags
use Rattle.ltfs_documents.specs.DocFields.Values.{lock_word}
use Rattle.ltfs_documents.specs.DocFields.Written.{start_text, end_text, bool_text, escape}
use Rattle.ltfs_documents.specs.declared.ltfs_text.names.NameText.{NameText}
use Rattle.ltfs_documents.specs.LtfsText.Names.{written}
use Rattle.tape_types.specs.declared.node_keys.xattrs.Xattr.{Xattr}
use Rattle.ltfs_documents.specs.DocElements.Written.{bytes_text, bytes_type}
pub use Rattle.ltfs_documents.specs.DocElements.Written.{element, encoding, head}
use Rattle.index_model.specs.declared.indexes.Policy.{Policy}
use Rattle.index_model.specs.declared.indexes.Spot.{Spot}
use Rattle.index_model.specs.declared.nodes.RawExtent.{RawExtent}
use Rattle.index_model.specs.Values.{TimesValue, NodeFacts, Nodes, no_nodes, directory, file, link, VolumeFacts}
use Rattle.index_model.specs.Values.{IndexValue}

abbrev pub number : Tag → ℕ → List ℕ
number tag n = element tag (decimal n)

abbrev pub truth : Tag → Bool → List ℕ
truth tag is = element tag (bool_text is)

abbrev pub time : Tag → Civil → List ℕ
time tag c = element tag (civil_text c)

abbrev pub letter : Tag → ℕ → List ℕ
letter tag byte = element tag (byte ∷ [])

abbrev pub words : Tag → List ℕ → List ℕ
words tag text = element tag (escape text)

-- a name and its kin are percent-encoded where they have to be, and their element says so
abbrev pub name : Tag → List ℕ → List ℕ
name tag text = start_text tag (encoding (written text)) ++ escape (written text).text ++ end_text tag

-- what may be told is written where it is
abbrev pub if_told : {X : Type 0} → Option X → (X → List ℕ) → List ℕ
if_told None text = []
if_told (Some x) text = text x

abbrev pub spot : Tag → Spot → List ℕ
spot tag s = element tag (letter Partition s.letter ++ number StartBlock s.block)

abbrev pub policy : Policy → List ℕ
policy p =
    element DataPlacementPolicy (element IndexPartitionCriteria (number Size p.size ++ flat_map (name Name) p.names))

abbrev pub times : TimesValue → List ℕ
times t =
    time CreationTime t.create ++ time ChangeTime t.change ++ time ModifyTime t.modify ++ time AccessTime t.access
    ++ time BackupTime t.backup

abbrev pub extent : RawExtent → List ℕ
extent e = element Extent (
    number FileOffset e.offset
    ++ letter Partition e.letter
    ++ number StartBlock e.block
    ++ number ByteOffset e.byte
    ++ number ByteCount e.count)

-- an extended attribute: its key as a name, its value as a text where it is one, else in base64
abbrev pub xattr : Xattr → List ℕ
xattr x = element tags.Xattr (
    name Key x.key ++ start_text Value (bytes_type x.value) ++ bytes_text x.value ++ end_text Value)

-- those of a node, in their order; where there are none, there is no element
abbrev pub attributes : List Xattr → List ℕ
attributes [] = []
attributes (x ∷ xs) = element ExtendedAttributes (flat_map xattr (x ∷ xs))

-- a directory, a file and a symbolic link; the length of a link is that of its text in bytes
abbrev pub directory_text : NodeFacts → List ℕ → List ℕ
directory_text f inside =
    element Directory (number FileUid f.uid ++ name Name f.name ++ times f.times ++ truth ReadOnly f.readonly
    ++ attributes f.xattrs ++ element Contents inside)

abbrev pub file_front : NodeFacts → ℕ → List ℕ
file_front f bytes =
    number FileUid f.uid ++ name Name f.name ++ number Length bytes ++ times f.times ++ truth ReadOnly f.readonly
    ++ attributes f.xattrs

abbrev pub file_text : NodeFacts → ℕ → List RawExtent → List ℕ
file_text f bytes extents = element File (file_front f bytes ++ element ExtentInfo (flat_map extent extents))

abbrev pub link_text : NodeFacts → List ℕ → List ℕ
link_text f text = element File (file_front f (length text) ++ name Symlink text)

-- the nodes of a directory, one behind the other
abbrev pub nodes_text : Nodes → List ℕ
nodes_text no_nodes = []
nodes_text (directory f inside behind) = directory_text f (nodes_text inside) ++ nodes_text behind
nodes_text (file f bytes extents behind) = file_text f bytes extents ++ nodes_text behind
nodes_text (link f text behind) = link_text f text ++ nodes_text behind

abbrev pub volume_text : VolumeFacts → List ℕ
volume_text v =
    words Creator v.creator
    ++ if_told v.comment (words Comment)
    ++ element VolumeUuid (uuid_text v.uuid)
    ++ number GenerationNumber v.generation
    ++ time UpdateTime v.updated
    ++ spot Location v.here
    ++ if_told v.back (spot PreviousGenerationLocation)
    ++ truth AllowPolicyUpdate v.allow
    ++ if_told v.policy policy
    ++ if_told v.lock (λ state. element VolumeLockState (lock_word state))
    ++ number HighestFileUid v.highest

unfoldable pub canonical : IndexValue → List ℕ
canonical v =
    head ++ start_text LtfsIndex Version ++ (volume_text v.volume ++ directory_text v.root (nodes_text v.inside))
    ++ end_text LtfsIndex
