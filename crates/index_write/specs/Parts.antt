-- Parts of the text of an index. Of each node it has all of a file or a link, and of a directory what stands before its
-- children; the end of a directory follows behind them.
use Rattle.std.specs.Prelude.{ℕ, List, ◌++◌}
use Rattle.ltfs_documents.specs.declared.doc_fields.starts.Attribute.TheVariants.{Absent}
use Rattle.ltfs_documents.specs.declared.doc_fields.tags.Tag.TheVariants.{VolumeUuid, Partition, GenerationNumber, UpdateTime}
use Rattle.ltfs_documents.specs.declared.doc_fields.tags.Tag.TheVariants.{StartBlock, AllowPolicyUpdate, VolumeLockState}
use Rattle.ltfs_documents.specs.declared.doc_fields.tags.Tag.TheVariants.{HighestFileUid, Creator, Comment, Directory, File, FileUid}
use Rattle.ltfs_documents.specs.declared.doc_fields.tags.Tag.TheVariants.{Name, ReadOnly, Contents, Value}
use Rattle.tape_types.specs.Uuids.{uuid_text}
use Rattle.ltfs_documents.specs.DocFields.Values.{lock_word}
use Rattle.ltfs_documents.specs.DocFields.Written.{start_text, end_text}
use Rattle.index_model.specs.declared.nodes.NodeKind.{NodeKind}
use Rattle.index_model.specs.declared.nodes.NodeKind.TheVariants as kinds
use Rattle.index_model.specs.declared.indexes.Spot.{Spot}
use Rattle.ltfs_documents.specs.DocElements.Written.{bytes_text, bytes_type}
use Rattle.index_model.specs.Canonical.{element, number, words, time, letter, if_told, policy, name, times, truth}
use Rattle.index_model.specs.Canonical.{attributes, file_front, file_text, link_text, directory_text, nodes_text}
use Rattle.index_model.specs.Values.{IndexValue, NodeFacts, NodeValue, VolumeFacts}

-- the value of an extended attribute, as a text where it is one, else in base64
abbrev pub value_text : List ℕ → List ℕ
value_text bytes = start_text Value (bytes_type bytes) ++ bytes_text bytes ++ end_text Value

-- what is told of each node behind its name and the length of a file
unfoldable pub traits : NodeFacts → List ℕ
traits f = times f.times ++ truth ReadOnly f.readonly ++ attributes f.xattrs

-- a directory, up to its children
unfoldable pub opening : NodeFacts → List ℕ
opening f =
    start_text Directory Absent
    ++ (number FileUid f.uid ++ name Name f.name ++ traits f)
    ++ start_text Contents Absent

-- a file or a link of so many bytes, up to its own last element
unfoldable pub file_start : NodeFacts → ℕ → List ℕ
file_start f bytes = start_text File Absent ++ file_front f bytes

-- what ends a directory, behind its children
abbrev pub closing : List ℕ
closing = end_text Contents ++ end_text Directory

-- what is told of the volume in front of the pointers, and behind them
unfoldable pub volume_front : VolumeFacts → List ℕ
volume_front v =
    words Creator v.creator
    ++ if_told v.comment (words Comment)
    ++ element VolumeUuid (uuid_text v.uuid)
    ++ number GenerationNumber v.generation
    ++ time UpdateTime v.updated

-- what stands in a pointer
abbrev pub spot_text : Spot → List ℕ
spot_text s = letter Partition s.letter ++ number StartBlock s.block

unfoldable pub volume_rear : VolumeFacts → List ℕ
volume_rear v =
    truth AllowPolicyUpdate v.allow
    ++ if_told v.policy policy
    ++ if_told v.lock (λ state. element VolumeLockState (lock_word state))
    ++ number HighestFileUid v.highest

-- what stands of a node where its turn comes, by what it is
abbrev pub kind_text : NodeFacts → NodeKind → List ℕ
kind_text f kinds.Dir = opening f
kind_text f (kinds.File bytes extents) = file_text f bytes extents
kind_text f (kinds.Link text) = link_text f text

-- the same of a node as a whole
abbrev pub node_text : NodeValue → List ℕ
node_text node = kind_text node.facts node.kind

-- the text of all nodes
unfoldable pub tree_text : IndexValue → List ℕ
tree_text v = directory_text v.root (nodes_text v.inside)
