-- The names of elements.
use Rattle.std.specs.Prelude.{ℕ, List, [], ◌∷◌, Bool, true, false, Option, Some, None, nat_eq, codes, if◌then◌else◌}
use Rattle.std.specs.Cmp.Lexicographic.{pointwise}
use Rattle.ltfs_documents.specs.declared.doc_fields.tags.Tag.{Tag}
use Rattle.ltfs_documents.specs.declared.doc_fields.tags.Tag.TheVariants.{LtfsLabel, LtfsIndex, Creator, Comment, FormatTime}
use Rattle.ltfs_documents.specs.declared.doc_fields.tags.Tag.TheVariants.{VolumeUuid, Location, Partition, Partitions, IndexLetter}
use Rattle.ltfs_documents.specs.declared.doc_fields.tags.Tag.TheVariants.{DataLetter, BlockSize, Compression, GenerationNumber}
use Rattle.ltfs_documents.specs.declared.doc_fields.tags.Tag.TheVariants.{UpdateTime, PreviousGenerationLocation, StartBlock}
use Rattle.ltfs_documents.specs.declared.doc_fields.tags.Tag.TheVariants.{AllowPolicyUpdate, DataPlacementPolicy}
use Rattle.ltfs_documents.specs.declared.doc_fields.tags.Tag.TheVariants.{IndexPartitionCriteria, Size, VolumeLockState}
use Rattle.ltfs_documents.specs.declared.doc_fields.tags.Tag.TheVariants.{HighestFileUid, Directory, File, FileUid, Name, Length}
use Rattle.ltfs_documents.specs.declared.doc_fields.tags.Tag.TheVariants.{CreationTime, ChangeTime, ModifyTime, AccessTime, BackupTime}
use Rattle.ltfs_documents.specs.declared.doc_fields.tags.Tag.TheVariants.{ReadOnly, OpenForWrite, ExtendedAttributes, Contents}
use Rattle.ltfs_documents.specs.declared.doc_fields.tags.Tag.TheVariants.{ExtentInfo, Symlink, Extent, FileOffset, ByteOffset}
use Rattle.ltfs_documents.specs.declared.doc_fields.tags.Tag.TheVariants.{ByteCount, Xattr, Key, Value}

-- an element's name
abbrev pub spelled : Tag → List ℕ
spelled LtfsLabel = codes "ltfslabel"
spelled LtfsIndex = codes "ltfsindex"
spelled Creator = codes "creator"
spelled Comment = codes "comment"
spelled FormatTime = codes "formattime"
spelled VolumeUuid = codes "volumeuuid"
spelled Location = codes "location"
spelled Partition = codes "partition"
spelled Partitions = codes "partitions"
spelled IndexLetter = codes "index"
spelled DataLetter = codes "data"
spelled BlockSize = codes "blocksize"
spelled Compression = codes "compression"
spelled GenerationNumber = codes "generationnumber"
spelled UpdateTime = codes "updatetime"
spelled PreviousGenerationLocation = codes "previousgenerationlocation"
spelled StartBlock = codes "startblock"
spelled AllowPolicyUpdate = codes "allowpolicyupdate"
spelled DataPlacementPolicy = codes "dataplacementpolicy"
spelled IndexPartitionCriteria = codes "indexpartitioncriteria"
spelled Size = codes "size"
spelled VolumeLockState = codes "volumelockstate"
spelled HighestFileUid = codes "highestfileuid"
spelled Directory = codes "directory"
spelled File = codes "file"
spelled FileUid = codes "fileuid"
spelled Name = codes "name"
spelled Length = codes "length"
spelled CreationTime = codes "creationtime"
spelled ChangeTime = codes "changetime"
spelled ModifyTime = codes "modifytime"
spelled AccessTime = codes "accesstime"
spelled BackupTime = codes "backuptime"
spelled ReadOnly = codes "readonly"
spelled OpenForWrite = codes "openforwrite"
spelled ExtendedAttributes = codes "extendedattributes"
spelled Contents = codes "contents"
spelled ExtentInfo = codes "extentinfo"
spelled Symlink = codes "symlink"
spelled Extent = codes "extent"
spelled FileOffset = codes "fileoffset"
spelled ByteOffset = codes "byteoffset"
spelled ByteCount = codes "bytecount"
spelled Xattr = codes "xattr"
spelled Key = codes "key"
spelled Value = codes "value"

abbrev pub all_tags : List Tag
all_tags =
    LtfsLabel ∷ LtfsIndex ∷ Creator ∷ Comment ∷ FormatTime ∷ VolumeUuid ∷ Location ∷ Partition ∷ Partitions
    ∷ IndexLetter ∷ DataLetter ∷ BlockSize ∷ Compression ∷ GenerationNumber ∷ UpdateTime
    ∷ PreviousGenerationLocation ∷ StartBlock ∷ AllowPolicyUpdate ∷ DataPlacementPolicy ∷ IndexPartitionCriteria
    ∷ Size ∷ VolumeLockState ∷ HighestFileUid ∷ Directory ∷ File ∷ FileUid ∷ Name ∷ Length ∷ CreationTime
    ∷ ChangeTime ∷ ModifyTime ∷ AccessTime ∷ BackupTime ∷ ReadOnly ∷ OpenForWrite ∷ ExtendedAttributes
    ∷ Contents ∷ ExtentInfo ∷ Symlink ∷ Extent ∷ FileOffset ∷ ByteOffset ∷ ByteCount ∷ Xattr ∷ Key ∷ Value ∷ []

-- whether two lists of bytes are the same
abbrev pub same : List ℕ → List ℕ → Bool
same a b = pointwise nat_eq a b

abbrev pub first_named : List ℕ → List Tag → Option Tag
first_named name [] = None
first_named name (t ∷ ts) = if same name (spelled t) then Some t else first_named name ts

-- the element of a name, where there is one
unfoldable pub tag_named : List ℕ → Option Tag
tag_named name = first_named name all_tags

-- the elements with which a document begins
abbrev pub is_root : Tag → Bool
is_root LtfsLabel = true
is_root LtfsIndex = true
is_root _ = false

-- the elements whose text may be written with escapes of percent signs
abbrev pub is_escapable : Tag → Bool
is_escapable Name = true
is_escapable Symlink = true
is_escapable Key = true
is_escapable _ = false

-- the element whose text is of a type that it may tell
abbrev pub is_typed : Tag → Bool
is_typed Value = true
is_typed _ = false
