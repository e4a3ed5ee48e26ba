-- The children that have stood in an element.
use Rattle.std.specs.Prelude.{◌≡◌, ℕ, ◌*◌, ◌%◌, ◌^◌, List, [], ◌∷◌, Bool, false, Option, Some, None, bit_or, ◌==◌, ◌||◌}
use Rattle.std.specs.Prelude.{if◌then◌else◌}
use Rattle.ltfs_documents.specs.declared.doc_fields.tags.Tag.{Tag}
use Rattle.ltfs_documents.specs.declared.doc_fields.tags.Tag.TheVariants.{LtfsLabel, LtfsIndex, Creator, Comment, FormatTime}
use Rattle.ltfs_documents.specs.declared.doc_fields.tags.Tag.TheVariants.{VolumeUuid, Location, Partition, Partitions, IndexLetter}
use Rattle.ltfs_documents.specs.declared.doc_fields.tags.Tag.TheVariants.{DataLetter, BlockSize, Compression, GenerationNumber}
use Rattle.ltfs_documents.specs.declared.doc_fields.tags.Tag.TheVariants.{UpdateTime, PreviousGenerationLocation, StartBlock}
use Rattle.ltfs_documents.specs.declared.doc_fields.tags.Tag.TheVariants.{AllowPolicyUpdate, DataPlacementPolicy}
use Rattle.ltfs_documents.specs.declared.doc_fields.tags.Tag.TheVariants.{IndexPartitionCriteria, Size, VolumeLockState}
use Rattle.ltfs_documents.specs.declared.doc_fields.tags.Tag.TheVariants.{HighestFileUid, Directory, File, FileUid, Name, Length}
use Rattle.ltfs_documents.specs.declared.doc_fields.tags.Tag.TheVariants.{CreationTime, ChangeTime, ModifyTime, AccessTime, BackupTime}
use Rattle.ltfs_documents.specs.declared.doc_fields.tags.Tag.TheVariants.{ReadOnly, OpenForWrite, ExtendedAttributes, Contents}
use Rattle.ltfs_documents.specs.declared.doc_fields.tags.Tag.TheVariants.{ExtentInfo, Symlink, Extent, FileOffset, ByteOffset}
use Rattle.ltfs_documents.specs.declared.doc_fields.tags.Tag.TheVariants.{ByteCount, Xattr, Key, Value}
use Rattle.ltfs_documents.specs.declared.doc_elements.children.Children.{Children}

-- a number for each element
abbrev pub code : Tag → ℕ
code LtfsLabel = 0
code LtfsIndex = 1
code Creator = 2
code Comment = 3
code FormatTime = 4
code VolumeUuid = 5
code Location = 6
code Partition = 7
code Partitions = 8
code IndexLetter = 9
code DataLetter = 10
code BlockSize = 11
code Compression = 12
code GenerationNumber = 13
code UpdateTime = 14
code PreviousGenerationLocation = 15
code StartBlock = 16
code AllowPolicyUpdate = 17
code DataPlacementPolicy = 18
code IndexPartitionCriteria = 19
code Size = 20
code VolumeLockState = 21
code HighestFileUid = 22
code Directory = 23
code File = 24
code FileUid = 25
code Name = 26
code Length = 27
code CreationTime = 28
code ChangeTime = 29
code ModifyTime = 30
code AccessTime = 31
code BackupTime = 32
code ReadOnly = 33
code OpenForWrite = 34
code ExtendedAttributes = 35
code Contents = 36
code ExtentInfo = 37
code Symlink = 38
code Extent = 39
code FileOffset = 40
code ByteOffset = 41
code ByteCount = 42
code Xattr = 43
code Key = 44
code Value = 45

abbrev pub member : Tag → List Tag → Bool
member t [] = false
member t (u ∷ ts) = code t == code u || member t ts

-- the first of these that isn't there
abbrev pub first_missing : List Tag → List Tag → Option Tag
first_missing [] seen = None
first_missing (t ∷ ts) seen = if member t seen then first_missing ts seen else Some t

-- elements as bits
abbrev pub bits_of : List Tag → ℕ
bits_of [] = 0
bits_of (t ∷ ts) = bit_or (bits_of ts) (1 * 2 ^ code t % 2 ^ 64)

-- what stands for these children, the last one first
abbrev pub children_of : List Tag → Children
children_of tags = record { bits = bits_of tags }

abbrev pub Holds : Children → List Tag → Type 0
Holds c tags = c ≡ children_of tags
