-- Which elements stand where in a document (LTFS 2.4 on the format label and on the index). Children may stand in any
-- order.
use Rattle.std.specs.Prelude.{ℕ, List, [], ◌∷◌, Bool, true, false}
use Rattle.ltfs_documents.specs.declared.doc_fields.tags.Tag.{Tag}
use Rattle.ltfs_documents.specs.declared.doc_fields.tags.Tag.TheVariants.{LtfsLabel, LtfsIndex, Creator, Comment, FormatTime}
use Rattle.ltfs_documents.specs.declared.doc_fields.tags.Tag.TheVariants.{VolumeUuid, Location, Partition, Partitions, IndexLetter}
use Rattle.ltfs_documents.specs.declared.doc_fields.tags.Tag.TheVariants.{DataLetter, BlockSize, Compression, GenerationNumber}
use Rattle.ltfs_documents.specs.declared.doc_fields.tags.Tag.TheVariants.{UpdateTime, PreviousGenerationLocation, StartBlock}
use Rattle.ltfs_documents.specs.declared.doc_fields.tags.Tag.TheVariants.{AllowPolicyUpdate, DataPlacementPolicy}
use Rattle.ltfs_documents.specs.declared.doc_fields.tags.Tag.TheVariants.{IndexPartitionCriteria, Size, VolumeLockState}
use Rattle.ltfs_documents.specs.declared.doc_fields.tags.Tag.TheVariants.{HighestFileUid, Directory, File, FileUid, Name, Length}
use Rattle.ltfs_documents.specs.declared.doc_fields.tags.Tag.TheVariants.{CreationTime, ChangeTime, ModifyTime, AccessTime, BackupTime}
use Rattle.ltfs_documents.specs.declared.doc_fields.tags.Tag.TheVariants.{ReadOnly, OpenForWrite, ExtendedAttributes, Contents}
use Rattle.ltfs_documents.specs.declared.doc_fields.tags.Tag.TheVariants.{ExtentInfo, Symlink, Extent, FileOffset, ByteOffset}
use Rattle.ltfs_documents.specs.declared.doc_fields.tags.Tag.TheVariants.{ByteCount, Xattr, Key, Value}
use Rattle.ltfs_documents.specs.declared.doc_elements.schema.Container.{Container}
use Rattle.ltfs_documents.specs.declared.doc_elements.schema.Container.TheVariants as place
use Rattle.ltfs_documents.specs.declared.doc_elements.schema.Form.{Form}
use Rattle.ltfs_documents.specs.declared.doc_elements.schema.Form.TheVariants as form
use Rattle.ltfs_documents.specs.declared.doc_elements.schema.Child.{Child}
use Rattle.ltfs_documents.specs.declared.doc_elements.schema.Child.TheVariants as child

abbrev pub label_rule : Tag → Child
label_rule Creator = child.Leaf form.Text
label_rule FormatTime = child.Leaf form.Time
label_rule VolumeUuid = child.Leaf form.Uuid
label_rule Location = child.Parent place.Own
label_rule Partitions = child.Parent place.Letters
label_rule BlockSize = child.Leaf form.BlockSize
label_rule Compression = child.Leaf form.Truth
label_rule _ = child.Unknown

-- the partition of a label
abbrev pub own_rule : Tag → Child
own_rule Partition = child.Leaf form.Letter
own_rule _ = child.Unknown

-- the partitions of a volume
abbrev pub letters_rule : Tag → Child
letters_rule IndexLetter = child.Leaf form.Letter
letters_rule DataLetter = child.Leaf form.Letter
letters_rule _ = child.Unknown

-- what directories and files have alike
abbrev pub node_rule : Form → Tag → Child
node_rule name FileUid = child.Leaf form.Number
node_rule name Name = child.Leaf name
node_rule name CreationTime = child.Leaf form.Time
node_rule name ChangeTime = child.Leaf form.Time
node_rule name ModifyTime = child.Leaf form.Time
node_rule name AccessTime = child.Leaf form.Time
node_rule name BackupTime = child.Leaf form.Time
node_rule name ReadOnly = child.Leaf form.Truth
node_rule name ExtendedAttributes = child.Parent place.Attributes
node_rule name _ = child.Unknown

abbrev pub directory_rule : Form → Tag → Child
directory_rule name Contents = child.Parent place.Contents
directory_rule name tag = node_rule name tag

abbrev pub file_rule : Tag → Child
file_rule Length = child.Leaf form.Number
file_rule OpenForWrite = child.Leaf form.Truth
file_rule ExtentInfo = child.Parent place.ExtentInfo
file_rule Symlink = child.Leaf form.AnyName
file_rule tag = node_rule form.NodeName tag

-- a place on tape
abbrev pub spot_rule : Tag → Child
spot_rule Partition = child.Leaf form.Letter
spot_rule StartBlock = child.Leaf form.Bounded
spot_rule _ = child.Unknown

abbrev pub index_rule : Tag → Child
index_rule Creator = child.Leaf form.Text
index_rule Comment = child.Leaf form.Text
index_rule VolumeUuid = child.Leaf form.Uuid
index_rule GenerationNumber = child.Leaf form.Generation
index_rule UpdateTime = child.Leaf form.Time
index_rule Location = child.Parent place.Here
index_rule PreviousGenerationLocation = child.Parent place.Back
index_rule AllowPolicyUpdate = child.Leaf form.Truth
index_rule DataPlacementPolicy = child.Parent place.Policy
index_rule VolumeLockState = child.Leaf form.Lock
index_rule HighestFileUid = child.Leaf form.Number
index_rule Directory = child.Parent place.Root
index_rule _ = child.Unknown

abbrev pub extent_rule : Tag → Child
extent_rule FileOffset = child.Leaf form.Bounded
extent_rule Partition = child.Leaf form.Letter
extent_rule StartBlock = child.Leaf form.Bounded
extent_rule ByteOffset = child.Leaf form.Bounded
extent_rule ByteCount = child.Leaf form.Bounded
extent_rule _ = child.Unknown

abbrev pub policy_rule : Tag → Child
policy_rule IndexPartitionCriteria = child.Parent place.Criteria
policy_rule _ = child.Unknown

abbrev pub criteria_rule : Tag → Child
criteria_rule Size = child.Leaf form.Bounded
criteria_rule Name = child.Leaf form.AnyName
criteria_rule _ = child.Unknown

abbrev pub contents_rule : Tag → Child
contents_rule Directory = child.Parent place.Directory
contents_rule File = child.Parent place.File
contents_rule _ = child.Unknown

abbrev pub extents_rule : Tag → Child
extents_rule Extent = child.Parent place.Extent
extents_rule _ = child.Unknown

abbrev pub attributes_rule : Tag → Child
attributes_rule Xattr = child.Parent place.Xattr
attributes_rule _ = child.Unknown

-- an extended attribute
abbrev pub xattr_rule : Tag → Child
xattr_rule Key = child.Leaf form.Key
xattr_rule Value = child.Leaf form.Value
xattr_rule _ = child.Unknown

-- what an element is as a child, by its parent
abbrev pub rule : Container → Tag → Child
rule place.Label tag = label_rule tag
rule place.Own tag = own_rule tag
rule place.Letters tag = letters_rule tag
rule place.Index tag = index_rule tag
rule place.Here tag = spot_rule tag
rule place.Back tag = spot_rule tag
rule place.Policy tag = policy_rule tag
rule place.Criteria tag = criteria_rule tag
rule place.Root tag = directory_rule form.VolumeName tag
rule place.Directory tag = directory_rule form.NodeName tag
rule place.Contents tag = contents_rule tag
rule place.File tag = file_rule tag
rule place.Attributes tag = attributes_rule tag
rule place.ExtentInfo tag = extents_rule tag
rule place.Extent tag = extent_rule tag
rule place.Xattr tag = xattr_rule tag

-- the children that a parent must have
abbrev pub required : Container → List Tag
required place.Label = Creator ∷ FormatTime ∷ VolumeUuid ∷ Location ∷ Partitions ∷ BlockSize ∷ Compression ∷ []
required place.Own = Partition ∷ []
required place.Letters = IndexLetter ∷ DataLetter ∷ []
required place.Index =
    Creator ∷ VolumeUuid ∷ GenerationNumber ∷ UpdateTime ∷ Location ∷ AllowPolicyUpdate ∷ HighestFileUid ∷ Directory
    ∷ []
required place.Here = Partition ∷ StartBlock ∷ []
required place.Back = Partition ∷ StartBlock ∷ []
required place.Policy = IndexPartitionCriteria ∷ []
required place.Criteria = Size ∷ []
required place.Root =
    FileUid ∷ Name ∷ CreationTime ∷ ChangeTime ∷ ModifyTime ∷ AccessTime ∷ BackupTime ∷ ReadOnly ∷ Contents ∷ []
required place.Directory =
    FileUid ∷ Name ∷ CreationTime ∷ ChangeTime ∷ ModifyTime ∷ AccessTime ∷ BackupTime ∷ ReadOnly ∷ Contents ∷ []
required place.Contents = []
required place.File =
    FileUid ∷ Name ∷ Length ∷ CreationTime ∷ ChangeTime ∷ ModifyTime ∷ AccessTime ∷ BackupTime ∷ ReadOnly ∷ []
required place.Attributes = []
required place.ExtentInfo = []
required place.Extent = FileOffset ∷ Partition ∷ StartBlock ∷ ByteOffset ∷ ByteCount ∷ []
required place.Xattr = Key ∷ Value ∷ []

-- the element of a parent
abbrev pub tag_of : Container → Tag
tag_of place.Label = LtfsLabel
tag_of place.Own = Location
tag_of place.Letters = Partitions
tag_of place.Index = LtfsIndex
tag_of place.Here = Location
tag_of place.Back = PreviousGenerationLocation
tag_of place.Policy = DataPlacementPolicy
tag_of place.Criteria = IndexPartitionCriteria
tag_of place.Root = Directory
tag_of place.Directory = Directory
tag_of place.Contents = Contents
tag_of place.File = File
tag_of place.Attributes = ExtendedAttributes
tag_of place.ExtentInfo = ExtentInfo
tag_of place.Extent = Extent
tag_of place.Xattr = Xattr

-- whether a parent may have an element any number of times
abbrev pub may_repeat : Container → Tag → Bool
may_repeat place.Criteria Name = true
may_repeat place.Contents Directory = true
may_repeat place.Contents File = true
may_repeat place.Attributes Xattr = true
may_repeat place.ExtentInfo Extent = true
may_repeat _ _ = false

-- the elements of a file of which it has one alone, extents or the text of a link; none of them may follow another
abbrev pub excludes : Tag → List Tag
excludes ExtentInfo = ExtentInfo ∷ Symlink ∷ []
excludes Symlink = ExtentInfo ∷ Symlink ∷ []
excludes _ = []

-- whether a parent stands for a node
abbrev pub is_node : Container → Bool
is_node place.Root = true
is_node place.Directory = true
is_node place.File = true
is_node _ = false

-- a number for each parent
abbrev pub place_code : Container → ℕ
place_code place.Index = 0
place_code place.Here = 1
place_code place.Back = 2
place_code place.Policy = 3
place_code place.Criteria = 4
place_code place.Root = 5
place_code place.Directory = 6
place_code place.Contents = 7
place_code place.File = 8
place_code place.Attributes = 9
place_code place.ExtentInfo = 10
place_code place.Extent = 11
place_code place.Label = 12
place_code place.Own = 13
place_code place.Letters = 14
place_code place.Xattr = 15
