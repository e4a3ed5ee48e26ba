-- Tags as bits.
use Rattle.std.proofs.Common.{◌≡◌, ℕ, ◌/◌, ◌^◌, ◌<◌, Bool, true, false, cond, eqb, List, [], ◌∷◌, bit_and, nat_eq, refl, ◌∙◌, arith, inl, inr}
use Rattle.std.specs.Int.{bit_at, w64}
use Rattle.std.proofs.lemmas.Bool.{cases_eq}
use Rattle.std.proofs.lemmas.Bool.Decides.{nat_tests}
use Rattle.std.proofs.lemmas.Nat.Bits.{shr_and_one, bit_at-zero, bit_at_set_same, bit_at_set_other}
use Rattle.ltfs_documents.specs.declared.doc_fields.tags.Tag.{Tag}
use Rattle.ltfs_documents.specs.declared.doc_fields.tags.Tag.TheVariants.{LtfsLabel, LtfsIndex, Creator, Comment, FormatTime, VolumeUuid, Location, Partition, Partitions, IndexLetter, DataLetter, BlockSize, Compression, GenerationNumber, UpdateTime, PreviousGenerationLocation, StartBlock, AllowPolicyUpdate, DataPlacementPolicy, IndexPartitionCriteria, Size, VolumeLockState, HighestFileUid, Directory, File, FileUid, Name, Length, CreationTime, ChangeTime, ModifyTime, AccessTime, BackupTime, ReadOnly, OpenForWrite, ExtendedAttributes, Contents, ExtentInfo, Symlink, Extent, FileOffset, ByteOffset, ByteCount, Xattr, Key, Value}
use Rattle.ltfs_documents.specs.DocElements.Children.{code, member, bits_of}

code_small : (t : Tag) → code t < 64
code_small LtfsLabel = omega arith
code_small LtfsIndex = omega arith
code_small Creator = omega arith
code_small Comment = omega arith
code_small FormatTime = omega arith
code_small VolumeUuid = omega arith
code_small Location = omega arith
code_small Partition = omega arith
code_small Partitions = omega arith
code_small IndexLetter = omega arith
code_small DataLetter = omega arith
code_small BlockSize = omega arith
code_small Compression = omega arith
code_small GenerationNumber = omega arith
code_small UpdateTime = omega arith
code_small PreviousGenerationLocation = omega arith
code_small StartBlock = omega arith
code_small AllowPolicyUpdate = omega arith
code_small DataPlacementPolicy = omega arith
code_small IndexPartitionCriteria = omega arith
code_small Size = omega arith
code_small VolumeLockState = omega arith
code_small HighestFileUid = omega arith
code_small Directory = omega arith
code_small File = omega arith
code_small FileUid = omega arith
code_small Name = omega arith
code_small Length = omega arith
code_small CreationTime = omega arith
code_small ChangeTime = omega arith
code_small ModifyTime = omega arith
code_small AccessTime = omega arith
code_small BackupTime = omega arith
code_small ReadOnly = omega arith
code_small OpenForWrite = omega arith
code_small ExtendedAttributes = omega arith
code_small Contents = omega arith
code_small ExtentInfo = omega arith
code_small Symlink = omega arith
code_small Extent = omega arith
code_small FileOffset = omega arith
code_small ByteOffset = omega arith
code_small ByteCount = omega arith
code_small Xattr = omega arith
code_small Key = omega arith
code_small Value = omega arith

abbrev bit : Bool → ℕ
bit b = cond b 1 0

bit_is : (t : Tag) (ts : List Tag) → bit_at (bits_of ts) (code t) ≡ bit (member t ts)
bit_is t [] = bit_at-zero (code t)
bit_is t (u ∷ ts) = elim (cases_eq (code t) (code u)) [
  | inl e ↦
      let test : eqb (code t) (code u) ≡ true = grind (arith, nat_tests) in
      rw (test, e) (bit_at_set_same w64 (bits_of ts) (code u) (code_small u))
  | inr ne ↦
      let test : eqb (code t) (code u) ≡ false = grind (arith, nat_tests) in
      rw test (bit_at_set_other w64 (bits_of ts) (code u) (code_small u) (code t) ne ∙ bit_is t ts)
]

test_bit : (b : Bool) → nat_eq (bit b) 1 ≡ b
test_bit true = refl
test_bit false = refl

-- the bit of an element is set just if the element is among those
pub has_is : (t : Tag) (ts : List Tag) → nat_eq (bit_and (bits_of ts / 2 ^ code t) 1) 1 ≡ member t ts
has_is t ts = rw (shr_and_one (bits_of ts) (code t), bit_is t ts) (test_bit (member t ts))
