-- The one element whose name can have a length, a first byte and a last byte.
use Rattle.std.specs.Prelude.{ℕ, ◌==◌, List, [], ◌∷◌, if◌then◌else◌}
use Rattle.ltfs_documents.specs.declared.doc_fields.tags.Tag.{Tag}
use Rattle.ltfs_documents.specs.declared.doc_fields.tags.Tag.TheVariants as tag

-- what stands beside a key in a table, or else this
abbrev pub found : {A : Type 0} → ℕ → List (ℕ × A) → A → A
found key [] other = other
found key (row ∷ rows) other = if key == row.0 then row.1 else found key rows other

abbrev pub of_four : ℕ → Tag
of_four first = found first ((100, tag.DataLetter) ∷ (115, tag.Size) ∷ (102, tag.File) ∷ []) tag.Name

abbrev pub of_five : ℕ → Tag
of_five first = found first ((105, tag.IndexLetter) ∷ (120, tag.Xattr) ∷ []) tag.Value

abbrev pub of_six : ℕ → Tag
of_six first = found first ((108, tag.Length) ∷ []) tag.Extent

abbrev pub of_seven : ℕ → ℕ → Tag
of_seven first last =
    found first ((99, found last ((114, tag.Creator) ∷ []) tag.Comment) ∷ (102, tag.FileUid) ∷ []) tag.Symlink

abbrev pub of_eight : ℕ → Tag
of_eight first = found first ((108, tag.Location) ∷ (114, tag.ReadOnly) ∷ []) tag.Contents

abbrev pub of_nine : ℕ → ℕ → Tag
of_nine first last = found first (
    (108, found last ((108, tag.LtfsLabel) ∷ []) tag.LtfsIndex)
    ∷ (112, tag.Partition)
    ∷ (98, found last ((101, tag.BlockSize) ∷ []) tag.ByteCount)
    ∷ []) tag.Directory

abbrev pub of_ten : ℕ → ℕ → Tag
of_ten first last = found first (
    (102, found last ((101, tag.FormatTime) ∷ []) tag.FileOffset)
    ∷ (118, tag.VolumeUuid)
    ∷ (112, tag.Partitions)
    ∷ (117, tag.UpdateTime)
    ∷ (115, tag.StartBlock)
    ∷ (99, tag.ChangeTime)
    ∷ (109, tag.ModifyTime)
    ∷ (97, tag.AccessTime)
    ∷ (98, found last ((101, tag.BackupTime) ∷ []) tag.ByteOffset)
    ∷ []) tag.ExtentInfo

abbrev pub of_twelve : ℕ → Tag
of_twelve first = found first ((99, tag.CreationTime) ∷ []) tag.OpenForWrite

abbrev pub likely : ℕ → ℕ → ℕ → Tag
likely length first last = found length (
    (3, tag.Key)
    ∷ (4, of_four first)
    ∷ (5, of_five first)
    ∷ (6, of_six first)
    ∷ (7, of_seven first last)
    ∷ (8, of_eight first)
    ∷ (9, of_nine first last)
    ∷ (10, of_ten first last)
    ∷ (11, tag.Compression)
    ∷ (12, of_twelve first)
    ∷ (14, tag.HighestFileUid)
    ∷ (15, tag.VolumeLockState)
    ∷ (16, tag.GenerationNumber)
    ∷ (17, tag.AllowPolicyUpdate)
    ∷ (18, tag.ExtendedAttributes)
    ∷ (19, tag.DataPlacementPolicy)
    ∷ (22, tag.IndexPartitionCriteria)
    ∷ []) tag.PreviousGenerationLocation
