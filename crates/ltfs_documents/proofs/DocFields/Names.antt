-- A name is one element's or none's.
use Rattle.std.proofs.Common.{◌≡◌, ℕ, ◌-◌, Bool, true, false, cond, List, [], ◌∷◌, length, get_or, Option, Some, None, refl, sym, ap, ◌∙◌, arith, ◌↔◌, IsTrue}
use Rattle.std.specs.Cmp.Lexicographic.{bytes_decides}
use Rattle.ltfs_documents.specs.declared.doc_fields.tags.Tag.{Tag}
use Rattle.ltfs_documents.specs.declared.doc_fields.tags.Tag.TheVariants.{LtfsLabel, LtfsIndex, Creator, Comment, FormatTime, VolumeUuid, Location, Partition, Partitions, IndexLetter, DataLetter, BlockSize, Compression, GenerationNumber, UpdateTime, PreviousGenerationLocation, StartBlock, AllowPolicyUpdate, DataPlacementPolicy, IndexPartitionCriteria, Size, VolumeLockState, HighestFileUid, Directory, File, FileUid, Name, Length, CreationTime, ChangeTime, ModifyTime, AccessTime, BackupTime, ReadOnly, OpenForWrite, ExtendedAttributes, Contents, ExtentInfo, Symlink, Extent, FileOffset, ByteOffset, ByteCount, Xattr, Key, Value}
use Rattle.ltfs_documents.specs.DocFields.Likely.{likely}
use Rattle.ltfs_documents.specs.DocFields.Tags.{spelled, all_tags, same, first_named, tag_named}

-- an element is found by its name
pub named : (t : Tag) → tag_named (spelled t) ≡ Some t
unfolding tag_named
named LtfsLabel = refl
named LtfsIndex = refl
named Creator = refl
named Comment = refl
named FormatTime = refl
named VolumeUuid = refl
named Location = refl
named Partition = refl
named Partitions = refl
named IndexLetter = refl
named DataLetter = refl
named BlockSize = refl
named Compression = refl
named GenerationNumber = refl
named UpdateTime = refl
named PreviousGenerationLocation = refl
named StartBlock = refl
named AllowPolicyUpdate = refl
named DataPlacementPolicy = refl
named IndexPartitionCriteria = refl
named Size = refl
named VolumeLockState = refl
named HighestFileUid = refl
named Directory = refl
named File = refl
named FileUid = refl
named Name = refl
named Length = refl
named CreationTime = refl
named ChangeTime = refl
named ModifyTime = refl
named AccessTime = refl
named BackupTime = refl
named ReadOnly = refl
named OpenForWrite = refl
named ExtendedAttributes = refl
named Contents = refl
named ExtentInfo = refl
named Symlink = refl
named Extent = refl
named FileOffset = refl
named ByteOffset = refl
named ByteCount = refl
named Xattr = refl
named Key = refl
named Value = refl

-- and is the one that its name's length and ends tell of
abbrev guess : List ℕ → Tag
guess name = likely (length name) (get_or name 0 0) (get_or name (length name - 1) 0)

guessed : (t : Tag) → guess (spelled t) ≡ t
guessed LtfsLabel = refl
guessed LtfsIndex = refl
guessed Creator = refl
guessed Comment = refl
guessed FormatTime = refl
guessed VolumeUuid = refl
guessed Location = refl
guessed Partition = refl
guessed Partitions = refl
guessed IndexLetter = refl
guessed DataLetter = refl
guessed BlockSize = refl
guessed Compression = refl
guessed GenerationNumber = refl
guessed UpdateTime = refl
guessed PreviousGenerationLocation = refl
guessed StartBlock = refl
guessed AllowPolicyUpdate = refl
guessed DataPlacementPolicy = refl
guessed IndexPartitionCriteria = refl
guessed Size = refl
guessed VolumeLockState = refl
guessed HighestFileUid = refl
guessed Directory = refl
guessed File = refl
guessed FileUid = refl
guessed Name = refl
guessed Length = refl
guessed CreationTime = refl
guessed ChangeTime = refl
guessed ModifyTime = refl
guessed AccessTime = refl
guessed BackupTime = refl
guessed ReadOnly = refl
guessed OpenForWrite = refl
guessed ExtendedAttributes = refl
guessed Contents = refl
guessed ExtentInfo = refl
guessed Symlink = refl
guessed Extent = refl
guessed FileOffset = refl
guessed ByteOffset = refl
guessed ByteCount = refl
guessed Xattr = refl
guessed Key = refl
guessed Value = refl

found : (name : List ℕ) (ts : List Tag) (t : Tag) → first_named name ts ≡ Some t → name ≡ spelled t
found name [] t e = absurd cc
found name (u ∷ ts) t e =
    let either : (v : Bool) → same name (spelled u) ≡ v → cond v (Some u) (first_named name ts) ≡ Some t → name ≡ spelled t
    = λ v. elim v as (λ v. same name (spelled u) ≡ v → cond v (Some u) (first_named name ts) ≡ Some t → name ≡ spelled t) [
      | true ↦ λ p q. (bytes_decides name (spelled u)).0 p ∙ (let r : u ≡ t = cc in ap spelled r)
      | false ↦ λ p q. found name ts t q
    ] in
    either (same name (spelled u)) refl e

named_is : (name : List ℕ) (t : Tag) → tag_named name ≡ Some t → name ≡ spelled t
unfolding tag_named
named_is name t e = found name all_tags t e

-- nothing has a name that differs from that of the one that it tells of
pub not_named : (name : List ℕ) (t : Tag) → t ≡ likely (length name) (get_or name 0 0) (get_or name (length name - 1) 0) → (name ≡ spelled t → ⊥) → None ≡ tag_named name
not_named name t g other =
    let either : (o : Option Tag) → tag_named name ≡ o → None ≡ o = λ o. elim o as (λ o. tag_named name ≡ o → None ≡ o) [
      | None ↦ λ e. refl
      | Some u ↦ λ e.
          let is : name ≡ spelled u = named_is name u e in
          let same_tag : t ≡ u = g ∙ ap guess is ∙ guessed u in
          absurd (other (is ∙ ap spelled (sym same_tag)))
    ] in
    either (tag_named name) refl

-- no element has an empty name
pub none_empty : (name : List ℕ) → length name ≡ 0 → None ≡ tag_named name
unfolding tag_named
none_empty [] e = refl
none_empty (b ∷ name) e = absurd (omega arith)

-- a test that holds just where two names are the same is that comparison
pub same_when : (b : Bool) (xs ys : List ℕ) → (IsTrue b ↔ (xs ≡ ys)) → b ≡ same xs ys
same_when true xs ys h = sym ((bytes_decides xs ys).1 (h.0 refl))
same_when false xs ys h =
    let either : (v : Bool) → same xs ys ≡ v → false ≡ v = λ v. elim v as (λ v. same xs ys ≡ v → false ≡ v) [
      | true ↦ λ e. absurd (let bad = h.1 ((bytes_decides xs ys).0 e) in cc bad)
      | false ↦ λ e. refl
    ] in
    either (same xs ys) refl ∙ refl
