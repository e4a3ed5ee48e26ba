-- The tags that are written are read again.
use Rattle.std.proofs.Common.{◌≡◌, ℕ, ◌+◌, Bool, true, false, eqb, ltb, ◌||◌, List, [], ◌∷◌, ◌++◌, length, get_or, drop, codes, not, Some, None, Ok, refl, sym, ap, ◌∙◌, append_assoc, add-zero, arith, length-append}
use Rattle.std.proofs.lemmas.Bool.Decides.{nat_tests}
use Rattle.std.proofs.lemmas.List.{get_or-drop}
use Rattle.ltfs_documents.specs.declared.doc_fields.tags.Tag.{Tag}
use Rattle.ltfs_documents.specs.declared.doc_fields.tags.Tag.TheVariants.{LtfsLabel, LtfsIndex, Creator, Comment, FormatTime, VolumeUuid, Location, Partition, Partitions, IndexLetter, DataLetter, BlockSize, Compression, GenerationNumber, UpdateTime, PreviousGenerationLocation, StartBlock, AllowPolicyUpdate, DataPlacementPolicy, IndexPartitionCriteria, Size, VolumeLockState, HighestFileUid, Directory, File, FileUid, Name, Length, CreationTime, ChangeTime, ModifyTime, AccessTime, BackupTime, ReadOnly, OpenForWrite, ExtendedAttributes, Contents, ExtentInfo, Symlink, Extent, FileOffset, ByteOffset, ByteCount, Xattr, Key, Value}
use Rattle.ltfs_documents.specs.declared.doc_fields.starts.Attribute.{Attribute}
use Rattle.ltfs_documents.specs.declared.doc_fields.starts.Attribute.TheVariants.{Absent, Version, Percent, Base64, Plain}
use Rattle.ltfs_documents.specs.DocFields.Space.{is_space, run_end, space_end}
use Rattle.ltfs_documents.specs.DocFields.Tags.{spelled, is_root, is_escapable, is_typed}
use Rattle.ltfs_documents.specs.DocFields.StartTag.{begins_name, in_name, name_at, quoted_at, is_version, is_known, attribute_at, value_at, closes_at, behind_at, rest_at, named_at, start_at}
use Rattle.ltfs_documents.specs.DocFields.EndTag.{end_at}
use Rattle.ltfs_documents.specs.DocFields.Written.{attribute_text, start_text, end_text, may_have}
use Rattle.ltfs_documents.proofs.DocFields.Names.{named}
use Rattle.ltfs_documents.proofs.DocFields.Again.{byte_is, next_is, within, between_again, one_again, literal_again, all_pass, run_again, space_again, space_before}

name_good : (t : Tag) → (begins_name (get_or (spelled t) 0 0) ≡ true) × (all_pass in_name (spelled t) ≡ true) × (ltb 0 (length (spelled t)) ≡ true)
name_good LtfsLabel = (refl, refl, refl)
name_good LtfsIndex = (refl, refl, refl)
name_good Creator = (refl, refl, refl)
name_good Comment = (refl, refl, refl)
name_good FormatTime = (refl, refl, refl)
name_good VolumeUuid = (refl, refl, refl)
name_good Location = (refl, refl, refl)
name_good Partition = (refl, refl, refl)
name_good Partitions = (refl, refl, refl)
name_good IndexLetter = (refl, refl, refl)
name_good DataLetter = (refl, refl, refl)
name_good BlockSize = (refl, refl, refl)
name_good Compression = (refl, refl, refl)
name_good GenerationNumber = (refl, refl, refl)
name_good UpdateTime = (refl, refl, refl)
name_good PreviousGenerationLocation = (refl, refl, refl)
name_good StartBlock = (refl, refl, refl)
name_good AllowPolicyUpdate = (refl, refl, refl)
name_good DataPlacementPolicy = (refl, refl, refl)
name_good IndexPartitionCriteria = (refl, refl, refl)
name_good Size = (refl, refl, refl)
name_good VolumeLockState = (refl, refl, refl)
name_good HighestFileUid = (refl, refl, refl)
name_good Directory = (refl, refl, refl)
name_good File = (refl, refl, refl)
name_good FileUid = (refl, refl, refl)
name_good Name = (refl, refl, refl)
name_good Length = (refl, refl, refl)
name_good CreationTime = (refl, refl, refl)
name_good ChangeTime = (refl, refl, refl)
name_good ModifyTime = (refl, refl, refl)
name_good AccessTime = (refl, refl, refl)
name_good BackupTime = (refl, refl, refl)
name_good ReadOnly = (refl, refl, refl)
name_good OpenForWrite = (refl, refl, refl)
name_good ExtendedAttributes = (refl, refl, refl)
name_good Contents = (refl, refl, refl)
name_good ExtentInfo = (refl, refl, refl)
name_good Symlink = (refl, refl, refl)
name_good Extent = (refl, refl, refl)
name_good FileOffset = (refl, refl, refl)
name_good ByteOffset = (refl, refl, refl)
name_good ByteCount = (refl, refl, refl)
name_good Xattr = (refl, refl, refl)
name_good Key = (refl, refl, refl)
name_good Value = (refl, refl, refl)

no_root : (t : Tag) → is_escapable t ≡ true → is_root t ≡ false
no_root LtfsLabel e = absurd cc
no_root LtfsIndex e = absurd cc
no_root Creator e = absurd cc
no_root Comment e = absurd cc
no_root FormatTime e = absurd cc
no_root VolumeUuid e = absurd cc
no_root Location e = absurd cc
no_root Partition e = absurd cc
no_root Partitions e = absurd cc
no_root IndexLetter e = absurd cc
no_root DataLetter e = absurd cc
no_root BlockSize e = absurd cc
no_root Compression e = absurd cc
no_root GenerationNumber e = absurd cc
no_root UpdateTime e = absurd cc
no_root PreviousGenerationLocation e = absurd cc
no_root StartBlock e = absurd cc
no_root AllowPolicyUpdate e = absurd cc
no_root DataPlacementPolicy e = absurd cc
no_root IndexPartitionCriteria e = absurd cc
no_root Size e = absurd cc
no_root VolumeLockState e = absurd cc
no_root HighestFileUid e = absurd cc
no_root Directory e = absurd cc
no_root File e = absurd cc
no_root FileUid e = absurd cc
no_root Name e = refl
no_root Length e = absurd cc
no_root CreationTime e = absurd cc
no_root ChangeTime e = absurd cc
no_root ModifyTime e = absurd cc
no_root AccessTime e = absurd cc
no_root BackupTime e = absurd cc
no_root ReadOnly e = absurd cc
no_root OpenForWrite e = absurd cc
no_root ExtendedAttributes e = absurd cc
no_root Contents e = absurd cc
no_root ExtentInfo e = absurd cc
no_root Symlink e = refl
no_root Extent e = absurd cc
no_root FileOffset e = absurd cc
no_root ByteOffset e = absurd cc
no_root ByteCount e = absurd cc
no_root Xattr e = absurd cc
no_root Key e = refl
no_root Value e = absurd cc

no_type : (t : Tag) → is_escapable t ≡ true → is_typed t ≡ false
no_type LtfsLabel e = absurd cc
no_type LtfsIndex e = absurd cc
no_type Creator e = absurd cc
no_type Comment e = absurd cc
no_type FormatTime e = absurd cc
no_type VolumeUuid e = absurd cc
no_type Location e = absurd cc
no_type Partition e = absurd cc
no_type Partitions e = absurd cc
no_type IndexLetter e = absurd cc
no_type DataLetter e = absurd cc
no_type BlockSize e = absurd cc
no_type Compression e = absurd cc
no_type GenerationNumber e = absurd cc
no_type UpdateTime e = absurd cc
no_type PreviousGenerationLocation e = absurd cc
no_type StartBlock e = absurd cc
no_type AllowPolicyUpdate e = absurd cc
no_type DataPlacementPolicy e = absurd cc
no_type IndexPartitionCriteria e = absurd cc
no_type Size e = absurd cc
no_type VolumeLockState e = absurd cc
no_type HighestFileUid e = absurd cc
no_type Directory e = absurd cc
no_type File e = absurd cc
no_type FileUid e = absurd cc
no_type Name e = refl
no_type Length e = absurd cc
no_type CreationTime e = absurd cc
no_type ChangeTime e = absurd cc
no_type ModifyTime e = absurd cc
no_type AccessTime e = absurd cc
no_type BackupTime e = absurd cc
no_type ReadOnly e = absurd cc
no_type OpenForWrite e = absurd cc
no_type ExtendedAttributes e = absurd cc
no_type Contents e = absurd cc
no_type ExtentInfo e = absurd cc
no_type Symlink e = refl
no_type Extent e = absurd cc
no_type FileOffset e = absurd cc
no_type ByteOffset e = absurd cc
no_type ByteCount e = absurd cc
no_type Xattr e = absurd cc
no_type Key e = refl
no_type Value e = absurd cc

typed : (t : Tag) → is_typed t ≡ true → (is_root t ≡ false) × (is_escapable t ≡ false)
typed LtfsLabel e = absurd cc
typed LtfsIndex e = absurd cc
typed Creator e = absurd cc
typed Comment e = absurd cc
typed FormatTime e = absurd cc
typed VolumeUuid e = absurd cc
typed Location e = absurd cc
typed Partition e = absurd cc
typed Partitions e = absurd cc
typed IndexLetter e = absurd cc
typed DataLetter e = absurd cc
typed BlockSize e = absurd cc
typed Compression e = absurd cc
typed GenerationNumber e = absurd cc
typed UpdateTime e = absurd cc
typed PreviousGenerationLocation e = absurd cc
typed StartBlock e = absurd cc
typed AllowPolicyUpdate e = absurd cc
typed DataPlacementPolicy e = absurd cc
typed IndexPartitionCriteria e = absurd cc
typed Size e = absurd cc
typed VolumeLockState e = absurd cc
typed HighestFileUid e = absurd cc
typed Directory e = absurd cc
typed File e = absurd cc
typed FileUid e = absurd cc
typed Name e = absurd cc
typed Length e = absurd cc
typed CreationTime e = absurd cc
typed ChangeTime e = absurd cc
typed ModifyTime e = absurd cc
typed AccessTime e = absurd cc
typed BackupTime e = absurd cc
typed ReadOnly e = absurd cc
typed OpenForWrite e = absurd cc
typed ExtendedAttributes e = absurd cc
typed Contents e = absurd cc
typed ExtentInfo e = absurd cc
typed Symlink e = absurd cc
typed Extent e = absurd cc
typed FileOffset e = absurd cc
typed ByteOffset e = absurd cc
typed ByteCount e = absurd cc
typed Xattr e = absurd cc
typed Key e = absurd cc
typed Value e = (refl, refl)

first_of : (s rest : List ℕ) → ltb 0 (length s) ≡ true → get_or (s ++ rest) 0 0 ≡ get_or s 0 0
first_of [] rest e = absurd cc
first_of (b ∷ s) rest e = refl

word_again : (w text : List ℕ) (at c : ℕ) (rest : List ℕ) → ltb 0 (length w) ≡ true → begins_name (get_or w 0 0) ≡ true → all_pass in_name w ≡ true → drop at text ≡ w ++ c ∷ rest → in_name c ≡ false → name_at text at ≡ Ok (at + length w)
unfolding name_at
word_again w text at c rest some begin all e stop =
    let first : get_or text at 0 ≡ get_or w 0 0 = rw (← add-zero at) (sym (get_or-drop at text 0 0) ∙ ap (λ (s : List ℕ). get_or s 0 0) e ∙ first_of w (c ∷ rest) some) in
    let begins : begins_name (get_or text at 0) ≡ true = ap begins_name first ∙ begin in
    let run : run_end in_name at (drop at text) ≡ at + length w = ap (run_end in_name at) e ∙ run_again in_name w c rest at all stop in
    let inside = within text (at + length w) c rest (next_is text at w (c ∷ rest) e) in
    let test : eqb (at + length w) (length text) ≡ false = grind (arith, nat_tests) in
    rw (begins, run, test) refl

named_again : (text : List ℕ) (at : ℕ) (t : Tag) (c : ℕ) (rest : List ℕ) → drop at text ≡ 60 ∷ spelled t ++ c ∷ rest → in_name c ≡ false → named_at text at ≡ Ok (t, at + 1 + length (spelled t))
unfolding named_at
named_again text at t c rest e stop =
    let g = name_good t in
    let after = next_is text at (60 ∷ []) (spelled t ++ c ∷ rest) e in
    let name = between_again text (at + 1) (spelled t) (c ∷ rest) after in
    rw (one_again text at 60 (spelled t ++ c ∷ rest) e, word_again (spelled t) text (at + 1) c rest g.2 g.0 g.1 after stop, name, named t) refl

-- no double quote
abbrev pub no_quote : ℕ → Bool
no_quote b = not (eqb b 34)

-- a value in double quotes, with none inside, is read to its closing quote
pub quoted_again : (text : List ℕ) (at : ℕ) (v rest : List ℕ) → all_pass no_quote v ≡ true → drop at text ≡ 34 ∷ v ++ 34 ∷ rest → quoted_at text at ≡ Ok (at + 1 + length v)
unfolding quoted_at
quoted_again text at v rest ok e =
    let q = byte_is text at 34 (v ++ 34 ∷ rest) e in
    let a = next_is text at (34 ∷ []) (v ++ 34 ∷ rest) e in
    let run : run_end no_quote (at + 1) (drop (at + 1) text) ≡ at + 1 + length v = ap (run_end no_quote (at + 1)) a ∙ run_again no_quote v 34 rest (at + 1) ok refl in
    let inside = within text (at + 1 + length v) 34 rest (next_is text (at + 1) v (34 ∷ rest) a) in
    let test : eqb (at + 1 + length v) (length text) ≡ false = grind (arith, nat_tests) in
    rw (q, run, test) refl

value_again : (text : List ℕ) (at : ℕ) (v rest : List ℕ) → all_pass no_quote v ≡ true → drop at text ≡ 61 ∷ 34 ∷ v ++ 34 ∷ rest → value_at text at ≡ Ok (at + 1 + 1, at + 1 + 1 + length v)
unfolding value_at
value_again text at v rest ok e =
    let s = space_again text at 61 (34 ∷ v ++ 34 ∷ rest) e refl in
    let o = one_again text at 61 (34 ∷ v ++ 34 ∷ rest) e in
    let a = next_is text at (61 ∷ []) (34 ∷ v ++ 34 ∷ rest) e in
    let s2 = space_again text (at + 1) 34 (v ++ 34 ∷ rest) a refl in
    let q = quoted_again text (at + 1) v rest ok a in
    rw (s, o, s2, q) refl

known_again : (tag : Tag) (b : ℕ) (more text : List ℕ) (from at : ℕ) (rest : List ℕ) → is_known tag (b ∷ more) ≡ true → is_space b ≡ false → (eqb b 62 || eqb b 47) ≡ false → begins_name b ≡ true → ltb 0 (length (b ∷ more)) ≡ true → all_pass in_name (b ∷ more) ≡ true → drop at text ≡ 32 ∷ b ∷ more ++ 61 ∷ rest
    → attribute_at tag from text at ≡ Ok (Some (at + 1, at + 1 + length (b ∷ more)))
unfolding attribute_at
known_again tag b more text from at rest known no_space other begin some all e =
    let a = next_is text at (32 ∷ []) (b ∷ more ++ 61 ∷ rest) e in
    let s = space_before text at b (more ++ 61 ∷ rest) e no_space in
    let first = byte_is text (at + 1) b (more ++ 61 ∷ rest) a in
    let n = word_again (b ∷ more) text (at + 1) 61 rest some begin all a refl in
    let apart : eqb (at + 1) at ≡ false = grind (arith, nat_tests) in
    let word = between_again text (at + 1) (b ∷ more) (61 ∷ rest) a in
    rw (s, first, other, apart, n, word, known) refl

none_again : (text : List ℕ) (tag : Tag) (from at : ℕ) (rest : List ℕ) → drop at text ≡ 62 ∷ rest → attribute_at tag from text at ≡ Ok None
unfolding attribute_at
none_again text tag from at rest e =
    let b = byte_is text at 62 rest e in
    rw (space_again text at 62 rest e refl, b) refl

closes_again : (text : List ℕ) (tag : Tag) (a : Attribute) (at : ℕ) (rest : List ℕ) → drop at text ≡ 62 ∷ rest → closes_at tag a text (space_end text at) ≡ Ok (record { tag = tag; attribute = a; empty = false; next = at + 1 })
unfolding closes_at
closes_again text tag a at rest e =
    let b = byte_is text at 62 rest e in
    rw (space_again text at 62 rest e refl, b) refl

behind_again : (text : List ℕ) (tag : Tag) (a : Attribute) (from at : ℕ) (rest : List ℕ) → drop at text ≡ 62 ∷ rest → behind_at tag a from text at ≡ Ok (record { tag = tag; attribute = a; empty = false; next = at + 1 })
unfolding behind_at
behind_again text tag a from at rest e = rw (none_again text tag from at rest e, closes_again text tag a at rest e) refl

plain_again : (text : List ℕ) (tag : Tag) (from at : ℕ) (rest : List ℕ) → is_root tag ≡ false → drop at text ≡ 62 ∷ rest → rest_at tag from text at ≡ Ok (record { tag = tag; attribute = Absent; empty = false; next = at + 1 })
unfolding rest_at
plain_again text tag from at rest other e = rw (none_again text tag from at rest e, other, closes_again text tag Absent at rest e) refl

abbrev v240 : List ℕ
v240 = codes "2.4.0"

is_read : is_version v240 ≡ true
unfolding is_version
is_read = refl

version_again : (text : List ℕ) (tag : Tag) (from at : ℕ) (rest : List ℕ) → is_root tag ≡ true → drop at text ≡ codes " version=\"2.4.0\"" ++ 62 ∷ rest → rest_at tag from text at ≡ Ok (record { tag = tag; attribute = Version; empty = false; next = at + 17 })
unfolding rest_at
version_again text tag from at rest root e =
    let known : is_known tag (codes "version") ≡ true = rw root refl in
    let k = known_again tag 118 (codes "ersion") text from at (34 ∷ v240 ++ 34 ∷ 62 ∷ rest) known refl refl refl refl refl e in
    let a = next_is text at (codes " version") (61 ∷ 34 ∷ v240 ++ 34 ∷ 62 ∷ rest) e in
    let there : at + 1 + 7 ≡ at + 8 = omega arith in
    let v = value_again text (at + 8) v240 (62 ∷ rest) refl a in
    let c = next_is text at (codes " version=\"") (v240 ++ 34 ∷ 62 ∷ rest) e in
    let begin : at + 8 + 1 + 1 ≡ at + 10 = omega arith in
    let word = between_again text (at + 10) v240 (34 ∷ 62 ∷ rest) c in
    let b = next_is text at (codes " version=\"2.4.0\"") (62 ∷ rest) e in
    let behind : at + 10 + 5 + 1 ≡ at + 16 = omega arith in
    let h = behind_again text tag Version from (at + 16) rest b in
    let last : at + 16 + 1 ≡ at + 17 = omega arith in
    rw (k, root, there, v, begin, word, is_read, behind, h, last) refl

percent_true : (text : List ℕ) (tag : Tag) (from at : ℕ) (rest : List ℕ) → is_escapable tag ≡ true → drop at text ≡ codes " percentencoded=\"true\"" ++ 62 ∷ rest → rest_at tag from text at ≡ Ok (record { tag = tag; attribute = Percent true; empty = false; next = at + 23 })
unfolding rest_at
percent_true text tag from at rest may e =
    let other = no_root tag may in
    let plain = no_type tag may in
    let known : is_known tag (codes "percentencoded") ≡ true = rw (other, may) refl in
    let k = known_again tag 112 (codes "ercentencoded") text from at (34 ∷ codes "true" ++ 34 ∷ 62 ∷ rest) known refl refl refl refl refl e in
    let a = next_is text at (codes " percentencoded") (61 ∷ 34 ∷ codes "true" ++ 34 ∷ 62 ∷ rest) e in
    let there : at + 1 + 14 ≡ at + 15 = omega arith in
    let v = value_again text (at + 15) (codes "true") (62 ∷ rest) refl a in
    let c = next_is text at (codes " percentencoded=\"") (codes "true" ++ 34 ∷ 62 ∷ rest) e in
    let begin : at + 15 + 1 + 1 ≡ at + 17 = omega arith in
    let word = between_again text (at + 17) (codes "true") (34 ∷ 62 ∷ rest) c in
    let b = next_is text at (codes " percentencoded=\"true\"") (62 ∷ rest) e in
    let behind : at + 17 + 4 + 1 ≡ at + 22 = omega arith in
    let h = behind_again text tag (Percent true) from (at + 22) rest b in
    let last : at + 22 + 1 ≡ at + 23 = omega arith in
    rw (k, other, there, v, begin, word, plain, behind, h, last) refl

percent_false : (text : List ℕ) (tag : Tag) (from at : ℕ) (rest : List ℕ) → is_escapable tag ≡ true → drop at text ≡ codes " percentencoded=\"false\"" ++ 62 ∷ rest → rest_at tag from text at ≡ Ok (record { tag = tag; attribute = Percent false; empty = false; next = at + 24 })
unfolding rest_at
percent_false text tag from at rest may e =
    let other = no_root tag may in
    let plain = no_type tag may in
    let known : is_known tag (codes "percentencoded") ≡ true = rw (other, may) refl in
    let k = known_again tag 112 (codes "ercentencoded") text from at (34 ∷ codes "false" ++ 34 ∷ 62 ∷ rest) known refl refl refl refl refl e in
    let a = next_is text at (codes " percentencoded") (61 ∷ 34 ∷ codes "false" ++ 34 ∷ 62 ∷ rest) e in
    let there : at + 1 + 14 ≡ at + 15 = omega arith in
    let v = value_again text (at + 15) (codes "false") (62 ∷ rest) refl a in
    let c = next_is text at (codes " percentencoded=\"") (codes "false" ++ 34 ∷ 62 ∷ rest) e in
    let begin : at + 15 + 1 + 1 ≡ at + 17 = omega arith in
    let word = between_again text (at + 17) (codes "false") (34 ∷ 62 ∷ rest) c in
    let b = next_is text at (codes " percentencoded=\"false\"") (62 ∷ rest) e in
    let behind : at + 17 + 5 + 1 ≡ at + 23 = omega arith in
    let h = behind_again text tag (Percent false) from (at + 23) rest b in
    let last : at + 23 + 1 ≡ at + 24 = omega arith in
    rw (k, other, there, v, begin, word, plain, behind, h, last) refl

type_base64 : (text : List ℕ) (tag : Tag) (from at : ℕ) (rest : List ℕ) → is_typed tag ≡ true → drop at text ≡ codes " type=\"base64\"" ++ 62 ∷ rest → rest_at tag from text at ≡ Ok (record { tag = tag; attribute = Base64; empty = false; next = at + 15 })
unfolding rest_at
type_base64 text tag from at rest may e =
    let other = (typed tag may).0 in
    let plain = (typed tag may).1 in
    let known : is_known tag (codes "type") ≡ true = rw (other, plain, may) refl in
    let k = known_again tag 116 (codes "ype") text from at (34 ∷ codes "base64" ++ 34 ∷ 62 ∷ rest) known refl refl refl refl refl e in
    let a = next_is text at (codes " type") (61 ∷ 34 ∷ codes "base64" ++ 34 ∷ 62 ∷ rest) e in
    let there : at + 1 + 4 ≡ at + 5 = omega arith in
    let v = value_again text (at + 5) (codes "base64") (62 ∷ rest) refl a in
    let c = next_is text at (codes " type=\"") (codes "base64" ++ 34 ∷ 62 ∷ rest) e in
    let begin : at + 5 + 1 + 1 ≡ at + 7 = omega arith in
    let word = between_again text (at + 7) (codes "base64") (34 ∷ 62 ∷ rest) c in
    let b = next_is text at (codes " type=\"base64\"") (62 ∷ rest) e in
    let behind : at + 7 + 6 + 1 ≡ at + 14 = omega arith in
    let h = behind_again text tag Base64 from (at + 14) rest b in
    let last : at + 14 + 1 ≡ at + 15 = omega arith in
    rw (k, other, there, v, begin, word, may, behind, h, last) refl

type_text : (text : List ℕ) (tag : Tag) (from at : ℕ) (rest : List ℕ) → is_typed tag ≡ true → drop at text ≡ codes " type=\"text\"" ++ 62 ∷ rest → rest_at tag from text at ≡ Ok (record { tag = tag; attribute = Plain; empty = false; next = at + 13 })
unfolding rest_at
type_text text tag from at rest may e =
    let other = (typed tag may).0 in
    let plain = (typed tag may).1 in
    let known : is_known tag (codes "type") ≡ true = rw (other, plain, may) refl in
    let k = known_again tag 116 (codes "ype") text from at (34 ∷ codes "text" ++ 34 ∷ 62 ∷ rest) known refl refl refl refl refl e in
    let a = next_is text at (codes " type") (61 ∷ 34 ∷ codes "text" ++ 34 ∷ 62 ∷ rest) e in
    let there : at + 1 + 4 ≡ at + 5 = omega arith in
    let v = value_again text (at + 5) (codes "text") (62 ∷ rest) refl a in
    let c = next_is text at (codes " type=\"") (codes "text" ++ 34 ∷ 62 ∷ rest) e in
    let begin : at + 5 + 1 + 1 ≡ at + 7 = omega arith in
    let word = between_again text (at + 7) (codes "text") (34 ∷ 62 ∷ rest) c in
    let b = next_is text at (codes " type=\"text\"") (62 ∷ rest) e in
    let behind : at + 7 + 4 + 1 ≡ at + 12 = omega arith in
    let h = behind_again text tag Plain from (at + 12) rest b in
    let last : at + 12 + 1 ≡ at + 13 = omega arith in
    rw (k, other, there, v, begin, word, may, behind, h, last) refl

-- the rest of a start tag, by its attribute
rest_again : (text : List ℕ) (tag : Tag) (a : Attribute) (from at : ℕ) (rest : List ℕ) → may_have tag a ≡ true → drop at text ≡ attribute_text a ++ 62 ∷ rest → rest_at tag from text at ≡ Ok (record { tag = tag; attribute = a; empty = false; next = at + length (attribute_text a) + 1 })
rest_again text tag Absent from at rest may e =
    let other : is_root tag ≡ false = grind arith in
    let there : at + 1 ≡ at + 0 + 1 = omega arith in
    plain_again text tag from at rest other e ∙ rw there refl
rest_again text tag Version from at rest may e =
    let there : at + 17 ≡ at + 16 + 1 = omega arith in
    version_again text tag from at rest may e ∙ rw there refl
rest_again text tag (Percent true) from at rest may e =
    let there : at + 23 ≡ at + 22 + 1 = omega arith in
    percent_true text tag from at rest may e ∙ rw there refl
rest_again text tag (Percent false) from at rest may e =
    let there : at + 24 ≡ at + 23 + 1 = omega arith in
    percent_false text tag from at rest may e ∙ rw there refl
rest_again text tag Base64 from at rest may e =
    let there : at + 15 ≡ at + 14 + 1 = omega arith in
    type_base64 text tag from at rest may e ∙ rw there refl
rest_again text tag Plain from at rest may e =
    let there : at + 13 ≡ at + 12 + 1 = omega arith in
    type_text text tag from at rest may e ∙ rw there refl

-- the byte behind the name
name_ends : (a : Attribute) (rest : List ℕ) → (c : ℕ) × (more : List ℕ) × (attribute_text a ++ 62 ∷ rest ≡ c ∷ more) × (in_name c ≡ false)
name_ends Absent rest = (62, rest, refl, refl)
name_ends Version rest = (32, codes "version=\"2.4.0\"" ++ 62 ∷ rest, refl, refl)
name_ends (Percent true) rest = (32, codes "percentencoded=\"true\"" ++ 62 ∷ rest, refl, refl)
name_ends (Percent false) rest = (32, codes "percentencoded=\"false\"" ++ 62 ∷ rest, refl, refl)
name_ends Base64 rest = (32, codes "type=\"base64\"" ++ 62 ∷ rest, refl, refl)
name_ends Plain rest = (32, codes "type=\"text\"" ++ 62 ∷ rest, refl, refl)

-- a start tag, its name, and its rest
pub record IsOpened (text : List ℕ) (tag : Tag) (a : Attribute) (at : ℕ) : Type 0 where
  pub named : named_at text at ≡ Ok (tag, at + 1 + length (spelled tag))
  pub rest : rest_at tag at text (at + 1 + length (spelled tag)) ≡ Ok (record { tag = tag; attribute = a; empty = false; next = at + length (start_text tag a) })

-- a start tag that is written is opened at its place
pub opened : (text : List ℕ) (tag : Tag) (a : Attribute) (at : ℕ) (rest : List ℕ) → may_have tag a ≡ true → drop at text ≡ start_text tag a ++ rest → IsOpened text tag a at
opened text tag a at rest may e =
    let e1 : drop at text ≡ 60 ∷ spelled tag ++ (attribute_text a ++ 62 ∷ rest) = e ∙ ap (λ (x : List ℕ). 60 ∷ x) (append_assoc (spelled tag ++ attribute_text a) (62 ∷ []) rest ∙ append_assoc (spelled tag) (attribute_text a) (62 ∷ rest)) in
    let n = name_ends a rest in
    let e2 : drop at text ≡ 60 ∷ spelled tag ++ n.0 ∷ n.1 = e1 ∙ ap (λ (x : List ℕ). 60 ∷ spelled tag ++ x) n.2 in
    let b = next_is text at (60 ∷ []) (spelled tag ++ (attribute_text a ++ 62 ∷ rest)) e1 in
    let c = next_is text (at + 1) (spelled tag) (attribute_text a ++ 62 ∷ rest) b in
    let there : at + 1 + length (spelled tag) + length (attribute_text a) + 1 ≡ at + length (start_text tag a) = omega (arith, length-append (spelled tag ++ attribute_text a) (62 ∷ []), length-append (spelled tag) (attribute_text a)) in
    record {
      named = named_again text at tag n.0 n.1 e2 n.3;
      rest = rest_again text tag a at (at + 1 + length (spelled tag)) rest may c ∙ ap (λ (k : ℕ). Ok (record { tag = tag; attribute = a; empty = false; next = k })) there;
    }

-- a start tag that is written is read again, with its attribute
pub start_again : (text : List ℕ) (tag : Tag) (a : Attribute) (at : ℕ) (rest : List ℕ) → may_have tag a ≡ true → drop at text ≡ start_text tag a ++ rest → start_at text at ≡ Ok (record { tag = tag; attribute = a; empty = false; next = at + length (start_text tag a) })
unfolding start_at
start_again text tag a at rest may e = let o = opened text tag a at rest may e in rw o.named o.rest

-- an end tag that is written is read again
pub end_again : (text : List ℕ) (at : ℕ) (tag : Tag) (rest : List ℕ) → drop at text ≡ end_text tag ++ rest → end_at text at tag ≡ Ok (at + length (end_text tag))
unfolding end_at
end_again text at tag rest e =
    let e1 : drop at text ≡ 60 ∷ 47 ∷ spelled tag ++ 62 ∷ rest = e ∙ ap (λ (x : List ℕ). 60 ∷ 47 ∷ x) (append_assoc (spelled tag) (62 ∷ []) rest) in
    let a = next_is text at (60 ∷ []) (47 ∷ spelled tag ++ 62 ∷ rest) e1 in
    let b = next_is text (at + 1) (47 ∷ []) (spelled tag ++ 62 ∷ rest) a in
    let c = next_is text (at + 1 + 1) (spelled tag) (62 ∷ rest) b in
    let there : at + 1 + 1 + length (spelled tag) + 1 ≡ at + length (end_text tag) = omega (arith, length-append (spelled tag) (62 ∷ [])) in
    rw (one_again text at 60 _ e1, one_again text (at + 1) 47 _ a, literal_again (spelled tag) text (at + 1 + 1) _ b, space_again text (at + 1 + 1 + length (spelled tag)) 62 rest c refl, one_again text (at + 1 + 1 + length (spelled tag)) 62 rest c, there) refl
