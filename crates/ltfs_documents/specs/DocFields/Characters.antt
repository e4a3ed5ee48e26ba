-- The characters for which a text stands, taken one after the other.
use Rattle.std.specs.Prelude.{◌≡◌, ◌+◌, ◌<◌, ◌^◌, ℕ, Bool, List, [], length, Option, Some, None, Result, Ok, Err, IsUtf8}
use Rattle.std.specs.Str.{chars}
use Rattle.ltfs_documents.specs.declared.doc_fields.errors.FieldErr.{FieldErr}
use Rattle.ltfs_documents.specs.DocFields.Reading.{Read}
use Rattle.ltfs_documents.specs.DocFields.Texts.{put_front, resolved}

-- what is left of a text, and where it begins in the document; `cut` says that the document ends behind it
pub record Left : Type 0 where
  pub cut : Bool
  pub place : ℕ
  pub rest : List ℕ

-- the characters for which that stands, or what may not stand there
abbrev pub characters : Left → Read (List ℕ)
characters left = resolved left.cut 0 left.place (chars left.rest)

-- the text is one, and its places are numbers of 64 bits
abbrev pub IsLeft : Left → Type 0
IsLeft left = IsUtf8 left.rest × (left.place + length left.rest < 2 ^ 64)

-- One is taken: the first character, with those that are behind it; none, where there is none; or the refusal.
abbrev pub IsTaken : Option (Result ℕ FieldErr) → Read (List ℕ) → Read (List ℕ) → Type 0
IsTaken None before behind = before ≡ Ok []
IsTaken (Some (Ok c)) before behind = before ≡ put_front c behind
IsTaken (Some (Err fault)) before behind = before ≡ Err fault
