-- Texts that a document holds as they are. A text is given by its bytes in UTF-8.
use Rattle.std.specs.Prelude.{◌≡◌, ◌≤◌, ℕ, List, true}
use Rattle.std.specs.List.{list_all}
use Rattle.std.specs.Str.{IsUtf8, chars}
use Rattle.ltfs_documents.specs.DocFields.Texts.{is_allowed}

-- a text of characters that XML allows
pub record IsPlainText (text : List ℕ) : Type 0 where
  pub utf8 : IsUtf8 text
  pub allowed : list_all is_allowed (chars text) ≡ true

-- the letter of a partition
pub record IsLetter (letter : ℕ) : Type 0 where
  pub from_a : 97 ≤ letter
  pub to_z : letter ≤ 122
