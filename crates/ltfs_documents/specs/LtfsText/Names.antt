-- Names, patterns and texts of symbolic links in a document (LTFS 2.4 on the name format). A text is given by its bytes
-- in UTF-8.
use Rattle.std.specs.Prelude.{◌≡◌, ⊤, ℕ, List, [], ◌∷◌, Bool, true, false, nat_le, nat_lt, ◌==◌, ◌||◌, if◌then◌else◌}
use Rattle.std.specs.Prelude.{Result, Ok, Err}
use Rattle.std.specs.List.{flat_map, list_any}
use Rattle.std.specs.Str.{IsUtf8, chars}
use Rattle.percent_encoding.specs.Percent.{percent_encode_byte, percent_decode}
use Rattle.ltfs_documents.specs.declared.ltfs_text.names.NameText.{NameText}
use Rattle.ltfs_documents.specs.declared.ltfs_text.names.ReadNameErr.{ReadNameErr}
use Rattle.ltfs_documents.specs.declared.ltfs_text.names.ReadNameErr.TheVariants as faults

-- a character that isn't written as it is: below a space, U+007F, U+FFFE or U+FFFF
abbrev pub is_special : ℕ → Bool
is_special c = nat_lt c 32 || (c == 0x7F) || (c == 0xFFFE) || (c == 0xFFFF)

-- some character of the name isn't written as it is
abbrev pub has_special : List ℕ → Bool
has_special name = list_any is_special (chars name)

-- the bytes that are escaped in a text that is percent-encoded: ASCII's controls, `%`, and all past ASCII
abbrev pub is_escaped : ℕ → Bool
is_escaped b = nat_lt b 32 || (b == 0x7F) || (b == 37) || nat_le 128 b

-- a name with `%` and two hexadecimal digits for each of these bytes
abbrev pub encoded : List ℕ → List ℕ
encoded name = flat_map (λ b. if is_escaped b then percent_encode_byte b else b ∷ []) name

-- the text of a name: the name itself, or, where it has a special character, its percent-encoded form
abbrev pub written : List ℕ → NameText
written name =
    if has_special name
    then record { text = encoded name; percent = true }
    else record { text = name; percent = false }

-- the bytes that a text stands for: where it is percent-encoded, each escape is its byte, and any other `%` stays
abbrev pub decoded : Bool → List ℕ → List ℕ
decoded percent text = if percent then percent_decode text else text

-- the text, percent-encoded or not, stands for this name
pub record IsTextOf (percent : Bool) (text name : List ℕ) : Type 0 where
  pub bytes : decoded percent text ≡ name
  pub utf8 : IsUtf8 name

-- what may be answered of a text: the name that it stands for; that its bytes are none in UTF-8; or want of memory
abbrev pub IsReadName : Bool → List ℕ → Result (List ℕ) ReadNameErr → Type 0
IsReadName percent text (Ok name) = IsTextOf percent text name
IsReadName percent text (Err faults.Utf8) = ¬ IsUtf8 (decoded percent text)
IsReadName percent text (Err faults.NoMemory) = ⊤
