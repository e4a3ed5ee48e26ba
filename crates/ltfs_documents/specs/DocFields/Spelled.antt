-- How a version and a reference are spelled.
use Rattle.std.specs.Prelude.{◌≡◌, ℕ, ◌+◌, ◌*◌, ◌≤◌, List, [], ◌∷◌, ◌++◌, length, codes, true, Option, Some}
use Rattle.std.specs.List.{list_all}
use Rattle.ltfs_documents.specs.DocFields.Numbers.{is_digit}
use Rattle.ltfs_documents.specs.DocFields.Texts.{and_then, digit_of, is_allowed}

-- a version that is read: `2.`, a digit up to 4, a point, and one to three digits
pub record IsVersion (v : List ℕ) : Type 0 where
  pub minor : ℕ
  pub known : minor ≤ 4
  pub patch : List ℕ
  pub some : 1 ≤ length patch
  pub few : length patch ≤ 3
  pub digits : list_all is_digit patch ≡ true
  pub is : v ≡ codes "2." ++ (48 + minor) ∷ codes "." ++ patch

-- the number that digits of a base show behind others that show n
abbrev pub value_of : ℕ → ℕ → List ℕ → Option ℕ
value_of base n [] = Some n
value_of base n (b ∷ digits) = and_then (digit_of base b) (λ d. value_of base (n * base + d) digits)

-- what stands behind the `&` of a reference to a character: one of five names, or the number of a character that a
-- document may have, in decimal or hexadecimal digits
pub data IsReference : List ℕ → ℕ → Type 0 where
  ampersand : IsReference (codes "amp;") 38
  less : IsReference (codes "lt;") 60
  greater : IsReference (codes "gt;") 62
  quote : IsReference (codes "quot;") 34
  apostrophe : IsReference (codes "apos;") 39
  in_decimal : (digits : List ℕ) {c : ℕ} → value_of 10 0 digits ≡ Some c → is_allowed c ≡ true →
      IsReference (codes "#" ++ digits ++ codes ";") c
  in_hexadecimal : (digits : List ℕ) {c : ℕ} → value_of 16 0 digits ≡ Some c → is_allowed c ≡ true →
      IsReference (codes "#x" ++ digits ++ codes ";") c

-- bytes begin with a reference of this length to this character
pub record BeginsWithReference (bytes : List ℕ) (c taken : ℕ) : Type 0 where
  pub word : List ℕ
  pub behind : List ℕ
  pub splits : bytes ≡ word ++ behind
  pub long : length word ≡ taken
  pub is : IsReference word c
