-- A number: 1 to 20 decimal digits, below 2^64. Leading zeros may stand.
use Rattle.std.specs.Prelude.{ℕ, ◌+◌, ◌-◌, ◌*◌, ◌^◌, List, [], ◌∷◌, Bool, drop, Ok, ◌==◌, ◌&&◌, nat_lt, nat_le}
use Rattle.std.specs.Prelude.{if◌then◌else◌}
use Rattle.ltfs_documents.specs.declared.doc_fields.errors.Why.TheVariants.{Syntax, Number}
use Rattle.ltfs_documents.specs.DocFields.Reading.{Read, fault}

abbrev pub is_digit : ℕ → Bool
is_digit b = nat_le 48 b && nat_le b 57

-- the value of the digits that stand at a place, behind others of value n, and where they end
abbrev pub digits : ℕ → ℕ → List ℕ → ℕ × ℕ
digits n at [] = (n, at)
digits n at (b ∷ bytes) = if is_digit b then digits (n * 10 + (b - 48)) (at + 1) bytes else (n, at)

abbrev pub number_of : ℕ → ℕ × ℕ → Read (ℕ × ℕ)
number_of at d =
    if d.1 == at then fault Syntax at
    else (if nat_lt (at + 20) d.1 then fault Number at
    else (if nat_lt d.0 (2 ^ 64) then Ok d else fault Number at))

unfoldable pub number_at : List ℕ → ℕ → Read (ℕ × ℕ)
number_at text at = number_of at (digits 0 at (drop at text))
