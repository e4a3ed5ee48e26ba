-- Which texts may be names of nodes (LTFS 2.4 on names). A name is given by its bytes in UTF-8.
use Rattle.std.specs.Prelude.{◌≡◌, ◌⊎◌, ℕ, List, Bool, not, length, nat_lt, ◌==◌, ◌||◌, ◌&&◌, if◌then◌else◌, Option, Some}
use Rattle.std.specs.Prelude.{None, Result, Ok, Err, codes}
use Rattle.std.specs.List.{list_any}
use Rattle.std.specs.Str.{chars, bytes_eq}
use Rattle.unicode_normalization.specs.Forms.{is_nfc}
use Rattle.tape_types.specs.Bounds.{longest_name}
use Rattle.tape_types.specs.declared.names.NameErr.{NameErr}
use Rattle.tape_types.specs.declared.names.NameErr.TheVariants as faults

abbrev pub has_byte : ℕ → List ℕ → Bool
has_byte b name = list_any (λ x. x == b) name

abbrev pub is_dot : List ℕ → Bool
is_dot name = bytes_eq name (codes ".") || bytes_eq name (codes "..")

-- The first fault of a name: it has no character, more than 255 of them, a slash or a NUL; it is one of the
-- two names of directories; it isn't in Unicode's normal form C.
abbrev pub name_fault : List ℕ → Option NameErr
name_fault name =
    if length name == 0 then Some faults.Empty
    else if nat_lt longest_name (length (chars name)) then Some faults.Long
    else if has_byte 47 name then Some faults.Slash
    else if has_byte 0 name then Some faults.Nul
    else if is_dot name then Some faults.Dot
    else if not (is_nfc (chars name)) then Some faults.NotNfc
    else None

-- what may be answered of a name: its first fault, or none where it has none; or want of memory
abbrev pub IsNameAnswer : List ℕ → Result Unit NameErr → Type 0
IsNameAnswer name (Ok _) = name_fault name ≡ None
IsNameAnswer name (Err fault) = (fault ≡ faults.NoMemory) ⊎ (name_fault name ≡ Some fault)

-- an ASCII character that any name may have
abbrev pub is_plain : ℕ → Bool
is_plain b = nat_lt b 128 && not (b == 47) && not (b == 0)
