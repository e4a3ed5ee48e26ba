-- The keys of extended attributes, and the attributes of a node (LTFS 2.4 on extended attributes).
-- A key is given by its bytes in UTF-8.
use Rattle.std.specs.Prelude.{ℕ, List, Bool, length, map, nat_le, nat_lt, not, ◌&&◌}
use Rattle.std.specs.Str.{chars}
use Rattle.std.specs.List.{IsDistinct}
use Rattle.std.specs.List.Sorted.{IsStrictlySortedBy}
use Rattle.std.specs.Ordering.{nat_cmp, eq_by_cmp}
use Rattle.std.specs.declared.cmp.Ordering.{Ordering}
use Rattle.std.specs.Cmp.Lexicographic.{slice_cmp}
use Rattle.std.specs.FinMap as fin
use Rattle.tape_types.specs.Bounds.{longest_name}
use Rattle.tape_types.specs.Names.{has_byte}
use Rattle.tape_types.specs.declared.node_keys.xattrs.Xattr.{Xattr}

-- 1 to 255 characters, none of them NUL
abbrev pub is_key : List ℕ → Bool
is_key key = nat_lt 0 (length key) && nat_le (length (chars key)) longest_name && not (has_byte 0 key)

-- keys stand by their bytes
abbrev pub key_cmp : List ℕ → List ℕ → Ordering
key_cmp a b = slice_cmp nat_cmp a b

-- the attributes of a node: under each key its value
abbrev pub KeyMap : Type 0
KeyMap = fin.FinMap key_cmp (List ℕ)

-- the attributes of a node, and how many more there is memory for
pub record KeyRoom : Type 0 where
  pub map : KeyMap
  pub spare : ℕ

-- the keys of a list of attributes
abbrev pub keys_of : List Xattr → List (List ℕ)
keys_of xattrs = map (λ x. x.key) xattrs

-- the keys with their values
abbrev pub entries_of : List Xattr → List (List ℕ × List ℕ)
entries_of xattrs = map (λ x. (x.key, x.value)) xattrs

-- the map that a list says
abbrev pub map_of : List Xattr → KeyMap
map_of xattrs = fin.from_entries (entries_of xattrs)

-- the list that a map says, by the bytes of the keys
abbrev pub list_of : KeyMap → List Xattr
list_of keys = map (λ e. record { key = e.0; value = e.1 }) (fin.entries keys)

-- each key stands before those behind it
abbrev pub IsAscending : List Xattr → Type 0
IsAscending xattrs = IsStrictlySortedBy key_cmp (keys_of xattrs)

-- no key stands twice
abbrev pub AreKeysApart : List Xattr → Type 0
AreKeysApart xattrs = IsDistinct (eq_by_cmp key_cmp) (keys_of xattrs)
