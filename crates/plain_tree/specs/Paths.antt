-- Paths, which are lists of names.
use Rattle.std.specs.Prelude.{ℕ, ◌+◌, ◌-◌, List, ◌++◌, Bool, ◌&&◌, ◌==◌, not, if◌then◌else◌, length, take, drop, nat_eq}
use Rattle.std.specs.Prelude.{slice_get, Option, None}
use Rattle.std.specs.List.{starts_with}
use Rattle.std.specs.declared.cmp.Ordering.{Ordering}
use Rattle.std.specs.Cmp.Lexicographic.{slice_cmp, pointwise}
use Rattle.std.specs.Ordering.{nat_cmp, is_eq}

-- the UTF-8 bytes of a name
abbrev pub Name : Type 0
Name = List ℕ

-- from the root on; the root has the path of no names
abbrev pub Path : Type 0
Path = List Name

-- name by name, by the bytes of the names
abbrev pub path_cmp : Path → Path → Ordering
path_cmp a b = slice_cmp (λ x y. slice_cmp nat_cmp x y) a b

-- two paths are one
abbrev pub same_path : Path → Path → Bool
same_path a b = is_eq (path_cmp a b)

-- the path without its last name
abbrev pub parent_of : Path → Path
parent_of path = take (length path - 1) path

-- the last name, but of the root, which has none
abbrev pub last_name : Path → Option Name
last_name path = slice_get path (length path - 1)

-- the second path is the first one, or goes on from it
abbrev pub is_at_or_below : Path → Path → Bool
is_at_or_below front path = starts_with (pointwise nat_eq) path front

-- the path lies below the first one
abbrev pub is_below : Path → Path → Bool
is_below front path = is_at_or_below front path && not (length path == length front)

-- the name of a path that stands directly in the directory
abbrev pub name_in : Path → Path → Option Name
name_in dir path = if is_below dir path && (length path == length dir + 1) then last_name path else None

-- where a path stands once `from` has become `to`
abbrev pub moved_path : Path → Path → Path → Path
moved_path from to path = if is_at_or_below from path then to ++ drop (length from) path else path
