-- What the checks of a call find: why it is refused, or the nodes that it is about.
use Rattle.std.specs.Prelude.{◌≡◌, ◌≢◌, ℕ, Option, Some, None, Result, Ok, Err}
use Rattle.plain_tree.specs.declared.calls.Refusal.{Refusal}
use Rattle.plain_tree.specs.Paths.{Path, parent_of}
use Rattle.file_tree.specs.declared.checks.Move.{Move}
use Rattle.file_tree.specs.declared.checks.Move.TheVariants as moves
use Rattle.file_tree.specs.Tree.{FileTree, StandsAt}

-- a check refuses so, or it doesn't and the node with the number stands at the path
abbrev pub IsChecked : Option Refusal → FileTree → Path → Result ℕ Refusal → Type 0
IsChecked check t path (Ok number) = (check ≡ None) × StandsAt t path number
IsChecked check t path (Err refusal) = check ≡ Some refusal

-- a check refuses so, or it doesn't and two nodes stand at two paths
abbrev pub AreChecked : Option Refusal → FileTree → Path → Path → Result (ℕ × ℕ) Refusal → Type 0
AreChecked check t from up (Ok numbers) = (check ≡ None) × StandsAt t from numbers.0 × StandsAt t up numbers.1
AreChecked check t from up (Err refusal) = check ≡ Some refusal

-- a check refuses so; or it doesn't, and the node at the first path moves into the directory of the other one, or the
-- paths are one
abbrev pub IsMove : Option Refusal → FileTree → Path → Path → Result Move Refusal → Type 0
IsMove check t from to (Ok (moves.Into number dir)) =
    (check ≡ None) × (from ≢ to) × StandsAt t from number × StandsAt t (parent_of to) dir
IsMove check t from to (Ok moves.Nothing) = (check ≡ None) × (from ≡ to)
IsMove check t from to (Err refusal) = check ≡ Some refusal
