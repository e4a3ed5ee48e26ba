-- What is read of a tree.
use Rattle.std.specs.Prelude.{◌≡◌, ℕ, Option, Some, None}
use Rattle.std.specs.FinMap as fin
use Rattle.plain_tree.specs.declared.calls.Refusal.{Refusal}
use Rattle.plain_tree.specs.declared.calls.Refusal.TheVariants as refusals
use Rattle.plain_tree.specs.declared.calls.Sort.{Sort}
use Rattle.plain_tree.specs.declared.calls.Sort.TheVariants as sorts
use Rattle.file_tree.specs.declared.nodes.HeldKind.{HeldKind}
use Rattle.file_tree.specs.declared.nodes.HeldKind.TheVariants as kinds
use Rattle.file_tree.specs.declared.nodes.Node.{Node}
use Rattle.file_tree.specs.declared.found.Found.{Found}
use Rattle.file_tree.specs.declared.found.Found.TheVariants as founds
use Rattle.file_tree.specs.Tree.{FileTree, StandsAt}
use Rattle.plain_tree.specs.Paths.{Path}

-- the node with the number stands at the path, or nothing does
abbrev pub IsFound : FileTree → Path → Found → Type 0
IsFound t path (founds.Node number) = StandsAt t path number
IsFound t path founds.Missing = fin.get t.nodes path ≡ None
IsFound t path founds.NotDir = fin.get t.nodes path ≡ None

-- why nothing is found
abbrev pub refusal_found : Found → Option Refusal
refusal_found (founds.Node number) = None
refusal_found founds.Missing = Some refusals.NotFound
refusal_found founds.NotDir = Some refusals.NotDir

-- what is found where a path goes on below such a node, under a name that isn't there
abbrev pub lost_below : HeldKind → Found
lost_below kinds.Dir = founds.Missing
lost_below (kinds.File room) = founds.NotDir
lost_below (kinds.Link text) = founds.NotDir

abbrev pub sort_in : HeldKind → Sort
sort_in kinds.Dir = sorts.Dir
sort_in (kinds.File room) = sorts.File
sort_in (kinds.Link text) = sorts.Link

-- the node with the number is of the sort
abbrev pub IsOfSort : FileTree → ℕ → Sort → Type 0
IsOfSort t number sort = (path : Path) → StandsAt t path number
    → (node : Node) × (fin.get t.nodes path ≡ Some node) × (sort_in node.kind ≡ sort)
