use Rattle.std.proofs.Common.{◌≡◌, ◌≤◌, length, None}
use Rattle.name_tries.specs.Keys.{AreTries}
use Rattle.file_tree.proofs.members.unnamed.Given as goal

abbrev pub invariant-loop-number : goal.invariant-loop-number
invariant-loop-number l = AreTries l.names (λ n. None) × (l.number ≤ length l.names.roots.items) × (length l.names.owned.items ≡ l.number)
