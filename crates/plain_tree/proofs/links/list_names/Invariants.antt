use Rattle.std.proofs.Common.{◌≡◌, ◌++◌, map}
use Rattle.plain_tree.specs.Links.{line_of}
use Rattle.plain_tree.proofs.links.list_names.Given as goal

abbrev pub invariant-loop-name : goal.invariant-loop-name
invariant-loop-name l = l.entries ++ map line_of l.name-iterator ≡ map line_of l.names.entries
