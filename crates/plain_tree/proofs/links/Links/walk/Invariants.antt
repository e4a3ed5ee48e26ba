use Rattle.std.proofs.Common.{◌≡◌, take, Some}
use Rattle.plain_tree.specs.Links.{child, walk}
use Rattle.plain_tree.proofs.links.Links.walk.Given as goal

abbrev pub invariant-loop-name : goal.invariant-loop-name
invariant-loop-name l = walk (child l.self) (Some l.root) (take l.name-index l.path) ≡ Some l.node
