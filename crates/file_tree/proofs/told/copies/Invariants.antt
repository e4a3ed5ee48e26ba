use Rattle.std.proofs.Common.{◌≡◌, ◌++◌, drop}
use Rattle.file_tree.proofs.told.copies.Given as goal

abbrev pub invariant-loop-xattr : goal.invariant-loop-xattr
invariant-loop-xattr l = l.copies ++ drop l.xattr-index l.xattrs ≡ l.xattrs
