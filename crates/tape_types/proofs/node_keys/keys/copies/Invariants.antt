use Rattle.std.proofs.Common.{◌≡◌, take}
use Rattle.tape_types.proofs.node_keys.keys.copies.Given as goal

abbrev pub invariant-loop-xattr : goal.invariant-loop-xattr
invariant-loop-xattr l = l.copies.items ≡ take l.xattr-index l.xattrs
