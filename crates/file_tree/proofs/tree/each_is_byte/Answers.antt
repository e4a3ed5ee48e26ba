use Rattle.std.proofs.Common.{arith}
use Rattle.file_tree.proofs.tree.each_is_byte.Goals as goal

pub returns : goal.returns
returns c i = let fits = c.type_inv.bytes i in omega arith
