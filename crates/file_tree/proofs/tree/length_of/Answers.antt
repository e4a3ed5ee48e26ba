use Rattle.std.proofs.Common.{sym}
use Rattle.file_tree.proofs.tree.length_of.Goals as goal

pub returns : goal.returns
returns c path stands = record { node = c.node.result.now; room = c.in-File.extents; there = c.node.ensures path stands; file = c.in-File.is; long = sym c.length.ensures }
