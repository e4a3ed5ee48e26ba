use Rattle.std.proofs.Common.{◌≡◌, length}
use Rattle.file_tree.specs.Valid.{AreFilesOf}
use Rattle.file_tree.specs.Mounts.{IsBuilt}
use Rattle.file_tree.proofs.mount.store_nodes.Given as goal

abbrev pub invariant-loop-at : goal.invariant-loop-at
invariant-loop-at l = IsBuilt l.letters l.block_size l.nodes l.at l.store.nodes × (length l.store.spots ≡ l.at) × AreFilesOf l.block_size l.store.nodes
