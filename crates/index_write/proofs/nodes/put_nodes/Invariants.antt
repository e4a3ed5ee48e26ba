use Rattle.std.proofs.Common.{◌≡◌, ◌<◌, map}
use Rattle.ltfs_documents.specs.DocFields.Written.{Keeps}
use Rattle.index_model.specs.Values.{IndexValue, all_nodes, value_of}
use Rattle.index_write.specs.Parts.{tree_text}
use Rattle.index_write.specs.Rests.{Goes}
use Rattle.index_write.proofs.nodes.put_nodes.Given as goal

abbrev pub invariant-loop-at : goal.invariant-loop-at
invariant-loop-at l =
    ((v : IndexValue) → map value_of l.nodes ≡ all_nodes v → Goes l.nodes l.at l.inner l.fn.out.items l.out.items (tree_text v))
    × (l.inner.depth < l.at) × Keeps l.fn.out.items l.out.items
