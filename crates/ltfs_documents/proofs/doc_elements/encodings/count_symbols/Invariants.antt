use Rattle.std.proofs.Common.{length}
use Rattle.ltfs_documents.proofs.doc_elements.encodings.count_symbols.Given as goal

abbrev pub invariant-loop-c : goal.invariant-loop-c
invariant-loop-c l = Unit {0}

abbrev pub decreases-loop-c : goal.decreases-loop-c
decreases-loop-c l = length l.left.rest
