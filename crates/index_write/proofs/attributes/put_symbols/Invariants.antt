use Rattle.std.proofs.Common.{◌≡◌, ◌++◌}
use Rattle.std.specs.Slice.Iter.{chunks_rest, chunks_size}
use Rattle.base64.specs.Engines.{standard}
use Rattle.base64.specs.GeneralPurpose.{encode_of}
use Rattle.ltfs_documents.specs.DocFields.Written.{Keeps}
use Rattle.index_write.proofs.attributes.put_symbols.Given as goal

abbrev pub invariant-loop-piece : goal.invariant-loop-piece
invariant-loop-piece l =
    (chunks_size l.piece-iterator ≡ 768)
    × (l.out.items ++ encode_of standard (chunks_rest l.piece-iterator) ≡ l.fn.out.items ++ encode_of standard l.bytes)
    × Keeps l.fn.out.items l.out.items
