use Rattle.std.proofs.Common.{◌≡◌, ◌++◌}
use Rattle.percent_encoding.specs.Iter.{encoded_text}
use Rattle.ltfs_documents.specs.LtfsText.Names.{encoded}
use Rattle.ltfs_documents.specs.DocFields.Written.{escape, Keeps}
use Rattle.index_write.proofs.fields.put_encoded.Given as goal

abbrev pub invariant-loop-piece : goal.invariant-loop-piece
invariant-loop-piece l = (l.out.items ++ escape (encoded_text l.piece-iterator) ≡ l.fn.out.items ++ escape (encoded l.text)) × Keeps l.fn.out.items l.out.items
