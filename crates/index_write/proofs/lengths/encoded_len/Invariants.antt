use Rattle.std.proofs.Common.{◌≡◌, ◌+◌, ◌-◌, ◌^◌, ◌≤◌, length}
use Rattle.percent_encoding.specs.Iter.{encoded_text}
use Rattle.percent_encoding.specs.Percent.{percent_encode}
use Rattle.ltfs_documents.specs.declared.ltfs_text.names.TheConstants.{ESCAPED}
use Rattle.ltfs_documents.specs.DocFields.Written.{escape}
use Rattle.index_write.specs.Sizes.{bounded, size}
use Rattle.index_write.proofs.lengths.encoded_len.Given as goal

abbrev pub invariant-loop-piece : goal.invariant-loop-piece
invariant-loop-piece l = (bounded (l.sum + length (escape (encoded_text l.piece-iterator))) ≡ size (escape (percent_encode ESCAPED l.text))) × (l.sum ≤ 2 ^ 64 - 1)
