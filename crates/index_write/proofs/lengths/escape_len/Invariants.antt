use Rattle.std.proofs.Common.{◌≡◌, take}
use Rattle.ltfs_documents.specs.DocFields.Written.{escape}
use Rattle.index_write.specs.Sizes.{size}
use Rattle.index_write.proofs.lengths.escape_len.Given as goal

abbrev pub invariant-loop-byte : goal.invariant-loop-byte
invariant-loop-byte l = l.sum ≡ size (escape (take l.byte-index l.text))
