use Rattle.std.proofs.Common.{◌≡◌, ◌++◌, take}
use Rattle.ltfs_documents.specs.DocElements.Pieces.{without_space}
use Rattle.ltfs_documents.proofs.doc_elements.encodings.push_symbols.Given as goal

abbrev pub invariant-loop-byte : goal.invariant-loop-byte
invariant-loop-byte l = l.symbols.items ≡ l.fn.symbols.items ++ without_space (take l.byte-index l.text)
