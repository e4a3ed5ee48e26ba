use Rattle.ltfs_documents.proofs.DocElements.Base64Blocks.{IsLeft}
use Rattle.ltfs_documents.proofs.doc_elements.encodings.take_bytes.Given as goal

abbrev pub invariant-loop-byte : goal.invariant-loop-byte
invariant-loop-byte l = IsLeft l.fn.out.items l.fn.block.items l.bytes l.byte-index l.out.items l.block.items
