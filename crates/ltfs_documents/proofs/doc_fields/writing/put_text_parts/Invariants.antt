use Rattle.ltfs_documents.proofs.DocFields.Escapes.{IsKept}
use Rattle.ltfs_documents.proofs.doc_fields.writing.put_text_parts.Given as goal

abbrev pub invariant-loop-i : goal.invariant-loop-i
invariant-loop-i l = IsKept l.fn.out.items l.out.items l.text l.from l.i
