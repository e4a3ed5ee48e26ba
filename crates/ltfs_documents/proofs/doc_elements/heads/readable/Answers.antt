use Rattle.std.proofs.Common.{sym}
use Rattle.ltfs_documents.proofs.DocElements.Whole.{readable_all}
use Rattle.ltfs_documents.proofs.doc_elements.heads.readable.Goals as goal

pub returns-in-Ok-clause-front : goal.returns-in-Ok-clause-front
returns-in-Ok-clause-front c = sym (readable_all c.args.text.now c.in-Ok.ensures.cases.1)
