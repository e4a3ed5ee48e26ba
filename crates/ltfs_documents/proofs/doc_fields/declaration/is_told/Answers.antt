use Rattle.ltfs_documents.proofs.DocFields.Names.{same_when}
use Rattle.ltfs_documents.proofs.doc_fields.declaration.is_told.Goals as goal

pub returns-in-Encoding : goal.returns-in-Encoding
returns-in-Encoding c = rw c.in-Encoding.is (same_when _ _ _ c.eq_ignore_ascii_case.ensures.test)
