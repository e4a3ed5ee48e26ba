use Rattle.ltfs_documents.proofs.DocFields.Spelled.{reference_only, reference_read}
use Rattle.ltfs_documents.proofs.doc_fields.laws.references_are_spelled.Goals as goal

pub returns-clause-read : goal.returns-clause-read
returns-clause-read c = reference_read

pub returns-clause-only : goal.returns-clause-only
returns-clause-only c = reference_only
