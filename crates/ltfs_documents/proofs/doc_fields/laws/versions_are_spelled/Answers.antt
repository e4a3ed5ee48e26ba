use Rattle.ltfs_documents.proofs.DocFields.Spelled.{version_read, version_spelled}
use Rattle.ltfs_documents.proofs.doc_fields.laws.versions_are_spelled.Goals as goal

pub returns : goal.returns
returns c v = (version_spelled v, version_read v)
