use Rattle.ltfs_documents.proofs.DocFields.TextsAgain.{text_again}
use Rattle.ltfs_documents.proofs.doc_fields.laws.texts_read_back.Goals as goal

pub returns : goal.returns
returns c text rest words at may e = text_again text at words rest may e
