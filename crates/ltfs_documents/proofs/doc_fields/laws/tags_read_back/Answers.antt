use Rattle.ltfs_documents.proofs.DocFields.TagsAgain.{start_again, end_again}
use Rattle.ltfs_documents.proofs.doc_fields.laws.tags_read_back.Goals as goal

pub returns : goal.returns
returns c = record { starts = λ text rest at tag a may e. start_again text tag a at rest may e; ends = λ text rest at tag e. end_again text at tag rest e }
