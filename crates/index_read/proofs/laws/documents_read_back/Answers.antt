use Rattle.index_read.proofs.WrittenIndex.{document_back}
use Rattle.index_read.proofs.WrittenLinks.{document_read}
use Rattle.index_read.proofs.laws.documents_read_back.Goals as goal

pub returns-clause-in_memory : goal.returns-clause-in_memory
returns-clause-in_memory c = document_read

pub returns-clause-short_links : goal.returns-clause-short_links
returns-clause-short_links c = document_back
