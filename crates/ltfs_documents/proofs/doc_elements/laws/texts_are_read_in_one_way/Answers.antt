use Rattle.ltfs_documents.proofs.DocElements.Ends.{accepted_or_stops}
use Rattle.ltfs_documents.proofs.DocElements.Once.{never_both, one_document, one_stop}
use Rattle.ltfs_documents.proofs.doc_elements.laws.texts_are_read_in_one_way.Goals as goal

pub returns-clause-some : goal.returns-clause-some
returns-clause-some c = λ doc text. accepted_or_stops doc text

pub returns-clause-never_both : goal.returns-clause-never_both
returns-clause-never_both c = λ doc text ps e valid x stops. never_both doc text ps e valid x stops

pub returns-clause-one_document : goal.returns-clause-one_document
returns-clause-one_document c = λ doc text ps qs x y. (one_document doc text ps qs x y).pieces

pub returns-clause-one_refusal : goal.returns-clause-one_refusal
returns-clause-one_refusal c = λ doc text e f s t. one_stop doc text e f s t
