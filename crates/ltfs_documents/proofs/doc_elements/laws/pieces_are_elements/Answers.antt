use Rattle.ltfs_documents.proofs.DocElements.Timed.{reached_timed}
use Rattle.ltfs_documents.proofs.DocElements.Trees.{elements_of, made_accepted}
use Rattle.ltfs_documents.proofs.doc_elements.laws.pieces_are_elements.Goals as goal

pub returns-clause-made : goal.returns-clause-made
returns-clause-made c = λ doc text ps valid x. elements_of doc text ps valid x

pub returns-clause-only : goal.returns-clause-only
returns-clause-only c = λ doc text ps m. made_accepted doc text ps m

pub returns-clause-timed : goal.returns-clause-timed
returns-clause-timed c = λ doc text ps x. reached_timed text ps x.opened.inside _ 0 x.point x.opened.reaches
