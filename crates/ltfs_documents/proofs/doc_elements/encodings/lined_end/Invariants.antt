use Rattle.ltfs_documents.specs.DocElements.Bare.{is_lined}
use Rattle.ltfs_documents.proofs.DocElements.BareTexts.{IsRunTo}
use Rattle.ltfs_documents.proofs.doc_elements.encodings.lined_end.Given as goal

abbrev pub invariant-loop-i : goal.invariant-loop-i
invariant-loop-i l = IsRunTo is_lined l.text l.at l.i
