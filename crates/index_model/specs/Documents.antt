-- How a refusal of a document is told, and a fault of a whole index.
use Rattle.std.specs.Prelude.{◌≡◌, ℕ, List}
use Rattle.ltfs_documents.specs.declared.doc_elements.errors.PieceErr.{PieceErr}
use Rattle.ltfs_documents.specs.declared.doc_elements.errors.PieceErr.TheVariants as pieces
use Rattle.ltfs_documents.specs.declared.doc_elements.schema.Container.TheVariants as place
use Rattle.ltfs_documents.specs.DocElements.Documents.{StopsAt}
use Rattle.index_model.specs.declared.faults.Fault.{Fault}
use Rattle.index_model.specs.declared.faults.Fault.TheVariants as faults
use Rattle.index_model.specs.declared.errors.IndexErr.{IndexErr}
use Rattle.index_model.specs.declared.errors.IndexErr.TheVariants as errors

abbrev pub refusal_told : PieceErr → IndexErr
refusal_told (pieces.Syntax at) = errors.Syntax at
refusal_told (pieces.Unknown at) = errors.Unknown at
refusal_told (pieces.Twice at) = errors.Twice at
refusal_told pieces.Version = errors.Version
refusal_told (pieces.Missing tag) = errors.Missing tag
refusal_told (pieces.Number at) = errors.Number at
refusal_told (pieces.Name at) = errors.Name at
refusal_told pieces.TooMany = errors.TooMany
refusal_told pieces.NoMemory = errors.NoMemory

abbrev pub fault_told : Fault → IndexErr
fault_told (faults.Uid n) = errors.Uid n
fault_told (faults.SameName n) = errors.SameName n
fault_told (faults.SameKey n) = errors.SameKey n
fault_told (faults.Extent n) = errors.Extent n
fault_told (faults.Overlap n) = errors.Overlap n

-- where and why the text doesn't go on
pub record StopsAs (text : List ℕ) (e : IndexErr) : Type 0 where
  pub why : PieceErr
  pub stops : StopsAt place.Index text why
  pub told : e ≡ refusal_told why
