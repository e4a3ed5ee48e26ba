use Rattle.std.proofs.Common.{ℕ, List, ◌≡◌, ◌≤◌, drop}
use Rattle.ltfs_documents.specs.DocFields.Texts.{is_cut_number}
use Rattle.ltfs_documents.proofs.doc_fields.texts.is_cut_number.Given as goal

pub record IsKept (base : ℕ) (digits : List ℕ) (i number : ℕ) : Type 0 where
  pub small : number ≤ 17825791
  pub so_far : is_cut_number base number (drop i digits) ≡ is_cut_number base 0 digits

abbrev pub invariant-loop-i : goal.invariant-loop-i
invariant-loop-i l = IsKept l.base l.digits l.i l.number
