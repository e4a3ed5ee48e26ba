use Rattle.std.proofs.Common.{ℕ, List, ◌≡◌, ◌≤◌, ◌+◌, drop}
use Rattle.ltfs_documents.specs.DocFields.Texts.{numbered}
use Rattle.ltfs_documents.proofs.doc_fields.texts.numbered.Given as goal

pub record IsKept (base : ℕ) (digits : List ℕ) (taken i number : ℕ) : Type 0 where
  pub small : number ≤ 17825791
  pub so_far : numbered base number (taken + i) (drop i digits) ≡ numbered base 0 taken digits

abbrev pub invariant-loop-i : goal.invariant-loop-i
invariant-loop-i l = IsKept l.base l.digits l.taken l.i l.number
