use Rattle.std.proofs.Common.{ℕ, List, ◌≡◌, ◌<◌, ◌≤◌, ◌+◌, ◌-◌, ◌^◌, drop}
use Rattle.ltfs_documents.specs.DocFields.Numbers.{digits}
use Rattle.ltfs_documents.proofs.doc_fields.numbers.read_u64.Given as goal

pub record Kept (text : List ℕ) (at i n : ℕ) : Type 0 where
  pub near : i ≤ at + 19
  pub small : n < 10 ^ (i - at)
  pub so_far : digits n i (drop i text) ≡ digits 0 at (drop at text)

abbrev pub invariant-loop-i : goal.invariant-loop-i
invariant-loop-i l = Kept l.text l.at l.i l.number
