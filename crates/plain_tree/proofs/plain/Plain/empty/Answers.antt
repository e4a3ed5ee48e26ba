use Rattle.std.proofs.Common.{sym, subst}
use Rattle.plain_tree.specs.Tree.{Tree}
use Rattle.plain_tree.specs.Valid.{IsValid}
use Rattle.plain_tree.proofs.Validity.{first_valid}
use Rattle.plain_tree.proofs.plain.Plain.empty.Goals as goal

pub invariant_of-result : goal.invariant_of-result
invariant_of-result c = subst (λ (t : Tree). IsValid t) (sym c.in_ok-empty.ensures) (first_valid c.args.at)
