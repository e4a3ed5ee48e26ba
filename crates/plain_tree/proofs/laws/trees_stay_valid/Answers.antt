use Rattle.plain_tree.specs.Valid.{IsValid}
use Rattle.plain_tree.proofs.Validity.{first_valid, next_valid}
use Rattle.plain_tree.proofs.LawLemmas.{history_keeps}
use Rattle.plain_tree.proofs.laws.trees_stay_valid.Goals as goal

pub returns : goal.returns
returns c = record { first = first_valid; next = next_valid; always = history_keeps (λ t. IsValid t) next_valid }
