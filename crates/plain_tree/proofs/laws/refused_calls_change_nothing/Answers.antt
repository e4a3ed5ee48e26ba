use Rattle.plain_tree.proofs.LawLemmas.{refused_keeps}
use Rattle.plain_tree.proofs.laws.refused_calls_change_nothing.Goals as goal

pub returns : goal.returns
returns c = refused_keeps
