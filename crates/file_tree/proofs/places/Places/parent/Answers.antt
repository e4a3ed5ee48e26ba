use Rattle.std.proofs.Common.{ap, ◌∙◌}
use Rattle.file_tree.specs.Places.{Stored}
use Rattle.file_tree.specs.Tree.{number_at}
use Rattle.file_tree.proofs.places.Places.parent.Goals as goal

pub returns-clause-apart : goal.returns-clause-apart
returns-clause-apart c p q n is also =
    let same = ap (λ (t : Stored). t.nodes) c.self.view_is in
    c.parent.ensures.apart p q n (ap (λ m. number_at m p) same ∙ is) (ap (λ m. number_at m q) same ∙ also)
