use Rattle.std.proofs.Common.{◌≡◌, [], ◌∷◌, ◌++◌, ap, ◌∙◌}
use Rattle.file_tree.specs.Places.{Stored}
use Rattle.file_tree.specs.Tree.{number_at}
use Rattle.file_tree.proofs.PlaceLemmas.{stored_now}
use Rattle.file_tree.proofs.ToldLemmas.{name_of_other}
use Rattle.file_tree.proofs.places.Places.name_told.Goals as goal

pub returns : goal.returns
returns c path stands =
    let i = c.self.inside in
    let m = c.args.self.now.nodes in
    let same : i.store.nodes ≡ m = ap (λ (t : Stored). t.nodes) c.self.view_is in
    let s = stored_now i.store.spots _ i.store.nodes m c.len-shown.ensures.stored same in
    c.in_ok-try_clone-2.ensures
    ∙ name_of_other m c.args.volume.now c.name.result.now c.args.number c.if-number-eq0.false s.shown.root
    (λ p x is. c.name.ensures p x (ap (λ k. number_at k (p ++ x ∷ [])) same ∙ is)) path stands
