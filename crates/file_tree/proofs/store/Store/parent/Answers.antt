use Rattle.std.proofs.Common.{sym, ap, ◌∙◌, subst, IsSome}
use Rattle.file_tree.specs.Seen.{held}
use Rattle.file_tree.proofs.ShownLemmas.{one_number}
use Rattle.file_tree.proofs.PlaceLemmas.{there_held, parent_now}
use Rattle.file_tree.proofs.ToldLemmas.{above_now}
use Rattle.file_tree.proofs.KeptLemmas.{kept_now}
use Rattle.file_tree.proofs.store.Store.parent.Goals as goal

pub spot_at-requires : goal.spot_at-requires
spot_at-requires c =
    let s = kept_now c.self.inside c.args.self.now c.self.invariant c.self.view_is in
    subst (λ l. IsSome (held l c.args.number)) (sym c.deref.ensures.value) (there_held (held c.self.inside.spots.items) c.args.self.now.nodes s.shown c.args.number c.requires)

pub returns-clause-parent : goal.returns-clause-parent
returns-clause-parent c path name stands =
    let s = kept_now c.self.inside c.args.self.now c.self.invariant c.self.view_is in
    parent_now (held c.self.inside.spots.items) c.args.self.now.nodes s.shown c.args.number c.spot_at.result.now (ap (λ l. held l c.args.number) (sym c.deref.ensures.value) ∙ c.spot_at.ensures) path name stands

pub returns-clause-apart : goal.returns-clause-apart
returns-clause-apart c p q n is also =
    let s = kept_now c.self.inside c.args.self.now c.self.invariant c.self.view_is in
    one_number (held c.self.inside.spots.items) c.args.self.now.nodes s.shown p q n is also

pub returns-clause-above : goal.returns-clause-above
returns-clause-above c path stands =
    let s = kept_now c.self.inside c.args.self.now c.self.invariant c.self.view_is in
    above_now (held c.self.inside.spots.items) c.args.self.now.nodes s.shown c.args.number c.spot_at.result.now (ap (λ l. held l c.args.number) (sym c.deref.ensures.value) ∙ c.spot_at.ensures) path stands
