use Rattle.std.proofs.Common.{sym, ap, ◌∙◌, subst, IsSome}
use Rattle.file_tree.specs.Seen.{held}
use Rattle.file_tree.proofs.PlaceLemmas.{there_held, name_now}
use Rattle.file_tree.proofs.KeptLemmas.{kept_now}
use Rattle.file_tree.proofs.store.Store.name.Goals as goal

pub spot_at-requires : goal.spot_at-requires
spot_at-requires c =
    let s = kept_now c.self.inside c.args.self.now c.self.invariant c.self.view_is in
    subst (λ l. IsSome (held l c.args.number)) (sym c.deref.ensures.value) (there_held (held c.self.inside.spots.items) c.args.self.now.nodes s.shown c.args.number c.requires)

pub returns : goal.returns
returns c path name stands =
    let s = kept_now c.self.inside c.args.self.now c.self.invariant c.self.view_is in
    sym (name_now (held c.self.inside.spots.items) c.args.self.now.nodes s.shown c.args.number c.spot_at.result.now (ap (λ l. held l c.args.number) (sym c.deref.ensures.value) ∙ c.spot_at.ensures) path name stands)
