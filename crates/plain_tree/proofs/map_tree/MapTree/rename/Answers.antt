use Rattle.std.proofs.Common.{◌≡◌, None, sym, ap, ◌∙◌, subst}
use Rattle.plain_tree.specs.Refusals.{rename_refusal}
use Rattle.plain_tree.specs.Tree.{Tree}
use Rattle.plain_tree.specs.Valid.{IsValid}
use Rattle.plain_tree.proofs.Validity.{can_move}
use Rattle.plain_tree.proofs.map_tree.MapTree.rename.Goals as goal

pub rename-requires : goal.rename-requires
rename-requires c =
    let t : Tree = record { highest = c.self.inside.highest; lock = c.self.inside.lock; nodes = c.self.inside.nodes } in
    let free : rename_refusal c.self.inside.nodes c.args.from.now c.args.to.now ≡ None = ap (λ (t : Tree). rename_refusal t.nodes c.args.from.now c.args.to.now) c.self.view_is ∙ sym c.in_ok-refusal.ensures ∙ c.in_default.is in
    can_move t c.args.from.now c.args.to.now (subst (λ (t : Tree). IsValid t) (sym c.self.view_is) c.requires) free (sym c.if-not-same_path.ensures)
