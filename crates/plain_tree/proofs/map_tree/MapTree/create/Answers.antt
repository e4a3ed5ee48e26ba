use Rattle.std.proofs.Common.{◌≡◌, None, sym, ap, ◌∙◌, subst}
use Rattle.plain_tree.specs.declared.nodes.Node.{Node}
use Rattle.plain_tree.specs.Refusals.{new_refusal}
use Rattle.plain_tree.specs.Tree.{Tree}
use Rattle.plain_tree.specs.Valid.{IsValid}
use Rattle.plain_tree.specs.Seen.{CanStand}
use Rattle.plain_tree.proofs.Validity.{can_stand}
use Rattle.plain_tree.proofs.map_tree.MapTree.create.Goals as goal

pub insert-requires : goal.insert-requires
insert-requires c =
    let t : Tree = record { highest = c.self.inside.highest; lock = c.self.inside.lock; nodes = c.self.inside.nodes } in
    let valid : IsValid t = subst (λ (t : Tree). IsValid t) (sym c.self.view_is) c.requires in
    let free : new_refusal t c.args.path.now ≡ None = ap (λ (t : Tree). new_refusal t c.args.path.now) c.self.view_is ∙ sym c.in_ok-refusal.ensures.value ∙ c.in_default.is in
    subst (λ (n : Node). CanStand c.self.inside.nodes c.args.path.now n) (sym c.new_node.ensures) (can_stand c.args.kind t c.args.path.now c.args.at free valid)
