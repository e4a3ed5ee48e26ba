use Rattle.std.proofs.Common.{◌≡◌, sym, ap, ◌∙◌, subst, refl}
use Rattle.plain_tree.specs.declared.calls.Call.TheVariants as asks
use Rattle.file_tree.specs.Tree.{FileTree, number_at}
use Rattle.file_tree.specs.Edits.{CanDropKey, IsAfter, KeepsOutline}
use Rattle.file_tree.proofs.AttributeLemmas.{drop_after, drop_keeps, drop_good}
use Rattle.file_tree.proofs.InsideLemmas.{tree_of, with_nodes}
use Rattle.file_tree.proofs.tree.Tree.drop_key.Goals as goal

pub invariant_of-self : goal.invariant_of-self
invariant_of-self c =
    let t : FileTree = tree_of c.self.inside in
    let can : CanDropKey t c.args.number c.args.key.now = subst (λ (t : FileTree). CanDropKey t c.args.number c.args.key.now) (sym c.self.view_is) c.requires in
    let next : FileTree = with_nodes c.self.inside c.change.new.self.nodes c.change.new.self.spare in
    drop_good t next c.self.invariant c.args.number c.args.key.now c.args.at can c.change.ensures.changed refl refl (record { name = refl; block_size = refl })

pub returns-clause-plain : goal.returns-clause-plain
returns-clause-plain c path stands =
    let t : FileTree = tree_of c.self.inside in
    let can : CanDropKey t c.args.number c.args.key.now = subst (λ (t : FileTree). CanDropKey t c.args.number c.args.key.now) (sym c.self.view_is) c.requires in
    let next : FileTree = with_nodes c.self.inside c.change.new.self.nodes c.change.new.self.spare in
    let same : can.path ≡ path = c.self.invariant.differ can.path path c.args.number can.stands (ap (λ (t : FileTree). number_at t.nodes path) c.self.view_is ∙ stands) in
    subst (λ p. IsAfter (asks.Dropx p c.args.key.now) c.args.at c.args.self.now next) same
    (subst (λ (t : FileTree). IsAfter (asks.Dropx can.path c.args.key.now) c.args.at t next) c.self.view_is
    (drop_after t next c.self.invariant c.args.number c.args.key.now c.args.at can c.change.ensures.changed refl refl))

pub returns-clause-outline : goal.returns-clause-outline
returns-clause-outline c =
    let t : FileTree = tree_of c.self.inside in
    let can : CanDropKey t c.args.number c.args.key.now = subst (λ (t : FileTree). CanDropKey t c.args.number c.args.key.now) (sym c.self.view_is) c.requires in
    let next : FileTree = with_nodes c.self.inside c.change.new.self.nodes c.change.new.self.spare in
    subst (λ (t : FileTree). KeepsOutline t next) c.self.view_is
    (drop_keeps t next c.self.invariant c.args.number c.args.key.now c.args.at can c.change.ensures.changed refl refl (record { name = refl; block_size = refl }) c.change.ensures.room)
