use Rattle.std.proofs.Common.{◌≡◌, sym, ap, ◌∙◌, subst, refl, ℕ, ◌<◌, List}
use Rattle.std.specs.Str.{IsUtf8}
use Rattle.std.specs.List.{slice_index}
use Rattle.plain_tree.specs.declared.calls.Call.TheVariants as asks
use Rattle.file_tree.specs.Tree.{FileTree, number_at}
use Rattle.file_tree.specs.Edits.{CanSetKey, IsAfter, KeepsOutline}
use Rattle.file_tree.proofs.AttributeLemmas.{set_after, set_keeps, set_good, set_key_is}
use Rattle.file_tree.proofs.InsideLemmas.{tree_of, with_nodes}
use Rattle.file_tree.proofs.tree.Tree.set_key.Goals as goal

pub change-requires-clause-can : goal.change-requires-clause-can
change-requires-clause-can c =
    let can : CanSetKey (tree_of c.self.inside) c.args.number c.args.key c.args.value = subst (λ (t : FileTree). CanSetKey t c.args.number c.args.key c.args.value) (sym c.self.view_is) c.requires in
    can.room

pub invariant_of-self : goal.invariant_of-self
invariant_of-self c =
    let t : FileTree = tree_of c.self.inside in
    let can : CanSetKey t c.args.number c.args.key c.args.value = subst (λ (t : FileTree). CanSetKey t c.args.number c.args.key c.args.value) (sym c.self.view_is) c.requires in
    let next : FileTree = with_nodes c.self.inside c.change.new.self.nodes c.change.new.self.spare in
    set_good t next c.self.invariant c.args.number c.args.key c.args.value c.args.at can c.change.ensures.changed refl refl (record { name = refl; block_size = refl }) (record {
      utf8 = subst IsUtf8 c.as_str-is_text.ensures c.as_str-is_text.utf8;
      key = set_key_is t next c.self.invariant c.args.number c.args.key c.args.value c.args.at can c.change.ensures.changed refl refl;
      bytes = subst (λ (l : List ℕ). (i : ℕ) → slice_index l i < 256) c.as_slice.ensures c.each_is_byte.ensures;
    })

pub returns-clause-plain : goal.returns-clause-plain
returns-clause-plain c path stands =
    let t : FileTree = tree_of c.self.inside in
    let can : CanSetKey t c.args.number c.args.key c.args.value = subst (λ (t : FileTree). CanSetKey t c.args.number c.args.key c.args.value) (sym c.self.view_is) c.requires in
    let next : FileTree = with_nodes c.self.inside c.change.new.self.nodes c.change.new.self.spare in
    let same : can.path ≡ path = c.self.invariant.differ can.path path c.args.number can.stands (ap (λ (t : FileTree). number_at t.nodes path) c.self.view_is ∙ stands) in
    subst (λ p. IsAfter (asks.Setx p c.args.key c.args.value) c.args.at c.args.self.now next) same
    (subst (λ (t : FileTree). IsAfter (asks.Setx can.path c.args.key c.args.value) c.args.at t next) c.self.view_is
    (set_after t next c.self.invariant c.args.number c.args.key c.args.value c.args.at can c.change.ensures.changed refl refl))

pub returns-clause-outline : goal.returns-clause-outline
returns-clause-outline c =
    let t : FileTree = tree_of c.self.inside in
    let can : CanSetKey t c.args.number c.args.key c.args.value = subst (λ (t : FileTree). CanSetKey t c.args.number c.args.key c.args.value) (sym c.self.view_is) c.requires in
    let next : FileTree = with_nodes c.self.inside c.change.new.self.nodes c.change.new.self.spare in
    subst (λ (t : FileTree). KeepsOutline t next) c.self.view_is
    (set_keeps t next c.self.invariant c.args.number c.args.key c.args.value c.args.at can c.change.ensures.changed refl refl (record { name = refl; block_size = refl }) c.change.ensures.room)
