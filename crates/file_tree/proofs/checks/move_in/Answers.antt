use Rattle.std.proofs.Common.{◌≡◌, true, false, cond, None, [], ◌∷◌, sym, ap, ◌∙◌, subst}
use Rattle.plain_tree.specs.declared.calls.Refusal.TheVariants as refusals
use Rattle.plain_tree.specs.Paths.{same_path, is_below, parent_of}
use Rattle.plain_tree.specs.Tree.{flag_at}
use Rattle.plain_tree.specs.Refusals.{first_of, refuse_if, exists_at, read_only}
use Rattle.plain_tree.proofs.MoveLemmas.{same_is, is_same}
use Rattle.file_tree.specs.Tree.{StandsAt, number_at, plain_nodes, whole}
use Rattle.file_tree.proofs.EditLemmas.{parent_ends}
use Rattle.file_tree.proofs.ReadyLemmas.{free_left, moved_freely, moved_taken}
use Rattle.file_tree.proofs.checks.move_in.Goals as goal

pub returns-then-same_path : goal.returns-then-same_path
returns-then-same_path c up number dir split =
    let same : same_path c.args.from.now c.args.to.now ≡ true = sym c.same_path.ensures ∙ c.if-same_path.true in (
      ap (λ b. cond b None (first_of (exists_at (plain_nodes whole c.args.tree.now.nodes) c.args.to.now ∷ free_left (plain_nodes whole c.args.tree.now.nodes) c.args.from.now c.args.to.now))) same,
      same_is c.args.from.now c.args.to.now same,
    )

pub returns-then-is_some : goal.returns-then-is_some
returns-then-is_some c up number dir split =
    moved_taken c.args.tree.now c.args.from.now c.args.to.now c.taken.result (sym c.same_path.ensures ∙ c.if-same_path.false)
    (ap (number_at c.args.tree.now.nodes) split ∙ c.taken.ensures up dir) (sym c.is_some.ensures ∙ c.if-is_some.true)

pub returns-then-is_below : goal.returns-then-is_below
returns-then-is_below c up number dir split =
    moved_freely c.args.tree.now c.args.from.now c.args.to.now c.taken.result (sym c.same_path.ensures ∙ c.if-same_path.false)
    (ap (number_at c.args.tree.now.nodes) split ∙ c.taken.ensures up dir) (sym c.is_some.ensures ∙ c.if-is_some.false)
    ∙ ap (λ b. first_of (refuse_if b refusals.Inside ∷ read_only (plain_nodes whole c.args.tree.now.nodes) (parent_of c.args.from.now) ∷ read_only (plain_nodes whole c.args.tree.now.nodes) (parent_of c.args.to.now) ∷ [])) (sym c.is_below.ensures ∙ c.if-is_below.true)

pub returns-then-is_readonly : goal.returns-then-is_readonly
returns-then-is_readonly c up number dir split =
    let below : is_below c.args.from.now c.args.to.now ≡ false = sym c.is_below.ensures ∙ c.if-is_below.false in
    let old : flag_at (plain_nodes whole c.args.tree.now.nodes) (parent_of c.args.from.now) ≡ true = sym (c.is_readonly.ensures whole (parent_of c.args.from.now) (c.parent.ensures c.args.from.now number)) ∙ c.if-is_readonly.true in
    moved_freely c.args.tree.now c.args.from.now c.args.to.now c.taken.result (sym c.same_path.ensures ∙ c.if-same_path.false)
    (ap (number_at c.args.tree.now.nodes) split ∙ c.taken.ensures up dir) (sym c.is_some.ensures ∙ c.if-is_some.false)
    ∙ (λ i. first_of (refuse_if (below i) refusals.Inside ∷ refuse_if (old i) refusals.ReadOnly ∷ read_only (plain_nodes whole c.args.tree.now.nodes) (parent_of c.args.to.now) ∷ []))

pub returns-then-is_readonly-2 : goal.returns-then-is_readonly-2
returns-then-is_readonly-2 c up number dir split =
    let below : is_below c.args.from.now c.args.to.now ≡ false = sym c.is_below.ensures ∙ c.if-is_below.false in
    let old : flag_at (plain_nodes whole c.args.tree.now.nodes) (parent_of c.args.from.now) ≡ false = sym (c.is_readonly.ensures whole (parent_of c.args.from.now) (c.parent.ensures c.args.from.now number)) ∙ c.if-is_readonly.false in
    let there : StandsAt c.args.tree.now (parent_of c.args.to.now) c.args.numbers.1 = subst (λ p. StandsAt c.args.tree.now p c.args.numbers.1) (sym (ap parent_of split ∙ parent_ends up c.args.name.now)) dir in
    let new : flag_at (plain_nodes whole c.args.tree.now.nodes) (parent_of c.args.to.now) ≡ true = sym (c.is_readonly-2.ensures whole (parent_of c.args.to.now) there) ∙ c.if-is_readonly-2.true in
    moved_freely c.args.tree.now c.args.from.now c.args.to.now c.taken.result (sym c.same_path.ensures ∙ c.if-same_path.false)
    (ap (number_at c.args.tree.now.nodes) split ∙ c.taken.ensures up dir) (sym c.is_some.ensures ∙ c.if-is_some.false)
    ∙ (λ i. first_of (refuse_if (below i) refusals.Inside ∷ refuse_if (old i) refusals.ReadOnly ∷ refuse_if (new i) refusals.ReadOnly ∷ []))

pub returns : goal.returns
returns c up number dir split =
    let below : is_below c.args.from.now c.args.to.now ≡ false = sym c.is_below.ensures ∙ c.if-is_below.false in
    let old : flag_at (plain_nodes whole c.args.tree.now.nodes) (parent_of c.args.from.now) ≡ false = sym (c.is_readonly.ensures whole (parent_of c.args.from.now) (c.parent.ensures c.args.from.now number)) ∙ c.if-is_readonly.false in
    let there : StandsAt c.args.tree.now (parent_of c.args.to.now) c.args.numbers.1 = subst (λ p. StandsAt c.args.tree.now p c.args.numbers.1) (sym (ap parent_of split ∙ parent_ends up c.args.name.now)) dir in
    let new : flag_at (plain_nodes whole c.args.tree.now.nodes) (parent_of c.args.to.now) ≡ false = sym (c.is_readonly-2.ensures whole (parent_of c.args.to.now) there) ∙ c.if-is_readonly-2.false in (
      moved_freely c.args.tree.now c.args.from.now c.args.to.now c.taken.result (sym c.same_path.ensures ∙ c.if-same_path.false)
          (ap (number_at c.args.tree.now.nodes) split ∙ c.taken.ensures up dir) (sym c.is_some.ensures ∙ c.if-is_some.false)
          ∙ (λ i. first_of (refuse_if (below i) refusals.Inside ∷ refuse_if (old i) refusals.ReadOnly ∷ refuse_if (new i) refusals.ReadOnly ∷ [])),
      (λ same. let wrong : true ≡ false = sym (is_same c.args.from.now c.args.to.now same) ∙ sym c.same_path.ensures ∙ c.if-same_path.false in cc),
      number,
      there,
    )
