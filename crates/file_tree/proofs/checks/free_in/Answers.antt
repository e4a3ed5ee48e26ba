use Rattle.std.proofs.Common.{Option, [], ◌∷◌, ◌++◌, sym, ap, ◌∙◌}
use Rattle.plain_tree.specs.declared.calls.Refusal.{Refusal}
use Rattle.plain_tree.specs.declared.calls.Refusal.TheVariants as refusals
use Rattle.plain_tree.specs.Refusals.{first_of, refuse_if, read_only, too_many}
use Rattle.file_tree.specs.Tree.{plain_nodes, plain_of, whole}
use Rattle.file_tree.proofs.ReadyLemmas.{taken, not_taken}
use Rattle.file_tree.proofs.checks.free_in.Goals as goal

pub returns-then-is_some : goal.returns-then-is_some
returns-then-is_some c path stands =
    taken c.args.tree.now (path ++ c.args.name.now ∷ []) c.taken.result (read_only (plain_nodes whole c.args.tree.now.nodes) path ∷ too_many (plain_of whole c.args.tree.now) ∷ [])
    (c.taken.ensures path stands) (sym c.is_some.ensures ∙ c.if-is_some.true)

pub returns-then-is_readonly : goal.returns-then-is_readonly
returns-then-is_readonly c path stands =
    not_taken c.args.tree.now (path ++ c.args.name.now ∷ []) c.taken.result (read_only (plain_nodes whole c.args.tree.now.nodes) path ∷ too_many (plain_of whole c.args.tree.now) ∷ [])
    (c.taken.ensures path stands) (sym c.is_some.ensures ∙ c.if-is_some.false)
    ∙ ap (λ b. first_of (refuse_if b refusals.ReadOnly ∷ too_many (plain_of whole c.args.tree.now) ∷ [])) (sym (c.is_readonly.ensures whole path stands) ∙ c.if-is_readonly.true)

pub returns-then-is_full : goal.returns-then-is_full
returns-then-is_full c path stands =
    not_taken c.args.tree.now (path ++ c.args.name.now ∷ []) c.taken.result (read_only (plain_nodes whole c.args.tree.now.nodes) path ∷ too_many (plain_of whole c.args.tree.now) ∷ [])
    (c.taken.ensures path stands) (sym c.is_some.ensures ∙ c.if-is_some.false)
    ∙ ap (λ b. first_of (refuse_if b refusals.ReadOnly ∷ too_many (plain_of whole c.args.tree.now) ∷ [])) (sym (c.is_readonly.ensures whole path stands) ∙ c.if-is_readonly.false)
    ∙ ap (λ (o : Option Refusal). first_of (o ∷ [])) (sym c.is_full.ensures ∙ ap (λ b. refuse_if b refusals.TooMany) c.if-is_full.true)

pub returns : goal.returns
returns c path stands = (
  not_taken c.args.tree.now (path ++ c.args.name.now ∷ []) c.taken.result (read_only (plain_nodes whole c.args.tree.now.nodes) path ∷ too_many (plain_of whole c.args.tree.now) ∷ [])
      (c.taken.ensures path stands) (sym c.is_some.ensures ∙ c.if-is_some.false)
      ∙ ap (λ b. first_of (refuse_if b refusals.ReadOnly ∷ too_many (plain_of whole c.args.tree.now) ∷ [])) (sym (c.is_readonly.ensures whole path stands) ∙ c.if-is_readonly.false)
      ∙ ap (λ (o : Option Refusal). first_of (o ∷ [])) (sym c.is_full.ensures ∙ ap (λ b. refuse_if b refusals.TooMany) c.if-is_full.false),
  stands,
)
