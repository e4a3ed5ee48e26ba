use Rattle.std.proofs.Common.{Option, None, [], ◌∷◌, ◌++◌, ap, ◌∙◌}
use Rattle.plain_tree.specs.declared.calls.Refusal.{Refusal}
use Rattle.plain_tree.specs.Refusals.{first_of, no_dir}
use Rattle.file_tree.specs.Tree.{plain_nodes, plain_of, whole}
use Rattle.file_tree.proofs.PlainLemmas.{plain_none}
use Rattle.file_tree.proofs.ReadLemmas.{found_there}
use Rattle.file_tree.proofs.ReadyLemmas.{none_at, under_none, not_in_dir}
use Rattle.file_tree.proofs.checks.both_in.Goals as goal

pub returns-in-Some : goal.returns-in-Some
returns-in-Some c =
    let stands = c.in-Some.ensures c.args.up.now c.in-Ok.ensures.1 in (
      ap (λ (r : Option Refusal). first_of (r ∷ no_dir (plain_nodes whole c.args.tree.now.nodes) c.args.up.now ∷ [])) (found_there whole c.args.tree.now.nodes (c.args.up.now ++ c.args.name.now ∷ []) c.in-Some.number stands)
          ∙ ap (λ (r : Option Refusal). first_of (None ∷ r ∷ [])) c.in-Ok.ensures.0,
      stands,
      c.in-Ok.ensures.1,
    )

pub returns-in-None : goal.returns-in-None
returns-in-None c =
    ap (λ (r : Option Refusal). first_of (r ∷ no_dir (plain_nodes whole c.args.tree.now.nodes) c.args.up.now ∷ [])) (not_in_dir (plain_nodes whole c.args.tree.now.nodes) c.args.up.now c.args.name.now
    (plain_none whole c.args.tree.now.nodes (c.args.up.now ++ c.args.name.now ∷ []) (none_at c.args.tree.now.nodes (c.args.up.now ++ c.args.name.now ∷ []) (c.in-None.ensures c.args.up.now c.in-Ok.ensures.1)))
    c.in-Ok.ensures.0)

pub returns-in-Err : goal.returns-in-Err
returns-in-Err c =
    ap (λ (r : Option Refusal). first_of (r ∷ no_dir (plain_nodes whole c.args.tree.now.nodes) c.args.up.now ∷ []))
    (under_none (plain_of whole c.args.tree.now) c.args.up.now c.args.name.now c.in-Err.refusal (c.count-good.ensures.good.valid whole) c.in-Err.ensures)
