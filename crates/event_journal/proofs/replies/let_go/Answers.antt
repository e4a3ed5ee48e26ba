use Rattle.std.proofs.Common.{arith, refl, ◌∙◌, true}
use Rattle.std.proofs.lemmas.Option.{slice_get_within}
use Rattle.event_journal.proofs.LetGoLemmas.{go_nowhere, go_one}
use Rattle.event_journal.proofs.replies.let_go.Goals as goal

pub loop-replies-init : goal.loop-replies-init
loop-replies-init c = (go_nowhere c.args.handed.now c.args.front c.args.replies.now.items, refl, refl)

pub let_one_go-requires : goal.let_one_go-requires
let_one_go-requires c =
    let within = slice_get_within c.args.handed.now c.loop-replies.at true (c.spares_at.ensures c.loop-replies-test.true) in
    omega (arith, within, c.requires, c.loop-replies.invariant.1)

pub loop-replies-preserved : goal.loop-replies-preserved
loop-replies-preserved c = (
  go_one _ _ _ _ _ _ _ c.loop-replies.invariant.0 c.let_one_go.ensures.values c.let_one_go.ensures.others
      (c.spares_at.ensures c.loop-replies-test.true) refl,
  c.let_one_go.ensures.len ∙ c.loop-replies.invariant.1,
  c.let_one_go.ensures.capacity ∙ c.loop-replies.invariant.2,
)
