use Rattle.std.proofs.Common.{List, ℕ, subst}
use Rattle.index_tool.specs.Outcomes.{IsJudged}
use Rattle.index_tool.proofs.Judged.{judged_answer, judged_refusal}
use Rattle.index_tool.proofs.tool.judge.Goals as goal

pub returns-in-Ok : goal.returns-in-Ok
returns-in-Ok c =
    let judged = judged_answer c.args.command c.as_slice.result.now c.in-Ok.index c.answer.result c.in-Ok.ensures.found c.answer.ensures in
    subst (λ (text : List ℕ). IsJudged c.args.command text c.answer.result) c.as_slice.ensures.value judged

pub returns-in-Err : goal.returns-in-Err
returns-in-Err c =
    let judged = judged_refusal c.args.command c.as_slice.result.now c.in-Err.refusal c.refused.result c.in-Err.ensures.refused c.refused.ensures in
    subst (λ (text : List ℕ). IsJudged c.args.command text c.refused.result) c.as_slice.ensures.value judged
