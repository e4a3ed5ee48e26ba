use Rattle.std.proofs.Common.{rules, ◌≡◌, ◌+◌, suc, drop, length, ap, ◌∙◌, arith}
use Rattle.waiting_reads.specs.Waiting.{answer_for}
use Rattle.waiting_reads.proofs.AnswerLemmas.{found_at, none_left, passes}
use Rattle.waiting_reads.proofs.readings.place_for.Goals as goal

pub returns-then-answered-at-clause-found : goal.returns-then-answered-at-clause-found
returns-then-answered-at-clause-found c =
    found_at c.args.ticket c.loop-at.at c.args.answered.now c.index-answered-at.result (search rules) (search rules)
    c.loop-at.invariant

pub loop-at-preserved : goal.loop-at-preserved
loop-at-preserved c =
    let next : suc c.loop-at.at ≡ c.loop-at.at + 1 = omega arith in
    c.loop-at.invariant
    ∙ passes c.args.ticket c.loop-at.at c.args.answered.now c.index-answered-at.result (search rules) (search rules)
    ∙ ap (λ n. answer_for c.args.ticket (drop n c.args.answered.now)) next

pub returns-clause-none : goal.returns-clause-none
returns-clause-none c same =
    let end : c.loop-at.at ≡ length c.args.answered.now = search rules in
    none_left c.args.ticket c.args.answered.now
    (c.loop-at.invariant ∙ ap (λ n. answer_for c.args.ticket (drop n c.args.answered.now)) end)
