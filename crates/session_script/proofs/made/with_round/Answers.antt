use Rattle.std.proofs.Common.{rules, ◌≡◌, ◌+◌, ◌-◌, ◌++◌, ◌∷◌, [], length, ap, ◌∙◌, arith}
use Rattle.session_script.proofs.MadeLemmas.{begun_round, line_in, round_more, length-begun}
use Rattle.session_script.proofs.made.with_round.Goals as goal

pub push-requires-clause-small : goal.push-requires-clause-small
push-requires-clause-small c =
    let begun = ap length c.loop-who.invariant ∙ length-begun c.args.script c.args.nth (c.loop-who.who - 1) in
    omega (arith, begun)

pub loop-who-preserved : goal.loop-who-preserved
loop-who-preserved c =
    let count = c.loop-who.who - 1 in
    let here : c.loop-who.who ≡ 1 + count = omega arith in
    let next : count + 1 ≡ c.loop-who.who + 1 - 1 = omega arith in
    let call = c.in_ok-call.ensures in
    let grown : c.in_ok-longer.longer ≡ c.loop-who.longer ++ line_in c.args.nth c.loop-who.who ∷ [] = search rules in
    grown
    ∙ ap (λ lines. lines ++ line_in c.args.nth c.loop-who.who ∷ []) c.loop-who.invariant
    ∙ ap (λ who. (c.args.script ++ begun_round c.args.nth count) ++ line_in c.args.nth who ∷ []) here
    ∙ round_more c.args.script c.args.nth count
    ∙ ap (λ n. c.args.script ++ begun_round c.args.nth n) next

pub returns : goal.returns
returns c =
    let all : c.loop-who.who - 1 ≡ 8 = omega arith in
    c.loop-who.invariant ∙ ap (λ n. c.args.script ++ begun_round c.args.nth n) all
