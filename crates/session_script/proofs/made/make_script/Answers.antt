use Rattle.std.proofs.Common.{◌++◌, length, ap, ◌∙◌, arith}
use Rattle.session_script.specs.Made.{made_round}
use Rattle.session_script.proofs.MadeLemmas.{script_more, length-made_script}
use Rattle.session_script.proofs.made.make_script.Goals as goal

pub with_round-requires-clause-small : goal.with_round-requires-clause-small
with_round-requires-clause-small c = omega (arith, ap length c.loop-nth.invariant ∙ length-made_script c.loop-nth.nth)

pub loop-nth-preserved : goal.loop-nth-preserved
loop-nth-preserved c =
    c.in_ok-script-2.ensures ∙ ap (λ lines. lines ++ made_round c.loop-nth.nth) c.loop-nth.invariant ∙ script_more c.loop-nth.nth
