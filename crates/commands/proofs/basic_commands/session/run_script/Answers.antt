use Rattle.std.proofs.Common.{◌≡◌, Some, ◌∙◌, ap, refl, rules, arith, length, take, get_or, subst}
use Rattle.std.specs.Prelude.{slice_get, IfSome}
use Rattle.std.proofs.lemmas.Option.{slice_get_read}
use Rattle.plain_tree.specs.declared.calls.Placed.{Placed}
use Rattle.session_script.specs.Grammar.{calls_of}
use Rattle.commands.proofs.BasicCommands.RunLemmas.{run_begins, run_goes_on, run_ends}
use Rattle.commands.proofs.basic_commands.session.run_script.Goals as goal

pub loop-k-init : goal.loop-k-init
loop-k-init g c =
    run_begins _ _ _ _ c.moment-first.result _ _ _ c.moment-first.ensures.given c.moment-first.ensures.later c.in_ok-tree.ensures c.in_ok-history.ensures.items c.in_ok-replies.ensures.items

pub loop-k-preserved : goal.loop-k-preserved
loop-k-preserved g c =
    let script = c.args.script.now in
    let k = c.loop-k.k in
    let line = c.index-lines-k.result in
    let p : Placed = record { who = line.who; nth = c.nth_at.result; at = c.moment-now.result; fate = c.answer-fate.result.0 } in
    let found : slice_get script k ≡ Some line = slice_get_read script _ k line (ap length c.lines-lines.ensures) c.loop-k-test.true (c.index-lines-k.is ∙ ap (λ l. get_or l k line) c.lines-lines.ensures) in
    let nth : c.nth_at.result ≡ length (calls_of (take k script) line.who) = subst (λ o. IfSome o (λ l. c.nth_at.result ≡ length (calls_of (take k script) l.who))) found c.nth_at.ensures in
    run_goes_on script k _ _ _ _ _ _ _ _ _ _ line p c.answer-fate.result.1
    c.loop-k.invariant found refl nth c.moment-now.ensures.given c.moment-now.ensures.later c.answer-fate.ensures.reply c.answer-fate.ensures.left (search rules) (search rules)

pub returns : goal.returns
returns g c =
    run_ends _ _ _ _ _ _ _ _ _ c.loop-k.invariant (omega (arith, ap length c.lines-lines.ensures)) c.from_vec.ensures c.from_vec-2.ensures c.new.ensures c.new-2.ensures
