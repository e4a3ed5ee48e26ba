use Rattle.std.proofs.Common.{◌++◌, take, drop, sym, ap, ◌∙◌, arith}
use Rattle.session_script.proofs.Fillings.{further_behind}
use Rattle.session_script.proofs.log_lines.LogLine.fill.Goals as goal

pub returns-then-end-used-clause-piece : goal.returns-then-end-used-clause-piece
returns-then-end-used-clause-piece c =
    sym (ap (λ n. take n c.go_on-end.new.room ++ c.go_on-end.new.self) (sym c.if-end-used.true) ∙ c.go_on-end.ensures.same ∙ c.loop-used.invariant.same)

pub returns-then-end-used-clause-behind : goal.returns-then-end-used-clause-behind
returns-then-end-used-clause-behind c =
    ap (λ n. drop n c.go_on-end.new.room) (sym c.if-end-used.true) ∙ c.go_on-end.ensures.behind ∙ ap (λ n. drop n c.loop-used.room) c.if-end-used.true ∙ c.loop-used.invariant.behind

pub loop-used-preserved : goal.loop-used-preserved
loop-used-preserved c = record {
  same = c.go_on-end.ensures.same ∙ c.loop-used.invariant.same;
  within = omega (arith, c.go_on-end.ensures.within, c.go_on-end.auto.room);
  behind = c.go_on-end.ensures.behind ∙ further_behind c.loop-used.room c.args.room.now c.loop-used.used c.go_on-end.result c.go_on-end.ensures.later c.loop-used.invariant.behind;
}
