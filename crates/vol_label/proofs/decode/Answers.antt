use Rattle.std.proofs.Common.{rules, arith, ◌≡◌, true, false, ◌∙◌, below_more}
use Rattle.vol_label.proofs.TableLemmas.{record_stands, all_stand-record}
use Rattle.vol_label.proofs.decode.Goals as goal

pub returns-then-not-may_stand-clause-all : goal.returns-then-not-may_stand-clause-all
returns-then-not-may_stand-clause-all c label h =
    let stands = record_stands c.args.bytes.now label h c.loop-at.at (omega arith) in
    let bad : false ≡ true = c.if-not-may_stand.ensures ∙ stands in
    absurd (cc bad)

pub loop-at-preserved : goal.loop-at-preserved
loop-at-preserved c = below_more _ _ c.loop-at.invariant (search rules)

pub returns-clause-ok : goal.returns-clause-ok
returns-clause-ok c =
    all_stand-record c.args.bytes.now c.label_of.result c.if-bytes-ne80.false (λ k lt. c.loop-at.invariant k (omega arith)) c.label_of.ensures.volume c.label_of.ensures.owner
