use Rattle.std.proofs.Common.{rules, ◌≡◌, true, false, ◌∙◌, sym, length}
use Rattle.coherency.proofs.NoteLemmas.{note-frame, frame-note}
use Rattle.coherency.proofs.decode_note.Goals as goal

pub returns-then-not-has_frame-clause-all : goal.returns-then-not-has_frame-clause-all
returns-then-not-has_frame-clause-all c values h =
    let bad : false ≡ true = c.if-not-has_frame.ensures ∙ note-frame c.args.note.now values h in
    absurd (cc bad)

pub returns-in-Some-clause-some : goal.returns-in-Some-clause-some
returns-in-Some-clause-some c =
    let long : length c.args.note.now ≡ 70 = search rules in
    frame-note c.args.note.now _ long (sym c.if-not-has_frame.ensures) c.number.ensures c.number-in-Some.ensures c.number-in-Some-2.ensures (sym c.in-Some.ensures)
