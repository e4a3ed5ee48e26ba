use Rattle.std.proofs.Common.{◌≡◌, true, false, refl, sym, ◌∙◌}
use Rattle.mount_recover.proofs.NotedLemmas.{one_noted, text_refused}
use Rattle.mount_recover.proofs.noted.noted_text.Goals as goal

pub returns-then-is_of_note-clause-all : goal.returns-then-is_of_note-clause-all
returns-then-is_of_note-clause-all c = λ index noted. (record { index = c.in-Ok.index; place = c.args.place }, refl)

pub returns-else-is_of_note-clause-all : goal.returns-else-is_of_note-clause-all
returns-else-is_of_note-clause-all c = λ index noted.
    let bad : false ≡ true = sym c.if-is_of_note.false
    ∙ c.is_of_note.ensures.1 (one_noted c.args.document.now c.args.label.now c.args.letter c.args.note c.args.place c.in-Ok.index index c.in-Ok.ensures.found noted) in
    absurd (cc bad)

pub returns-else-lacks_memory-clause-all : goal.returns-else-lacks_memory-clause-all
returns-else-lacks_memory-clause-all c = λ index noted. absurd
    (text_refused c.args.document.now c.in-Err.fault index c.in-Err.ensures.refused (sym c.lacks_memory.ensures ∙ c.if-lacks_memory.false) noted.text)
