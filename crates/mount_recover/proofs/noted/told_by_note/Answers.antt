use Rattle.std.proofs.Common.{◌≡◌, Option, true, false, refl, sym, subst, ◌∙◌}
use Rattle.std.specs.Prelude.{IfSome}
use Rattle.mount_recover.specs.Noted.{IsNotedText}
use Rattle.mount_recover.specs.declared.lasts.LastIndex.{LastIndex}
use Rattle.mount_recover.proofs.NotedLemmas.{one_follows}
use Rattle.mount_recover.proofs.noted.told_by_note.Goals as goal

pub returns-then-follows-clause-some : goal.returns-then-follows-clause-some
returns-then-follows-clause-some c =
    let s = subst (λ (o : Option LastIndex). IfSome o (λ l. (l.place ≡ c.args.place)
    × IsNotedText c.args.document.now c.args.label.now c.args.label.now.index c.args.note c.args.place l.index)) c.in-Ok-Some.field-0-is c.in-Ok-Some.ensures.some in
    (c.in-Ok-Some.ip, refl, s.0, s.1, c.follows.ensures.0 c.if-follows.true)

pub returns-else-follows-clause-all : goal.returns-else-follows-clause-all
returns-else-follows-clause-all c = λ index noted follows.
    let s = subst (λ (o : Option LastIndex). IfSome o (λ l. (l.place ≡ c.args.place)
    × IsNotedText c.args.document.now c.args.label.now c.args.label.now.index c.args.note c.args.place l.index)) c.in-Ok-Some.field-0-is c.in-Ok-Some.ensures.some in
    let bad : false ≡ true = sym c.if-follows.false
    ∙ c.follows.ensures.1 (one_follows c.args.document.now c.args.label.now c.in-Ok-Some.ip.index index c.args.dp s.1.text noted.text follows) in
    absurd (cc bad)

pub returns-in-Ok-None-clause-all : goal.returns-in-Ok-None-clause-all
returns-in-Ok-None-clause-all c = λ index noted follows.
    let bad = sym (c.in-Ok-None.ensures.all index noted).1 ∙ c.in-Ok-None.field-0-is in
    absurd (cc bad)
