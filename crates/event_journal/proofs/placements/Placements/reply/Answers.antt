use Rattle.std.proofs.Common.{◌≡◌, None, Some, ap, inl, inr, rules, slice_get, subst, ◌∙◌}
use Rattle.session_script.specs.declared.kept.HeldReply.{HeldReply}
use Rattle.session_script.specs.declared.kept.HeldReply.TheVariants as held
use Rattle.event_journal.specs.LetGo.{MayBeGoneAt}
use Rattle.event_journal.specs.Placements.{Listed}
use Rattle.event_journal.proofs.LetGoLemmas.{absent_may, found_at, gone_may, past_end}
use Rattle.event_journal.proofs.placements.Placements.reply.Goals as goal

pub returns-in-Some-Some-Gone-clause-none : goal.returns-in-Some-Some-Gone-clause-none
returns-in-Some-Some-Gone-clause-none c =
    let here : slice_get c.self.inside.replies.items c.args.place ≡ Some (Some (held.Gone c.in-Some-Some-Gone.gone)) =
    found_at c.deref.result.now c.self.inside.replies.items c.args.place c.in-Some-Some-Gone.field-0.now
    (Some (held.Gone c.in-Some-Some-Gone.gone)) c.deref.ensures.value c.in-Some-Some-Gone.ensures.lookup.0
    c.in-Some-Some-Gone.ensures.lookup.1
    (c.in-Some-Some-Gone.field-0-is ∙ ap (λ (h : HeldReply). Some h) c.in-Some-Some-Gone.field-0-0-is) in
    subst (λ (l : Listed). MayBeGoneAt c.args.place l.replies l.marks) c.self.view_is
    (gone_may _ _ _ _ _ _ c.args.place _ c.self.invariant.1 here (search rules))

pub returns-in-Some-None-clause-none : goal.returns-in-Some-None-clause-none
returns-in-Some-None-clause-none c =
    let here : slice_get c.self.inside.replies.items c.args.place ≡ Some None =
    found_at c.deref.result.now c.self.inside.replies.items c.args.place c.in-Some-None.field-0.now None c.deref.ensures.value
    c.in-Some-None.ensures.lookup.0 c.in-Some-None.ensures.lookup.1 c.in-Some-None.field-0-is in
    subst (λ (l : Listed). MayBeGoneAt c.args.place l.replies l.marks) c.self.view_is
    (absent_may c.self.inside.replies.items _ c.args.place (inr here))

pub returns-in-None-clause-none : goal.returns-in-None-clause-none
returns-in-None-clause-none c =
    let here : slice_get c.self.inside.replies.items c.args.place ≡ None =
    past_end c.deref.result.now c.self.inside.replies.items c.args.place c.deref.ensures.value c.in-None.ensures.lookup.0 in
    subst (λ (l : Listed). MayBeGoneAt c.args.place l.replies l.marks) c.self.view_is
    (absent_may c.self.inside.replies.items _ c.args.place (inl here))
