use Rattle.std.proofs.Common.{◌≤◌, ◌∙◌, length, ap, sym, subst}
use Rattle.plain_tree.specs.declared.calls.Placed.{Placed}
use Rattle.std.specs.Prelude.{◌++◌, ◌∷◌, []}
use Rattle.promises.specs.ServingPromise.Marks.{mark}
use Rattle.promises.specs.declared.serving_promise.marks.MarkKind.TheVariants as kinds
use Rattle.volume_core.specs.VolumeSteps.Seen.{seen_parts}
use Rattle.volume_core.proofs.VolumeSteps.PlacingLemmas.{none_yet, places, there_now, waits_here}
use Rattle.volume_core.proofs.volume_steps.parts.Parts.place_answered.Goals as goal

pub place-requires-clause-low : goal.place-requires-clause-low
place-requires-clause-low g c = subst (λ (p : Placed). 1 ≤ p.who) (sym c.placed.ensures) c.requires.low

pub place-requires-clause-high : goal.place-requires-clause-high
place-requires-clause-high g c =
    subst (λ (p : Placed). p.who ≤ c.args.self.now.placements.sessions) (sym c.placed.ensures) c.requires.high

pub answer-requires : goal.answer-requires
answer-requires g c =
    none_yet c.args.self.now.placements c.place.new.self c.len-here.result c.len-here.ensures.each c.len-here.ensures.len
    c.place.ensures.replies

pub hand-requires-clause-waits : goal.hand-requires-clause-waits
hand-requires-clause-waits g c =
    waits_here c.args.asked.who c.len-here.result c.args.self.now.placements c.place.new.self c.answer.new.self
    c.len-here.ensures.len c.requires.free
    (c.place.ensures.marks ∙ ap (λ (p : Placed). c.args.self.now.placements.marks
    ++ mark p.who (kinds.Places (length c.args.self.now.placements.history)) ∷ []) c.placed.ensures)
    c.answer.ensures.marks

pub hand-requires-clause-there : goal.hand-requires-clause-there
hand-requires-clause-there g c = (
  c.args.reply,
  there_now c.args.self.now.placements c.place.new.self c.answer.new.self c.len-here.result c.args.reply
      c.len-here.ensures.each c.len-here.ensures.len c.place.ensures.replies c.answer.ensures.replies,
)

pub returns-clause-places : goal.returns-clause-places
returns-clause-places g c =
    places c.args.asked.who c.args.asked.nth c.len-here.result c.args.asked.at c.args.fate c.args.reply
    c.place.new.self c.answer.new.self (seen_parts c.args.self.now)
    (seen_parts (record c.args.self.now { placements = c.hand.new.self }))
    c.len-here.ensures.each c.len-here.ensures.len
    (c.place.ensures.history ∙ ap (λ (p : Placed). c.args.self.now.placements.history ++ p ∷ []) c.placed.ensures)
    c.place.ensures.replies
    (c.place.ensures.marks ∙ ap (λ (p : Placed). c.args.self.now.placements.marks
    ++ mark p.who (kinds.Places (length c.args.self.now.placements.history)) ∷ []) c.placed.ensures)
    c.place.ensures.calls c.place.ensures.sessions
    c.answer.ensures.history c.answer.ensures.replies c.answer.ensures.marks c.answer.ensures.calls c.answer.ensures.sessions
    c.hand.ensures.history c.hand.ensures.replies c.hand.ensures.marks c.hand.ensures.calls c.hand.ensures.sessions
