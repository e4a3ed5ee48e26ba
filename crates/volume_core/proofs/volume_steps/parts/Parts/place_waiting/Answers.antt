use Rattle.std.proofs.Common.{◌≤◌, refl, sym, subst}
use Rattle.plain_tree.specs.declared.calls.Placed.{Placed}
use Rattle.volume_core.specs.VolumeSteps.Seen.{seen_parts}
use Rattle.volume_core.proofs.VolumeSteps.PlacingLemmas.{awaits}
use Rattle.volume_core.proofs.volume_steps.parts.Parts.place_waiting.Goals as goal

pub place-requires-clause-low : goal.place-requires-clause-low
place-requires-clause-low g c = subst (λ (p : Placed). 1 ≤ p.who) (sym c.placed.ensures) c.requires.low

pub place-requires-clause-high : goal.place-requires-clause-high
place-requires-clause-high g c =
    subst (λ (p : Placed). p.who ≤ c.args.self.now.placements.sessions) (sym c.placed.ensures) c.requires.high

pub returns : goal.returns
returns g c =
    awaits c.args.asked.who c.args.asked.nth c.len-here.result c.args.asked.at _ c.placed.result (seen_parts c.args.self.now)
    (seen_parts (record c.args.self.now { placements = c.place.new.self })) refl c.len-here.ensures.len c.placed.ensures
    c.place.ensures.history c.place.ensures.replies c.place.ensures.marks c.place.ensures.calls c.place.ensures.sessions refl
