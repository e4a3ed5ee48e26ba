use Rattle.std.proofs.Common.{List, ap, length, subst, ◌∙◌}
use Rattle.block_cache.specs.Kept.{used_all}
use Rattle.tape_types.specs.declared.cartridges.Place.{Place}
use Rattle.plain_tree.specs.declared.calls.Call.TheVariants as calls
use Rattle.volume_core.specs.VolumeSteps.Seen.{seen_parts}
use Rattle.volume_core.specs.VolumeSteps.Wanted.{AsksBlocks}
use Rattle.volume_core.proofs.VolumeSteps.AwaitLemmas.{can_place_on, read_waits}
use Rattle.volume_core.proofs.VolumeSteps.SubmitLemmas.{no_memory}
use Rattle.volume_core.proofs.volume_steps.parts.Parts.wait_for.Goals as goal

pub place_waiting-requires : goal.place_waiting-requires
place_waiting-requires g c =
    can_place_on c.args.asked.who c.args.self.now.placements c.ask.new.self.placements c.in-Ok.ensures.ok.listed
    c.requires.can.place

pub returns-in-Ok-clause-submits : goal.returns-in-Ok-clause-submits
returns-in-Ok-clause-submits g c path offset count free f =
    let old = seen_parts c.args.self.now in
    let mid = seen_parts c.ask.new.self in
    read_waits g.D.Drive c.args.asked.who c.args.asked.nth path offset count c.args.asked.at c.args.reading c.args.wanted
    c.args.found c.place_waiting.result old mid (seen_parts c.place_waiting.new.self) c.used_all.new.self free f c.requires.some
    (subst (λ (ps : List Place). AsksBlocks (length c.args.self.now.placements.history) ps c.args.reading old mid)
    c.as_slice.ensures c.in-Ok.ensures.ok)
    (c.used_all.ensures ∙ ap (used_all mid.cached) c.as_slice-in-Ok.ensures)
    c.place_waiting.ensures

pub returns-clause-submits : goal.returns-clause-submits
returns-clause-submits g c path offset count free f =
    no_memory g.D.Drive c.args.asked.who c.args.asked.nth (calls.Read path offset count) c.args.asked.at c.void.result
    (seen_parts c.args.self.now) (seen_parts c.ask.new.self) (seen_parts c.void.new.self) c.requires.can c.in-Err.ensures.err
    c.void.ensures
