use Rattle.std.proofs.Common.{◌≡◌, ◌∙◌, ap, length, rules}
use Rattle.block_cache.specs.Kept.{used_all}
use Rattle.volume_core.specs.VolumeSteps.Seen.{seen_parts}
use Rattle.volume_core.proofs.VolumeSteps.AwaitLemmas.{read_told}
use Rattle.volume_core.proofs.volume_steps.parts.Parts.read_on.Goals as goal

pub returns-then-len-eq0-clause-submits : goal.returns-then-len-eq0-clause-submits
returns-then-len-eq0-clause-submits g c path offset count free f =
    let none : length c.args.wanted ≡ 0 = search rules in
    read_told g.D.Drive c.args.asked.who c.args.asked.nth path offset count c.args.asked.at c.pair-told.result.0 c.args.reading
    c.args.wanted c.args.found c.answer.result (seen_parts c.args.self.now) (seen_parts c.answer.new.self) c.used_all.new.self c.requires.can
    free f none (c.used_all.ensures ∙ ap (used_all c.args.self.now.cache) c.as_slice.ensures) c.pair-told.ensures.answered c.pair-told.ensures.no_sync c.answer.ensures
