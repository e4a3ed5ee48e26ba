use Rattle.std.proofs.Common.{arith}
use Rattle.tape_types.specs.Cartridges.{items_of}
use Rattle.mount_recover.specs.Lasts.{IsFront}
use Rattle.mount_recover.proofs.FlagLemmas.{ends_before}
use Rattle.mount_recover.proofs.StepLemmas.{at_told, more_step, no_step}
use Rattle.mount_recover.proofs.flags.ends_with.Goals as goal

pub returns-else-last-count : goal.returns-else-last-count
returns-else-last-count g c =
    more_step g.D.Drive c.args.start (omega arith)
    (no_step g.D.Drive c.args.start c.requires.since
    (λ held h. (
      (λ bad. absurd (cc bad)),
      λ ends. absurd (ends_before (items_of c.args.part held) c.args.count c.args.last c.in-Some.last c.in-Some.is
          (at_told (λ held. IsFront (items_of c.args.part held) c.args.count c.args.last) h c.requires.front) c.if-last-count.false ends),
    ))
    tt tt tt)
