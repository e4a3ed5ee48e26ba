use Rattle.volume_core.specs.VolumeSteps.Seen.{seen_parts}
use Rattle.volume_core.specs.Turns.{told}
use Rattle.volume_core.proofs.Submissions.{drains_at, void_at}
use Rattle.volume_core.proofs.submitting.put_off.Goals as goal

pub returns-in-Ok-clause-submits : goal.returns-in-Ok-clause-submits
returns-in-Ok-clause-submits g c =
    λ call. drains_at g.D.Drive c.args.who c.args.nth call
    (told (g.C.Clock.one c.args.clock.now) (g.C.Clock.next c.args.clock.now))
    (seen_parts c.args.parts.now) (seen_parts c.begin_drain.new.self) (c.in-Ok.ensures {u = tt}).ok

pub returns-in-Err-clause-submits : goal.returns-in-Err-clause-submits
returns-in-Err-clause-submits g c =
    λ call. void_at g.D.Drive c.args.who c.args.nth call c.ask-at.result
    (told (g.C.Clock.one c.args.clock.now) (g.C.Clock.next c.args.clock.now))
    (told (g.C.Clock.one c.ask-at.new.clock) (g.C.Clock.next c.ask-at.new.clock)) c.void.result (seen_parts c.args.parts.now)
    (seen_parts c.begin_drain.new.self) (seen_parts c.void.new.self) c.requires.can c.ask-at.ensures
    (c.in-Err.ensures {u = tt}).err c.void.ensures
