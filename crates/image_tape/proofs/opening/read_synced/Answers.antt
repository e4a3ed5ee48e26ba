use Rattle.std.proofs.Common.{rules, ◌∙◌}
use Rattle.image_tape.proofs.Beginning.{tellable, uncounted}
use Rattle.image_tape.proofs.opening.read_synced.Goals as goal

pub returns-then-not-is_counted-clause-told : goal.returns-then-not-is_counted-clause-told
returns-then-not-is_counted-clause-told g c = λ d held.
    absurd (uncounted g.B.ByteDisk c.args.room.now.limits c.args.slots.now.disk c.in-Ok-read.value c.read.new.self c.is_counted.result (λ d is. g.met.B.ByteDisk.bytes _ d is)
    (λ e is. c.in-Ok-read.ensures.told e (c.in-Ok.ensures.held ∙ is)) c.is_counted.ensures.both (search rules) d held)

pub returns-else-not-is_counted-clause-found : goal.returns-else-not-is_counted-clause-found
returns-else-not-is_counted-clause-found g c =
    tellable g.B.ByteDisk c.args.room.now.limits c.args.slots.now c.sync_both.new.slots c.read.new.slots c.read.new.self c.in-Ok-read.value (λ d is. g.met.B.ByteDisk.bytes _ d is) c.in-Ok.ensures.synced
    c.in-Ok.ensures.held c.in-Ok-read.ensures.value c.read.ensures.looks c.in-Ok-read.ensures.told (search rules) (search rules)
