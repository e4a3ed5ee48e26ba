use Rattle.std.proofs.Common.{rules}
use Rattle.format_volume.proofs.NoteLemmas.{sure_since}
use Rattle.format_volume.proofs.StandLemmas.{volume_stands}
use Rattle.format_volume.proofs.formatting.format.Goals as goal

pub returns-in-Ok-clause-stands : goal.returns-in-Ok-clause-stands
returns-in-Ok-clause-stands g c =
    volume_stands g.D.Drive c.args.spec.now c.args.drive.now c.write_volume.new.drive (search rules) (c.in_ok-texts.ensures {u = tt}).read
    c.in-Ok.ensures.holds c.in-Ok.ensures.notes c.in-Ok.ensures.goes

pub returns-in-Ok-clause-since : goal.returns-in-Ok-clause-since
returns-in-Ok-clause-since g c =
    sure_since g.D.Drive c.write_volume.new.drive c.in-Ok.ensures.sure (g.met.D.Drive.only_now c.write_volume.new.drive)
