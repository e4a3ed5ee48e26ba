use Rattle.mount_recover.proofs.MountLemmas.{labels_step}
use Rattle.mount_recover.proofs.mounting.find_labels.Goals as goal

pub returns : goal.returns
returns g c =
    labels_step g.D.Drive c.args.start c.args.drive.now c.read_all.new.drive c.read_all.result c.requires.since
    c.read_all.ensures.found c.read_all.ensures.refused c.read_all.ensures.any c.read_all.ensures.counts c.read_all.ensures.looks
