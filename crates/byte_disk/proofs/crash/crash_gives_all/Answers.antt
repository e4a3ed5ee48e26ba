use Rattle.byte_disk.proofs.Exact.{leaves_are, are_leaves, leaves_give, give_leaves}
use Rattle.byte_disk.proofs.crash.crash_gives_all.Goals as goal

pub returns-clause-places : goal.returns-clause-places
returns-clause-places c image =
    let disk = c.args.disk.now in
    let kept = c.acts-sound.ensures.sound.kept in
    (leaves_are disk.held disk.acts kept image, are_leaves disk.held disk.acts kept image)

pub returns-clause-choices : goal.returns-clause-choices
returns-clause-choices c image =
    let disk = c.args.disk.now in
    let kept = c.acts-sound.ensures.sound.kept in
    (leaves_give disk.held disk.acts kept image, give_leaves disk.held disk.acts kept image)
