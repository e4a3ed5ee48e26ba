use Rattle.mount_recover.specs.Noted.{AreNotes}
use Rattle.mount_recover.proofs.FlagLemmas.{tells_both}
use Rattle.mount_recover.proofs.StepLemmas.{at_told, both_after}
use Rattle.mount_recover.proofs.flags.read_flags.Goals as goal

pub returns : goal.returns
returns g c =
    both_after g.D.Drive c.args.start c.in_ok-ip_ends.ensures c.in_ok-dp_ends.ensures
    (λ held h ip dp. (ip, dp, tells_both held c.args.notes.now c.args.uuid c.args.choice.now c.are_noted.result (at_told (AreNotes c.args.notes.now) h c.requires.notes) c.are_noted.ensures))
    (λ ip dp. tt)
