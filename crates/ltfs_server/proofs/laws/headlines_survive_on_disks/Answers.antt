use Rattle.std.proofs.Common.{refl}
use Rattle.ltfs_server.proofs.Disks.{disks_survive}
use Rattle.ltfs_server.proofs.laws.headlines_survive_on_disks.Goals as goal

pub returns : goal.returns
returns g c =
    disks_survive g.B.ByteDisk _ (λ v. refl) (λ b image low left. g.met.B.ByteDisk.only_now b image low left)
    (λ b t u image le left. g.met.B.ByteDisk.lower b t u image le left) c.args.tape.now c.images_open.ensures
