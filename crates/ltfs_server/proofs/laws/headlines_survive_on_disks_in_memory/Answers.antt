use Rattle.std.proofs.Common.{◌≡◌, Some, refl, subst}
use Rattle.byte_disk.specs.Images.{Gives}
use Rattle.byte_disk.specs.Memory.{View as Disk}
use Rattle.byte_disk.specs.Since.{GaveSince}
use Rattle.byte_disk.specs.contracts.commands.MemDiskByteDisk.TheImpl.{ghosts}
use Rattle.ltfs_server.proofs.Disks.{survives_in_files}
use Rattle.ltfs_server.proofs.laws.headlines_survive_on_disks_in_memory.Goals as goal

pub returns : goal.returns
returns c =
    let same = c.disk-disk.ensures in
    survives_in_files ghosts (λ b. refl) (λ b. refl) _ c.args.tape.now
    (subst (λ (b : Disk). ghosts.held b ≡ Some b.held) same c.files_are_told.ensures)
    (λ image. subst (λ (b : Disk). Gives b.held b.acts image → ghosts.leaves b image) same (c.crash_gives_all.ensures.choices image).1)
    (λ t image. subst (λ (b : Disk). GaveSince b.held b.acts t image → ghosts.left_since b t image) same (c.since_gives_all.ensures t image).1)
    c.headlines_survive_on_disks.ensures
