use Rattle.volume_core.proofs.LeavingLemmas.{as_it_was}
use Rattle.volume_core.proofs.volume.Volume.part.Goals as goal

pub returns-clause-drive : goal.returns-clause-drive
returns-clause-drive g c =
    as_it_was g.D.Drive _ _ _ _ _ c.self.invariant.0 c.self.view_is c.requires _ c.into_drive-drive.ensures
