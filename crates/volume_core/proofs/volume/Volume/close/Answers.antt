use Rattle.volume_core.proofs.LeavingLemmas.{all_have_room, all_there, closes, leaves_own, to_close}
use Rattle.volume_core.proofs.volume.Volume.close.Goals as goal

pub close-requires-clause-can : goal.close-requires-clause-can
close-requires-clause-can g c =
    to_close g.D.Drive _ _ _ _ _ c.self.invariant.0 c.self.view_is c.requires c.ask-at.result c.ask-at.ensures.given

pub close-requires-clause-there : goal.close-requires-clause-there
close-requires-clause-there g c =
    all_there g.D.Drive _ _ _ _ _ c.self.invariant.0 c.self.view_is c.requires

pub close-requires-clause-room : goal.close-requires-clause-room
close-requires-clause-room g c =
    all_have_room g.D.Drive _ _ _ _ _ c.self.invariant.0 c.self.view_is _ c.self.invariant.2

pub returns-clause-closes : goal.returns-clause-closes
returns-clause-closes g c =
    closes g.D.Drive c.closes_end.ensures _ _ _ _ _ c.self.invariant.0 c.self.view_is c.requires _ _ _ _ _ _ _ _
    c.self.invariant.3 c.ask-at.ensures.given c.close.ensures

pub returns-clause-own : goal.returns-clause-own
returns-clause-own g c =
    leaves_own g.D.Drive c.closes_end.ensures _ _ _ _ _ c.self.invariant.0 c.self.view_is c.requires _ _ _ _ _ _ _ _
    c.self.invariant.3 c.ask-at.ensures.given c.close.ensures
