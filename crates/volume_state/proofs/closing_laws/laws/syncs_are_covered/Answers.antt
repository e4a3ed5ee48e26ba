use Rattle.volume_state.proofs.ClosingLaws.OwnSyncs.{sync_covered}
use Rattle.volume_state.proofs.closing_laws.laws.syncs_are_covered.Goals as goal

pub returns : goal.returns
returns c = sync_covered
