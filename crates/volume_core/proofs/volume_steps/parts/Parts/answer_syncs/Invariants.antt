use Rattle.std.proofs.Common.{◌≡◌, length}
use Rattle.event_journal.specs.Trails.{state}
use Rattle.volume_core.specs.VolumeSteps.Seen.{seen_parts}
use Rattle.volume_core.proofs.VolumeSteps.SyncLemmas.{Answering}
use Rattle.volume_core.proofs.volume_steps.parts.Parts.answer_syncs.Given as goal

abbrev pub invariant-loop-ticket : goal.invariant-loop-ticket
invariant-loop-ticket g l = (l.commands ≡ g.D.Drive.commands (seen_parts l.fn.self).drive)
    × Answering (g.D.Drive.commands (seen_parts l.fn.self).drive) (seen_parts l.fn.self) (seen_parts l.self)

abbrev pub decreases-loop-ticket : goal.decreases-loop-ticket
decreases-loop-ticket g l = length (state l.self.trail).syncs
