use Rattle.std.proofs.Common.{sym, subst}
use Rattle.tape_types.specs.declared.cartridges.Limits.{Limits}
use Rattle.tape_types.specs.Cartridges.{FitsLimits}
use Rattle.tape_drive.proofs.Sound.{sound_fits}
use Rattle.tape_drive.proofs.commands.MemDriveDrive.limits.Goals as goal

pub returns-clause-fits : goal.returns-clause-fits
returns-clause-fits c = subst (λ (l : Limits). FitsLimits l c.args.self.now.held) (sym c.kept_limits.ensures.value) (sound_fits _ _ _ _ c.kept_limits.ensures.sound)
