-- That a mount tells the label of its cartridge.
use Rattle.std.proofs.Common.{ap, ◌∙◌}
use Rattle.cartridge_meaning.specs.declared.labels.Labels.{Labels}
use Rattle.cartridge_meaning.proofs.OneWay.{same_labels}
use Rattle.volume_state.specs.DueLaws.Laws.{MountsTellLabels}

-- the label of a mount is that of whatever is found of its cartridge
pub tell_labels : MountsTellLabels
tell_labels c m found mounts = mounts.label ∙ ap (λ (l : Labels). l.ip) (same_labels c mounts.found found)
