use Rattle.std.proofs.Common.{◌≡◌, Some}
use Rattle.cartridge_meaning.specs.Labels.{HasLabels}
use Rattle.mount_recover.specs.Labels.{Fails}
use Rattle.mount_recover.proofs.LabelLemmas.{is_read_as, where_err, where_ok}
use Rattle.mount_recover.proofs.labels.read_labels.Goals as goal

pub returns-clause-only : goal.returns-clause-only
returns-clause-only g c =
    λ held l h. is_read_as held l c.read_all.result
    (where_ok c.read_all.result (λ held. g.D.Drive.held c.args.drive.now ≡ Some held) (λ l held. HasLabels held l) held c.read_all.ensures.found h)
    (where_err c.read_all.result (λ held. g.D.Drive.held c.args.drive.now ≡ Some held) (λ e held. Fails held e) held c.read_all.ensures.refused h)
