use Rattle.promises.specs.ImageLaws.Moments.{moment_of}
use Rattle.promises.proofs.ImageLaws.Acks.{kept_acked}
use Rattle.promises.proofs.image_laws.laws.acks_are_kept.Goals as goal

pub returns : goal.returns
returns g c = λ v t s since drive a done jobs front w behind acks kept due.
    kept_acked v t s since (moment_of g.D.Drive drive a) done jobs front w behind acks kept due
    (λ short image left. g.met.D.Drive.only_now drive image short left)
