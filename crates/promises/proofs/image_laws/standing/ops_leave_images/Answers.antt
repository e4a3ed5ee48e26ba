use Rattle.promises.proofs.ImageLaws.Events.{within_image}
use Rattle.promises.proofs.image_laws.standing.ops_leave_images.Goals as goal

-- src/standing.rt:25:1
pub returns : goal.returns
returns c = λ v t plan whole s held op next reads sound then before image is up within.
    within_image v t plan whole s held op next reads sound then before image is up within
