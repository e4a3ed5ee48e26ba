use Rattle.std.proofs.Common.{ap, sym}
use Rattle.volume_scan.specs.declared.content.Construct.{Construct}
use Rattle.generation_view.proofs.links.step_of.Goals as goal

pub returns-in-None-clause-told : goal.returns-in-None-clause-told
returns-in-None-clause-told c = λ held k ks end there older of.
    (ap (λ (p : Construct). p.first) (sym there), c.in-None.ensures.told held k ks end there older of)

pub returns-in-None-clause-sound : goal.returns-in-None-clause-sound
returns-in-None-clause-sound c = λ sound. (sound, c.in-None.ensures.fits)
