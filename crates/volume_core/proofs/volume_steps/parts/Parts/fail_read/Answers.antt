use Rattle.std.proofs.Common.{refl, ◌∙◌}
use Rattle.std.proofs.lemmas.List.{append-nil}
use Rattle.volume_core.proofs.VolumeSteps.ReadLemmas.{missed}
use Rattle.volume_core.proofs.volume_steps.parts.Parts.fail_read.Goals as goal

pub returns : goal.returns
returns g c =
    missed c.args.owner c.args.place c.args.counts _ _ refl record {
      stock = refl;
      on = refl;
      acks = c.write.ensures.acks ∙ append-nil _;
      kept = c.write.ensures.kept ∙ append-nil _;
      listed = record { history = c.answer.ensures.history; marks = c.answer.ensures.marks; calls = c.answer.ensures.calls; sessions = c.answer.ensures.sessions };
      trail = c.head-at.ensures.trail;
      arrived = c.forget_requests.ensures.arrived;
    }
    c.write.ensures.events c.requires.request c.forget_requests.ensures.waiting c.forget.ensures.forgotten c.forget.ensures.answered
    c.answer.ensures.replies refl
