use Rattle.std.proofs.Common.{sym, ap, subst, ◌∙◌}
use Rattle.held_volume.specs.declared.volume_sync.frames.Frame.{Frame}
use Rattle.promises.specs.declared.serving_promise.answers.CloseEnd.TheVariants as ends
use Rattle.volume_core.specs.Finish.{Finishes}
use Rattle.volume_core.proofs.finishing.finish.Goals as goal

pub returns-then-frame-clause-finishes : goal.returns-then-frame-clause-finishes
returns-then-frame-clause-finishes g c =
    subst (λ (f : Frame). Finishes g.D.Drive c.args.noted c.args.at c.args.parts.now.stock c.args.parts.now.head.drive
    c.args.parts.now.head.drive (ends.Done f.generation)) (sym c.frame-frame.ensures.frame)
    (Finishes.sealed (sym (ap (λ (f : Frame). f.sealed) c.frame-frame.ensures.frame) ∙ c.if-frame.true))

pub returns-clause-finishes : goal.returns-clause-finishes
returns-clause-finishes g c = Finishes.unsealed c.finish_open.new.parts.head.drive c.finish_open.result
    (sym (ap (λ (f : Frame). f.sealed) c.frame-frame.ensures.frame) ∙ c.if-frame.false)
    c.finish_open.ensures.finishes
