use Rattle.std.specs.Prelude.{[], ◌∷◌, ◌++◌, Some}
use Rattle.std.proofs.Common.{ap, ◌∙◌}
use Rattle.std.proofs.lemmas.List.{append-nil}
use Rattle.tape_types.specs.declared.cartridges.Place.{Place}
use Rattle.session_script.specs.declared.logs.Event.TheVariants.{Worked}
use Rattle.event_journal.specs.Trails.{kept_for_drain, state}
use Rattle.volume_core.specs.declared.volume_steps.parts.Parts.{Parts as Held}
use Rattle.volume_core.proofs.volume_steps.parts.Parts.fail_op.Goals as goal

pub returns : goal.returns
returns g c op here =
    let D = g.row.D.Denot in
    let same = c.tell_fault.ensures.others in
    record {
      drive = ap (λ (p : Held D). p.head.drive) same;
      answered = ap (λ (p : Held D). p.reads.answered) same;
      told = record {
        stock = ap (λ (p : Held D). p.stock) same;
        on = ap (λ (p : Held D). p.on) same;
        events = c.write.ensures.events ∙ ap (λ (p : Held D). p.trail.events ++ Worked c.args.place (Some c.args.counts) ∷ []) same
            ∙ ap (λ (at : Place). c.args.self.now.trail.events ++ Worked at (Some c.args.counts) ∷ []) here;
        trail = c.head-at.ensures.trail;
        acks = c.write.ensures.acks ∙ append-nil _ ∙ ap (λ (p : Held D). p.trail.acks) same;
        kept = c.write.ensures.kept
            ∙ ap (λ (p : Held D). p.trail.kept ++ kept_for_drain (state p.trail) c.args.counts) same;
        listed = record {
          history = c.tell_fault.ensures.listed.history;
          marks = c.tell_fault.ensures.listed.marks;
          calls = c.tell_fault.ensures.listed.calls;
          sessions = c.tell_fault.ensures.listed.sessions;
        };
        replies = c.tell_fault.ensures.replies;
        queue = ap (λ (p : Held D). p.queue) same;
        reads = ap (λ (p : Held D). p.reads.reads) same;
        cached = ap (λ (p : Held D). p.cache) same;
      };
    }
