use Rattle.std.specs.Prelude.{ℕ, ◌<◌, [], ◌∷◌, ◌++◌, length}
use Rattle.std.proofs.Common.{refl, sym, ap, subst, ◌∙◌}
use Rattle.std.proofs.lemmas.List.{append-nil}
use Rattle.head_queue.specs.EventLaws.Trail.{after_all}
use Rattle.head_queue.specs.EventLaws.Waiting.{State}
use Rattle.session_script.specs.declared.logs.Event.TheVariants.{Synced}
use Rattle.event_journal.specs.Trails.{state}
use Rattle.volume_core.specs.VolumeSteps.Seen.{seen_parts}
use Rattle.volume_core.proofs.VolumeSteps.SyncLemmas.{after_more, answering_one_more, fewer}
use Rattle.volume_core.proofs.volume_steps.parts.Parts.answer_syncs.Goals as goal

pub loop-ticket-smaller : goal.loop-ticket-smaller
loop-ticket-smaller g c =
    let st = state c.loop-ticket.self.trail in
    subst (λ (st' : State). length st'.syncs < length st.syncs)
    (sym (ap after_all c.write.ensures.events ∙ after_more c.loop-ticket.self.trail.events (Synced c.in-Some.ticket)))
    (fewer st.done c.in-Some.ticket st.syncs (sym c.due.ensures.due ∙ c.in-Some.is))

pub loop-ticket-preserved : goal.loop-ticket-preserved
loop-ticket-preserved g c = (
  c.loop-ticket.invariant.0,
  answering_one_more _ c.in-Some.ticket _ (seen_parts c.loop-ticket.self) _ c.loop-ticket.invariant.1 (sym c.due.ensures.due ∙ c.in-Some.is) record {
    drive = refl;
    stock = refl;
    on = refl;
    events = c.write.ensures.events;
    acks = c.write.ensures.acks
        ∙ ap (λ (n : ℕ). c.loop-ticket.self.trail.acks ++ record { place = c.in-Some.ticket; command = n } ∷ []) c.loop-ticket.invariant.0;
    kept = c.write.ensures.kept ∙ append-nil _;
    listed = record { history = c.answer.ensures.history; marks = c.answer.ensures.marks; calls = c.answer.ensures.calls; sessions = c.answer.ensures.sessions };
    replies = c.answer.ensures.replies;
    queue = refl;
    answered = refl;
    reads = refl;
    cached = refl;
  },
)
