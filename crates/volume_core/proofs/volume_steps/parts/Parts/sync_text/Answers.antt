use Rattle.std.proofs.Common.{length, ap, refl, ◌∙◌}
use Rattle.plain_tree.specs.declared.calls.Call.TheVariants as calls
use Rattle.tape_layout.specs.Plans.{Plan}
use Rattle.held_volume.proofs.WriteSteps.{is_ok_then}
use Rattle.volume_core.specs.VolumeSteps.Seen.{seen_parts}
use Rattle.volume_core.proofs.VolumeSteps.ChangeLemmas.{change_void}
use Rattle.volume_core.proofs.VolumeSteps.EndLemmas.{reserves_both, sync_told, unchanged_same}
use Rattle.volume_core.proofs.VolumeSteps.SubmitLemmas.{no_memory}
use Rattle.volume_core.proofs.VolumeSteps.SyncDone.{can_queue, sync_made}
use Rattle.volume_core.proofs.volume_steps.parts.Parts.sync_text.Goals as goal

pub returns-then-is_err-clause-submits : goal.returns-then-is_err-clause-submits
returns-then-is_err-clause-submits g c =
    let old = seen_parts c.args.self.now in
    let r = c.reserve_sync.ensures in
    no_memory g.D.Drive c.args.asked.who c.args.asked.nth calls.Sync c.args.asked.at c.void.result old
    (record old { trail = c.reserve_sync.new.trail }) (seen_parts c.void.new.self) c.requires.can
    (reserves_both old old.stock c.reserve_sync.new.trail (unchanged_same old.stock old.stock refl) r.events r.acks r.kept)
    c.void.ensures

pub queue_sync-requires-clause-numbers : goal.queue_sync-requires-clause-numbers
queue_sync-requires-clause-numbers g c =
    let old = seen_parts c.args.self.now in
    can_queue old c.requires.stands c.args.asked.at c.admit_dp.new.self c.reserve_sync.new.trail c.waiting-standing.result
    c.reserve_sync.ensures.events
    (λ early h on st is. (c.in-Ok.ensures {u = tt}).syncs early h on st c.args.asked.at is (c.requires.document early h on st is))
    (c.waiting-standing.ensures ∙ ap (λ (l : Plan). length l.ops) c.layout.ensures)
    (λ tape h on st is.
    is_ok_then c.reserve_sync.result (c.if-is_err.ensures {u = tt}).value c.reserve_sync.ensures.room tape h on st c.args.asked.at is
    (c.requires.document tape h on st is))

pub returns-in-Ok-clause-submits : goal.returns-in-Ok-clause-submits
returns-in-Ok-clause-submits g c =
    let old = seen_parts c.args.self.now in
    let r = c.reserve_sync.ensures in
    sync_made g.D.Drive c.args.asked.who c.args.asked.nth c.args.asked.at c.queue_sync.result
    c.waiting-standing.result c.admit_dp.new.self c.reserve_sync.new.trail old (seen_parts c.queue_sync.new.self)
    c.requires.stands r.events r.acks r.kept (c.waiting-standing.ensures ∙ ap (λ (l : Plan). length l.ops) c.layout.ensures)
    (λ early h on st is. (c.in-Ok.ensures {u = tt}).syncs early h on st c.args.asked.at is (c.requires.document early h on st is))
    c.queue_sync.ensures

pub returns-in-Err-clause-submits : goal.returns-in-Err-clause-submits
returns-in-Err-clause-submits g c =
    let old = seen_parts c.args.self.now in
    let r = c.reserve_sync.ensures in
    change_void g.D.Drive c.args.asked.who c.args.asked.nth calls.Sync c.args.asked.at c.void-in-Err.result c.in-Err.error old
    (record old { stock = c.admit_dp.new.self; trail = c.reserve_sync.new.trail }) (seen_parts c.void-in-Err.new.self)
    c.requires.can
    (sync_told c.args.asked.at old.stock c.admit_dp.new.self c.in-Err.error
    (λ early h on st is. (c.in-Err.ensures {u = tt}).syncs early h on st c.args.asked.at is (c.requires.document early h on st is)))
    (reserves_both old c.admit_dp.new.self c.reserve_sync.new.trail (c.in-Err.ensures {u = tt}).leaves r.events r.acks r.kept)
    c.void-in-Err.ensures
