use Rattle.std.proofs.Common.{length, Ok, ap, refl, ◌∙◌}
use Rattle.plain_tree.specs.Calls.{call_of_change}
use Rattle.tape_layout.specs.Plans.{Plan}
use Rattle.held_volume.proofs.WriteSteps.{is_ok_then}
use Rattle.volume_core.specs.VolumeSteps.Seen.{seen_parts}
use Rattle.volume_core.proofs.VolumeSteps.ChangeLemmas.{change_done, change_refused, change_room, change_void, changes_act}
use Rattle.volume_core.proofs.VolumeSteps.EndLemmas.{done_of, refused_of, reserves_both, same_of, told_of, unchanged_of, unchanged_same}
use Rattle.volume_core.proofs.VolumeSteps.SubmitLemmas.{no_memory}
use Rattle.volume_core.proofs.volume_steps.parts.Parts.change.Goals as goal

pub returns-then-is_err-clause-submits : goal.returns-then-is_err-clause-submits
returns-then-is_err-clause-submits g c =
    let old = seen_parts c.args.self.now in
    let r = c.reserve_for.ensures in
    no_memory g.D.Drive c.args.asked.who c.args.asked.nth (call_of_change c.args.change) c.args.asked.at c.void.result old
    (record old { trail = c.reserve_for.new.trail }) (seen_parts c.void.new.self) c.requires.can
    (reserves_both old old.stock c.reserve_for.new.trail (unchanged_same old.stock old.stock refl) r.events r.acks r.kept)
    c.void.ensures

pub queue_change-requires-clause-room : goal.queue_change-requires-clause-room
queue_change-requires-clause-room g c =
    let old = seen_parts c.args.self.now in
    let is = c.in-Ok-None.is ∙ ap Ok c.in-Ok-None.field-0-is in
    change_room old c.requires.stands (call_of_change c.args.change) c.args.asked.at c.apply.new.self c.reserve_for.new.trail.spare
    c.waiting-standing.result (c.waiting-standing.ensures ∙ ap (λ (l : Plan). length l.ops) c.layout.ensures)
    (done_of (call_of_change c.args.change) c.args.asked.at old.stock c.apply.new.self c.apply.result is c.apply.ensures.applied)
    (is_ok_then c.reserve_for.result (c.if-is_err.ensures {u = tt}).value c.reserve_for.ensures.room)

pub returns-in-Ok-None-clause-submits : goal.returns-in-Ok-None-clause-submits
returns-in-Ok-None-clause-submits g c =
    let old = seen_parts c.args.self.now in
    let r = c.reserve_for.ensures in
    let is = c.in-Ok-None.is ∙ ap Ok c.in-Ok-None.field-0-is in
    change_done g.D.Drive c.args.asked.who c.args.asked.nth (call_of_change c.args.change) c.args.asked.at c.queue_change.result
    c.waiting-standing.result c.apply.new.self c.reserve_for.new.trail old (seen_parts c.queue_change.new.self)
    c.requires.stands (changes_act c.args.change).0 (changes_act c.args.change).1 (c.waiting-standing.ensures ∙ ap (λ (l : Plan). length l.ops) c.layout.ensures)
    (done_of (call_of_change c.args.change) c.args.asked.at old.stock c.apply.new.self c.apply.result is c.apply.ensures.applied)
    r.events r.acks r.kept c.queue_change.ensures

pub returns-in-Ok-Some-clause-submits : goal.returns-in-Ok-Some-clause-submits
returns-in-Ok-Some-clause-submits g c =
    let old = seen_parts c.args.self.now in
    let r = c.reserve_for.ensures in
    let refusal = c.in-Ok-Some.refusal in
    let is = c.in-Ok-Some.is ∙ ap Ok c.in-Ok-Some.field-0-is in
    let same = same_of old.stock c.apply.new.self refusal c.apply.result is c.apply.ensures.leaves in
    change_refused g.D.Drive c.args.asked.who c.args.asked.nth (call_of_change c.args.change) c.args.asked.at c.answer.result refusal old
    (record old { stock = c.apply.new.self; trail = c.reserve_for.new.trail }) (seen_parts c.answer.new.self) c.requires.can
    (changes_act c.args.change).0
    (refused_of (call_of_change c.args.change) c.args.asked.at old.stock c.apply.new.self refusal c.apply.result is c.apply.ensures.applied)
    same
    (reserves_both old c.apply.new.self c.reserve_for.new.trail (unchanged_same old.stock c.apply.new.self same) r.events r.acks r.kept)
    c.answer.ensures

pub returns-in-Err-clause-submits : goal.returns-in-Err-clause-submits
returns-in-Err-clause-submits g c =
    let old = seen_parts c.args.self.now in
    let r = c.reserve_for.ensures in
    change_void g.D.Drive c.args.asked.who c.args.asked.nth (call_of_change c.args.change) c.args.asked.at c.void-in-Err.result c.in-Err.error old
    (record old { stock = c.apply.new.self; trail = c.reserve_for.new.trail }) (seen_parts c.void-in-Err.new.self)
    c.requires.can
    (told_of (call_of_change c.args.change) c.args.asked.at old.stock c.apply.new.self c.in-Err.error c.apply.result c.in-Err.is c.apply.ensures.applied)
    (reserves_both old c.apply.new.self c.reserve_for.new.trail
    (unchanged_of old.stock c.apply.new.self c.in-Err.error c.apply.result c.in-Err.is c.apply.ensures.leaves) r.events r.acks r.kept)
    c.void-in-Err.ensures
