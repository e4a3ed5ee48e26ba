use Rattle.std.proofs.Common.{rules, ◌≡◌, ◌≤◌, length}
use Rattle.volume_core.specs.VolumeSteps.Seen.{seen_parts}
use Rattle.volume_core.proofs.VolumeSteps.WaitLemmas.{answered_now, waits_on}
use Rattle.volume_core.proofs.volume_steps.parts.Parts.wait_synced.Goals as goal

pub returns-then-standing-eq0 : goal.returns-then-standing-eq0
returns-then-standing-eq0 g c =
    let none : length c.args.self.now.stock.layout.ops ≡ 0 = search rules in
    answered_now g.D.Drive c.args.asked.who c.args.asked.nth c.args.asked.at c.len-here.result c.answer_sync.result
    c.note_sync.new.trail (seen_parts c.args.self.now) (seen_parts c.answer_sync.new.self) c.requires.can c.requires.ops none
    c.len-here.ensures.len c.note_sync.ensures.events c.note_sync.ensures.acks c.note_sync.ensures.kept c.answer_sync.ensures

pub returns-else-standing-eq0 : goal.returns-else-standing-eq0
returns-else-standing-eq0 g c =
    let some : 1 ≤ length c.args.self.now.stock.layout.ops = search rules in
    waits_on g.D.Drive c.args.asked.who c.args.asked.nth c.args.asked.at c.len-here.result c.await_sync.result
    c.note_sync.new.trail (seen_parts c.args.self.now) (seen_parts c.await_sync.new.self) c.requires.can c.requires.ops some
    c.len-here.ensures.len c.note_sync.ensures.events c.note_sync.ensures.acks c.note_sync.ensures.kept c.await_sync.ensures.trail
    c.await_sync.ensures.awaits
