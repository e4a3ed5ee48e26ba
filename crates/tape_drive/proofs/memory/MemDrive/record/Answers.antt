use Rattle.std.proofs.Common.{◌<◌, ◌-◌, ◌^◌, sym, subst, List}
use Rattle.tape_drive.specs.declared.record.DoneCommand.{DoneCommand}
use Rattle.tape_drive.specs.Record.{IsSound}
use Rattle.tape_drive.specs.Placed.{reads_as}
use Rattle.tape_drive.specs.Memory.{View}
use Rattle.tape_drive.proofs.Sound.{sound_acted, sound_fits, newest}
use Rattle.tape_drive.proofs.memory.MemDrive.record.Goals as goal

pub invariant_of-self-2 : goal.invariant_of-self-2
invariant_of-self-2 c =
    let m = c.self.inside in
    let held = reads_as m.ip.items m.dp.items m.vcr m.note_ip m.note_dp in
    let below : m.commands < 2 ^ 64 - 1 → c.args.number < m.commands = subst (λ (v : View). v.commands < 2 ^ 64 - 1 → c.args.number < v.commands) (sym c.self.view_is) c.requires.number in
    subst (λ (es : List DoneCommand). IsSound m.limits m.commands held es)
    (sym (newest m.acts.items c.push.new.self.items (record { number = c.args.number; act = c.args.act }) c.in_ok-push.ensures.items))
    (sound_acted m.limits m.commands c.args.number c.args.act held held _ (c.requires.same held) (sound_fits m.limits m.commands held _ c.self.invariant) below c.self.invariant)
