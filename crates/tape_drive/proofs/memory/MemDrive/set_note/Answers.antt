use Rattle.std.proofs.Common.{◌≡◌, ◌<◌, ◌-◌, ◌^◌, sym, ◌∙◌, ap, subst, List, ◌∷◌, ◌++◌, []}
use Rattle.std.specs.Prelude.{reverse}
use Rattle.tape_types.specs.Cartridges.{FitsLimits}
use Rattle.tape_types.specs.declared.cartridges.Cartridge.{Cartridge}
use Rattle.tape_types.specs.declared.cartridges.Note.{Note}
use Rattle.tape_drive.specs.declared.record.Act.{Act}
use Rattle.tape_drive.specs.declared.record.Act.TheVariants.{Noted}
use Rattle.tape_drive.specs.declared.record.DoneCommand.{DoneCommand}
use Rattle.tape_drive.specs.Record.{IsSound, undo, with_note}
use Rattle.tape_drive.specs.Placed.{reads_as}
use Rattle.tape_drive.specs.Memory.{View}
use Rattle.tape_drive.proofs.Sound.{sound_acted, sound_fits, newest, note_placed, undo_note, fits_note}
use Rattle.tape_drive.proofs.memory.MemDrive.set_note.Goals as goal

pub invariant_of-self-2 : goal.invariant_of-self-2
invariant_of-self-2 c =
    let m = c.self.inside in
    let part = c.args.part in
    let held : Cartridge = reads_as m.ip.items m.dp.items m.vcr m.note_ip m.note_dp in
    let new : Cartridge = reads_as m.ip.items m.dp.items m.vcr c.put_note-before.new.ip c.put_note-before.new.dp in
    let below : m.commands < 2 ^ 64 - 1 → c.args.number < m.commands = subst (λ (v : View). v.commands < 2 ^ 64 - 1 → c.args.number < v.commands) (sym c.self.view_is) c.requires.number in
    let before = c.put_note-before.result in
    let is = note_placed part c.args.note before m.ip.items m.dp.items m.vcr m.note_ip m.note_dp c.put_note-before.new.ip c.put_note-before.new.dp c.put_note-before.ensures in
    let act : Act = Noted part before in
    let back : undo act new ≡ held =
    ap (λ (d : Cartridge). undo act d) is.0 ∙ ap (λ (n : Note). undo (Noted part n) (with_note part c.args.note held)) is.1 ∙ undo_note part c.args.note held in
    let items : c.push_reserved.new.self.items ≡ m.acts.items ++ record { number = c.args.number; act = act } ∷ [] =
    c.push_reserved.ensures.items ∙ ap (λ (es : List DoneCommand). es ++ record { number = c.args.number; act = act } ∷ []) c.reserve.ensures.items in
    subst (λ (es : List DoneCommand). IsSound m.limits m.commands new es)
    (sym (newest m.acts.items c.push_reserved.new.self.items (record { number = c.args.number; act = act }) items))
    (sound_acted m.limits m.commands c.args.number act held new (reverse m.acts.items) back
    (subst (λ (d : Cartridge). FitsLimits m.limits d) (sym is.0) (fits_note m.limits part c.args.note held (sound_fits m.limits m.commands held _ c.self.invariant))) below c.self.invariant)
