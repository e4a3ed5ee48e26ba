use Rattle.std.proofs.Common.{◌+◌, ◌≡◌, ◌<◌, ◌-◌, ◌^◌, sym, ◌∙◌, ap, subst, List, ◌∷◌, ◌++◌, []}
use Rattle.std.specs.Prelude.{reverse}
use Rattle.tape_types.specs.Cartridges.{capacity, FitsLimits}
use Rattle.tape_types.specs.declared.cartridges.Cartridge.{Cartridge}
use Rattle.tape_types.specs.declared.cartridges.Item.{Item}
use Rattle.tape_drive.specs.declared.record.Act.{Act}
use Rattle.tape_drive.specs.declared.record.Act.TheVariants.{Put}
use Rattle.tape_drive.specs.declared.record.DoneCommand.{DoneCommand}
use Rattle.tape_drive.specs.Record.{IsSound, undo}
use Rattle.tape_drive.specs.Placed.{reads_as}
use Rattle.tape_drive.specs.Memory.{View, with_item}
use Rattle.tape_drive.proofs.Sound.{sound_acted, sound_fits, newest, placed, undo_put, fits_put}
use Rattle.tape_drive.proofs.memory.MemDrive.put.Goals as goal

pub invariant_of-self-2 : goal.invariant_of-self-2
invariant_of-self-2 c =
    let m = c.self.inside in
    let at = c.args.at in
    let held : Cartridge = reads_as m.ip.items m.dp.items m.vcr m.note_ip m.note_dp in
    let new : Cartridge = reads_as c.put_at.new.ip.items c.put_at.new.dp.items (m.vcr + 1) m.note_ip m.note_dp in
    let below : m.commands < 2 ^ 64 - 1 → c.args.number < m.commands = subst (λ (v : View). v.commands < 2 ^ 64 - 1 → c.args.number < v.commands) (sym c.self.view_is) c.requires.number in
    let room : at.pos < capacity at.part m.limits = subst (λ (v : View). at.pos < capacity at.part v.limits) (sym c.self.view_is) c.requires.room in
    let is = placed at.part at.pos c.args.item c.in_ok-gone.gone m.ip.items m.dp.items c.put_at.new.ip.items c.put_at.new.dp.items m.vcr m.note_ip m.note_dp c.in_ok-gone.ensures.ok in
    let act : Act = Put at.part c.in_ok-gone.gone c.args.failed in
    let back : undo act new ≡ held =
    ap (λ (d : Cartridge). undo act d) is.0
    ∙ ap (λ (gone : List Item). undo (Put at.part gone c.args.failed) (with_item at c.args.item held)) is.1
    ∙ undo_put at c.args.item c.args.failed held in
    let items : c.push_reserved.new.self.items ≡ m.acts.items ++ record { number = c.args.number; act = act } ∷ [] =
    c.push_reserved.ensures.items ∙ ap (λ (es : List DoneCommand). es ++ record { number = c.args.number; act = act } ∷ []) c.reserve.ensures.items in
    subst (λ (es : List DoneCommand). IsSound m.limits m.commands new es)
    (sym (newest m.acts.items c.push_reserved.new.self.items (record { number = c.args.number; act = act }) items))
    (sound_acted m.limits m.commands c.args.number act held new (reverse m.acts.items) back
    (subst (λ (d : Cartridge). FitsLimits m.limits d) (sym is.0) (fits_put m.limits at c.args.item held room c.requires.size (sound_fits m.limits m.commands held _ c.self.invariant))) below c.self.invariant)
