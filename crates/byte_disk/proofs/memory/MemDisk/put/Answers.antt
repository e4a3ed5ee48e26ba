use Rattle.std.proofs.Common.{ℕ, ◌≡◌, ◌≤◌, ◌<◌, ◌-◌, ◌^◌, sym, ◌∙◌, ap, subst, List, [], ◌∷◌, ◌++◌, length}
use Rattle.std.specs.Prelude.{reverse}
use Rattle.byte_disk.specs.declared.record.Act.TheVariants.{Wrote}
use Rattle.byte_disk.specs.declared.record.Change.{Change}
use Rattle.byte_disk.specs.declared.record.DoneCommand.{DoneCommand}
use Rattle.byte_disk.specs.Files.{Files, bytes_of, with_bytes, written}
use Rattle.byte_disk.specs.Memory.{View}
use Rattle.byte_disk.specs.Record.{change_of, IsSound}
use Rattle.byte_disk.proofs.Kept.{newest, put_sound}
use Rattle.byte_disk.proofs.memory.MemDisk.put.Goals as goal

pub invariant_of-self-2 : goal.invariant_of-self-2
invariant_of-self-2 c =
    let m = c.self.inside in
    let file = c.args.file in
    let at = c.args.at in
    let bytes : List ℕ = c.args.bytes.now in
    let count = c.args.count in
    let held : Files = m.files in
    let new : Files = with_bytes file (written at bytes (bytes_of file held)) held in
    let low : m.commands < 2 ^ 64 - 1 → c.args.number < m.commands = subst (λ (v : View). v.commands < 2 ^ 64 - 1 → c.args.number < v.commands) (sym c.self.view_is) c.requires.number in
    let within : at ≤ length (bytes_of file held) = subst (λ (v : View). at ≤ length (bytes_of file v.held)) (sym c.self.view_is) c.requires.within in
    let entry : Change → DoneCommand = λ w. record { number = c.args.number; act = Wrote file w } in
    let items : c.push_reserved.new.self.items ≡ m.acts.items ++ entry (change_of at count bytes (bytes_of file held)) ∷ [] =
    c.push_reserved.ensures.items ∙ ap (λ (es : List DoneCommand). es ++ entry c.in_ok-change.change ∷ []) c.reserve.ensures.items
    ∙ ap (λ (w : Change). m.acts.items ++ entry w ∷ []) c.in_ok-change.ensures.change in
    subst (λ (d : Files). IsSound m.commands d (reverse c.push_reserved.new.self.items)) (sym c.in_ok-change.ensures.ok)
    (subst (λ (es : List DoneCommand). IsSound m.commands new es)
    (sym (newest m.acts.items c.push_reserved.new.self.items (entry (change_of at count bytes (bytes_of file held))) items))
    (put_sound at count bytes c.requires.count c.are_bytes.ensures c.requires.end file c.args.number m.commands held (reverse m.acts.items) within low c.self.invariant))
