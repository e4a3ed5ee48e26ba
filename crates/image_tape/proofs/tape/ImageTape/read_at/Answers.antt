use Rattle.std.proofs.Common.{◌<◌, ℕ, List, IfSome, get_or, ap, sym, subst}
use Rattle.tape_types.specs.declared.cartridges.Item.{Item}
use Rattle.byte_disk.specs.Files.{bytes_of}
use Rattle.image_slots.specs.State.{file_of}
use Rattle.image_format.specs.declared.values.Half.{Half}
use Rattle.image_tape.specs.Steps.{HasRecord, IsReading}
use Rattle.image_tape.proofs.Spots.{ReadsRecord, reading_behind, reading_record, record_stands}
use Rattle.image_tape.proofs.tape.ImageTape.read_at.Goals as goal

pub read_record-requires-clause-stands : goal.read_record-requires-clause-stands
read_record-requires-clause-stands g c =
    subst (λ v. IfSome (g.B.ByteDisk.held v.slots.disk) (λ d. (x : Item) × HasRecord (get_or c.offsets.result.now c.args.at.pos 0) x (bytes_of (file_of c.args.at.part) d))) c.self.view_is
    (record_stands g.B.ByteDisk _ c.self.invariant c.args.at.part c.args.at.pos (get_or c.offsets.result.now c.args.at.pos 0)
    (subst (λ (h : Half). c.args.at.pos < h.count) c.half_of-half.ensures c.if-at-half.true) (ap (λ (l : List ℕ). get_or l c.args.at.pos 0) c.offsets.ensures))

pub returns-in-Ok-clause-reading : goal.returns-in-Ok-clause-reading
returns-in-Ok-clause-reading g c =
    let from = get_or c.offsets.result.now c.args.at.pos 0 in
    subst (λ v. IsReading g.B.ByteDisk c.args.at c.in-Ok.got c.read_record.new.buf.items v) c.self.view_is
    (reading_record g.B.ByteDisk _ c.self.invariant c.args.at from c.in-Ok.got c.read_record.new.buf.items
    (subst (λ (h : Half). c.args.at.pos < h.count) c.half_of-half.ensures c.if-at-half.true) (ap (λ (l : List ℕ). get_or l c.args.at.pos 0) c.offsets.ensures)
    (subst (λ v. ReadsRecord c.args.at.part from (g.B.ByteDisk.held v.slots.disk) c.in-Ok.got c.read_record.new.buf.items) (sym c.self.view_is) c.in-Ok.ensures.item)
    c.in-Ok.ensures.bytes)

pub returns-clause-reading : goal.returns-clause-reading
returns-clause-reading g c =
    subst (λ v. IsReading g.B.ByteDisk c.args.at c.behind.result c.clear.new.self.items v) c.self.view_is
    (reading_behind g.B.ByteDisk _ c.self.invariant c.args.at c.half_of-half.result c.behind.result c.clear.new.self.items c.half_of-half.ensures c.behind.ensures.item
    c.behind.ensures.end c.behind.ensures.fills c.clear.ensures.items)
