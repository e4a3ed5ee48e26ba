use Rattle.std.proofs.Common.{◌≡◌, ℕ, ◌+◌, ◌≤◌, ◌∙◌, List, length, Option, Some, IfOk, IfSome, ap, sym, subst}
use Rattle.byte_disk.specs.Files.{Files, bytes_at, bytes_of}
use Rattle.image_slots.specs.State.{file_of}
use Rattle.tape_drive.specs.declared.drive.Got.TheVariants as got
use Rattle.image_tape.proofs.Spots.{ReadsRecord, block_inside, block_item, mark_item, none_item, some_head, torn_item}
use Rattle.image_tape.proofs.Surely.{then_looks}
use Rattle.image_tape.proofs.tape.ImageTape.read_record.Goals as goal

pub read_block-requires-clause-within : goal.read_block-requires-clause-within
read_block-requires-clause-within g c =
    let is = sym c.decode_head.ensures ∙ c.in-Some-Block.is ∙ ap some_head c.in-Some-Block.field-0-is in
    subst (λ (o : Option Files). IfSome o (λ d. c.saturating_add.result + c.in-Some-Block.size ≤ length (bytes_of (file_of c.args.part) d))) (sym c.fetch.ensures.held)
    (block_inside c.args.part c.args.from _ c.fetch.new.buf c.in_default.ensures.value c.in-Some-Block.size c.saturating_add.result is c.saturating_add.ensures c.requires.stands)

pub returns-in-Some-Block-clause-item : goal.returns-in-Some-Block-clause-item
returns-in-Some-Block-clause-item g c =
    let is = sym c.decode_head.ensures ∙ c.in-Some-Block.is ∙ ap some_head c.in-Some-Block.field-0-is in
    block_item c.args.part c.args.from _ c.fetch.new.buf c.in_default.ensures.value c.in-Some-Block.size c.saturating_add.result c.read_block.result
    c.read_block.new.buf.items is c.saturating_add.ensures
    (subst (λ (o : Option Files). IfOk c.read_block.result (λ found. (d : Files) → o ≡ Some d → c.read_block.new.buf.items
    ≡ bytes_at c.saturating_add.result c.in-Some-Block.size (bytes_of (file_of c.args.part) d))) c.fetch.ensures.held c.read_block.ensures.value)
    c.read_block.ensures.block

pub returns-in-Some-Block-clause-looks : goal.returns-in-Some-Block-clause-looks
returns-in-Some-Block-clause-looks g c = then_looks g.B.ByteDisk 1 1 _ _ _ c.fetch.ensures.looks c.read_block.ensures.looks

pub returns-in-Some-Mark-clause-item : goal.returns-in-Some-Mark-clause-item
returns-in-Some-Mark-clause-item g c =
    let is = sym c.decode_head.ensures ∙ c.in-Some-Mark.is ∙ ap some_head c.in-Some-Mark.field-0-is in
    subst (λ (l : List ℕ). ReadsRecord c.args.part c.args.from (g.B.ByteDisk.held c.args.self.now.slots.disk) got.Mark l) (sym c.clear.ensures.items)
    (mark_item c.args.part c.args.from _ c.fetch.new.buf c.in_default.ensures.value is)

pub returns-in-Some-Torn-clause-item : goal.returns-in-Some-Torn-clause-item
returns-in-Some-Torn-clause-item g c =
    let is = sym c.decode_head.ensures ∙ c.in-Some-Torn.is ∙ ap some_head c.in-Some-Torn.field-0-is in
    subst (λ (l : List ℕ). ReadsRecord c.args.part c.args.from (g.B.ByteDisk.held c.args.self.now.slots.disk) got.Torn l) (sym c.clear-in-Some-Torn.ensures.items)
    (torn_item c.args.part c.args.from _ c.fetch.new.buf c.in_default.ensures.value is)

pub returns-in-None-clause-item : goal.returns-in-None-clause-item
returns-in-None-clause-item g c =
    subst (λ (l : List ℕ). ReadsRecord c.args.part c.args.from (g.B.ByteDisk.held c.args.self.now.slots.disk) got.Torn l) (sym c.clear-in-None.ensures.items)
    (none_item c.args.part c.args.from _ c.fetch.new.buf c.in_default.ensures.value (sym c.decode_head.ensures ∙ c.in-None.is))
