use Rattle.std.proofs.Common.{Bool, Ok, subst, arith}
use Rattle.image_slots.specs.Calls.{AreMeasured}
use Rattle.image_slots.proofs.Opened.{blank_ready, opens_made, opens_not, opens_short}
use Rattle.image_slots.proofs.finding.make_if_blank.Goals as goal

pub make-requires : goal.make-requires
make-requires g c =
    let empty = subst (λ (t : Bool). AreMeasured g.B.ByteDisk (Ok t) c.args.disk.now c.are_empty.new.disk) c.in-Ok-true.field-0-test c.in-Ok-true.ensures in
    blank_ready g.B.ByteDisk c.args.disk.now c.are_empty.new.disk c.requires.size c.requires.sure empty

pub returns-in-Ok : goal.returns-in-Ok
returns-in-Ok g c =
    let empty = subst (λ (t : Bool). AreMeasured g.B.ByteDisk (Ok t) c.args.disk.now c.are_empty.new.disk) c.in-Ok-true.field-0-test c.in-Ok-true.ensures in
    opens_made g.B.ByteDisk _ _ c.args.disk.now c.are_empty.new.disk c.make.new.disk c.requires.size c.requires.sure empty
    c.in-Ok.ensures (c.first_found.ensures.side, c.first_found.ensures.value, c.first_found.ensures.beside)

pub returns-in-Err-make : goal.returns-in-Err-make
returns-in-Err-make g c =
    let empty = subst (λ (t : Bool). AreMeasured g.B.ByteDisk (Ok t) c.args.disk.now c.are_empty.new.disk) c.in-Ok-true.field-0-test c.in-Ok-true.ensures in
    opens_made g.B.ByteDisk _ _ c.args.disk.now c.are_empty.new.disk c.make.new.disk c.requires.size c.requires.sure empty
    c.in-Err-make.ensures tt

pub returns-in-Ok-false : goal.returns-in-Ok-false
returns-in-Ok-false g c =
    let some = subst (λ (t : Bool). AreMeasured g.B.ByteDisk (Ok t) c.args.disk.now c.are_empty.new.disk) c.in-Ok-false.field-0-test c.in-Ok-false.ensures in
    opens_short g.B.ByteDisk c.args.disk.now c.are_empty.new.disk c.requires.size some

pub returns-in-Err : goal.returns-in-Err
returns-in-Err g c = opens_not g.B.ByteDisk 4 12 _ c.args.disk.now c.are_empty.new.disk (omega arith) c.in-Err.ensures.held c.in-Err.ensures.count c.in-Err.ensures.cause c.in-Err.ensures.crash
