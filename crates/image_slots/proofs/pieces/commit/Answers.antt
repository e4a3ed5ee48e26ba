use Rattle.std.proofs.Common.{ℕ, List, arith}
use Rattle.image_slots.specs.Pieces.{Any, HasOne}
use Rattle.image_slots.proofs.Chains.{failed_piece, then_piece}
use Rattle.image_slots.proofs.pieces.commit.Goals as goal

pub returns-in-Ok-write_value : goal.returns-in-Ok-write_value
returns-in-Ok-write_value g c = λ old later ready.
    let new : List ℕ = c.args.value.now in
    let first = c.in-Ok.ensures.piece old new ready in
    let second = c.in-Ok-write_value.ensures.piece old first.ready in
    then_piece g.B.ByteDisk (HasOne old new) Any first
    (then_piece g.B.ByteDisk (HasOne old new) Any second (c.open_gate.ensures old new later second.ready))

pub returns-in-Err-write_value : goal.returns-in-Err-write_value
returns-in-Err-write_value g c = λ old later ready.
    let new : List ℕ = c.args.value.now in
    let first = c.in-Ok.ensures.piece old new ready in
    failed_piece g.B.ByteDisk (HasOne old new) Any 4 6 (omega arith)
    (then_piece g.B.ByteDisk (HasOne old new) Any first (c.in-Err-write_value.ensures.piece old first.ready))

pub returns-in-Err : goal.returns-in-Err
returns-in-Err g c = λ old later ready.
    failed_piece g.B.ByteDisk (HasOne old c.args.value.now) Any 2 6 (omega arith) (c.in-Err.ensures.piece old c.args.value.now ready)
