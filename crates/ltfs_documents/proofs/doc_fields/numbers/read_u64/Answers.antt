use Rattle.std.proofs.Common.{slice_index, ◌<◌, ◌-◌, arith}
use Rattle.ltfs_documents.proofs.DocFields.NumberLemmas.{nineteen}
use Rattle.ltfs_documents.proofs.doc_fields.numbers.read_u64.Goals as goal

pub overflow_mul-number : goal.overflow_mul-number
overflow_mul-number c =
    let p = nineteen (c.loop-i.i - c.args.at) c.loop-i.number c.loop-i.invariant.small (omega arith) in
    omega arith

pub overflow_add-number : goal.overflow_add-number
overflow_add-number c =
    let p = nineteen (c.loop-i.i - c.args.at) c.loop-i.number c.loop-i.invariant.small (omega arith) in
    let d : slice_index c.args.text.now c.loop-i.i < 256 = omega (arith, c.type_inv.text c.loop-i.i) in
    omega arith
