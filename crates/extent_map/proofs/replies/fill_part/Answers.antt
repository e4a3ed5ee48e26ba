use Rattle.std.proofs.Common.{◌≤◌, ap, ◌∙◌, Some, sym, arith, rules, length}
use Rattle.extent_map.proofs.TakenBytes.{part_lost, part_there}
use Rattle.extent_map.proofs.ReplyLemmas.{some_part}
use Rattle.extent_map.proofs.replies.fill_part.Goals as goal

pub returns-then-to-block-clause-lost : goal.returns-then-to-block-clause-lost
returns-then-to-block-clause-lost c _ =
    let some : 1 ≤ length c.args.part.now = some_part c.args.part.now (search rules) in
    part_lost c.args.block.now c.args.byte (length c.args.part.now) some c.if-to-block.true

pub returns-clause-whole : goal.returns-clause-whole
returns-clause-whole c _ =
    part_there c.args.block.now c.args.byte (length c.args.part.now) _ (omega (arith, c.if-to-block.false)) (omega arith) ∙ ap Some (sym c.copy_from_slice.ensures.after)
