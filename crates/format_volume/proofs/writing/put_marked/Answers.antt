use Rattle.std.proofs.Common.{[], ◌∷◌, ◌+◌}
use Rattle.std.proofs.lemmas.Result.{on_ok_weaker}
use Rattle.tape_types.specs.declared.cartridges.Item.TheVariants.{Block, Mark}
use Rattle.format_volume.proofs.WriteLemmas.{then_written}
use Rattle.format_volume.proofs.writing.put_marked.Goals as goal

pub returns-in-Ok-clause-done : goal.returns-in-Ok-clause-done
returns-in-Ok-clause-done g c = λ at head.
    let first = c.in-Ok.ensures.done at head in
    on_ok_weaker c.put_mark.result
    (then_written g.D.Drive at.part at.pos (Block c.args.bytes.now ∷ []) (Mark ∷ []) c.args.drive.now c.put_block.new.drive c.put_mark.new.drive first)
    (c.put_mark.ensures.done (record { part = at.part; pos = at.pos + 1 }) first.head)
