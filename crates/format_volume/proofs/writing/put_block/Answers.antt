use Rattle.tape_types.specs.declared.cartridges.Item.TheVariants.{Block}
use Rattle.format_volume.proofs.WriteLemmas.{one_written}
use Rattle.format_volume.proofs.writing.put_block.Goals as goal

pub returns-in-Ok-clause-done : goal.returns-in-Ok-clause-done
returns-in-Ok-clause-done g c = λ at head.
    one_written g.D.Drive at (Block c.args.bytes.now) c.args.drive.now c.write.new.self
    (λ k held. c.in-Ok.ensures.told at k head held) (c.in-Ok.ensures.head at head)
