use Rattle.tape_types.specs.declared.cartridges.Item.TheVariants.{Mark}
use Rattle.format_volume.proofs.WriteLemmas.{one_written}
use Rattle.format_volume.proofs.writing.put_mark.Goals as goal

pub returns-in-Ok-clause-done : goal.returns-in-Ok-clause-done
returns-in-Ok-clause-done g c = λ at head.
    one_written g.D.Drive at Mark c.args.drive.now c.mark.new.self
    (λ k held. c.in-Ok.ensures.told at k head held) (c.in-Ok.ensures.head at head)
