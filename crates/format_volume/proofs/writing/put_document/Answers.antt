use Rattle.std.proofs.Common.{[], ◌∷◌}
use Rattle.std.proofs.lemmas.Result.{on_ok_weaker}
use Rattle.tape_types.specs.declared.cartridges.Item.TheVariants.{Mark}
use Rattle.format_volume.proofs.writing.put_document.Goals as goal

pub returns-in-Ok-clause-done : goal.returns-in-Ok-clause-done
returns-in-Ok-clause-done g c = λ at head.
    on_ok_weaker c.put_blocks.result (λ all. all at.part at.pos (Mark ∷ []) c.args.drive.now (c.in-Ok.ensures.done at head))
    c.put_blocks.ensures.done
