use Rattle.std.proofs.Common.{List, [], ◌∷◌}
use Rattle.std.proofs.lemmas.Result.{on_ok_weaker}
use Rattle.tape_types.specs.declared.cartridges.Item.{Item}
use Rattle.tape_types.specs.declared.cartridges.Item.TheVariants.{Block, Mark}
use Rattle.format_volume.proofs.WriteLemmas.{located, then_written}
use Rattle.format_volume.proofs.writing.write_labels.Goals as goal

pub returns-in-Ok-put_marked-clause-done : goal.returns-in-Ok-put_marked-clause-done
returns-in-Ok-put_marked-clause-done g c =
    let front : List Item = Block c.args.volume.now ∷ Mark ∷ [] in
    let first = located g.D.Drive c.args.part 0 front c.args.drive.now c.locate.new.self c.put_marked.new.drive c.in-Ok.ensures.held
    (c.in-Ok-put_marked.ensures.done (record { part = c.args.part; pos = 0 }) c.in-Ok.ensures.head) in
    on_ok_weaker c.put_marked-in-Ok-put_marked.result
    (then_written g.D.Drive c.args.part 0 front (Block c.args.label.now ∷ Mark ∷ []) c.args.drive.now c.put_marked.new.drive
    c.put_marked-in-Ok-put_marked.new.drive first)
    (c.put_marked-in-Ok-put_marked.ensures.done (record { part = c.args.part; pos = 2 }) first.head)
