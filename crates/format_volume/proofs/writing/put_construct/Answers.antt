use Rattle.std.proofs.Common.{List, [], ◌∷◌, ◌+◌, map, length}
use Rattle.std.proofs.lemmas.Result.{on_ok_weaker}
use Rattle.tape_layout.specs.IndexConstruct.Blocks.{blocks_of}
use Rattle.tape_types.specs.declared.cartridges.Item.{Item}
use Rattle.tape_types.specs.declared.cartridges.Item.TheVariants.{Block, Mark}
use Rattle.format_volume.proofs.WriteLemmas.{construct_room, then_written}
use Rattle.format_volume.proofs.writing.put_construct.Goals as goal

pub returns-in-Ok-clause-done : goal.returns-in-Ok-clause-done
returns-in-Ok-clause-done g c = λ at head.
    let before : List Item = Mark ∷ map Block (blocks_of c.args.block c.args.doc.now) in
    let first = c.in-Ok.ensures.done at head in
    on_ok_weaker c.put_mark.result
    (then_written g.D.Drive at.part at.pos before (Mark ∷ []) c.args.drive.now c.put_document.new.drive c.put_mark.new.drive first)
    (c.put_mark.ensures.done (record { part = at.part; pos = at.pos + length before }) first.head)

pub put_mark-requires : goal.put_mark-requires
put_mark-requires g c = record {
  all = c.requires.all;
  located = construct_room g.D.Drive c.args.block c.args.doc.now c.requires.some c.requires.located.0 c.args.drive.now
      c.put_document.new.drive c.requires.located.2 (c.in-Ok.ensures.done c.requires.located.0 c.requires.located.1)
      c.in-Ok.ensures.goes.limits;
}
