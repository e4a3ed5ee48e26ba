use Rattle.tape_desk.proofs.Prints.{begun_printed}
use Rattle.tape_desk.proofs.Shelved.{begun_keeps}
use Rattle.tape_desk.proofs.shelf.Shelf.new.Goals as goal

pub invariant_of-result : goal.invariant_of-result
invariant_of-result g c = (
  begun_keeps g.D.Drive c.args.volume c.logs_go_on.ensures c.requires.fresh c.keeps.ensures,
  begun_printed g.K.Sink c.args.volume c.args.printer c.requires.fresh c.requires.blank,
)
