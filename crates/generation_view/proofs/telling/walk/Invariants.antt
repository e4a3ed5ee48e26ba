use Rattle.std.proofs.Common.{◌≡◌, List, length}
use Rattle.tape_types.specs.declared.cartridges.Cartridge.{Cartridge}
use Rattle.index_model.specs.declared.indexes.Index.{Index}
use Rattle.cartridge_meaning.specs.Pointers.{indexes_of}
use Rattle.generation_view.specs.Told.{told_of}
use Rattle.generation_view.proofs.Walks.{Going}
use Rattle.generation_view.proofs.telling.walk.Given as goal

abbrev pub invariant-loop-place : goal.invariant-loop-place
invariant-loop-place g l =
    Going g.D.Drive l.start l.fn.label l.end_ip l.fn.drive l.drive l.fn.places.items l.left.items l.after
    (λ (c : Cartridge) (done : List Index). l.told ≡ told_of (indexes_of c.dp) done)

abbrev pub decreases-loop-place : goal.decreases-loop-place
decreases-loop-place g l = length l.left.items
