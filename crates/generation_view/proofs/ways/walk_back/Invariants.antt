use Rattle.std.proofs.Common.{length}
use Rattle.tape_types.specs.declared.cartridges.Cartridge.{Cartridge}
use Rattle.generation_view.specs.Chain.{AreNewer}
use Rattle.generation_view.proofs.Walks.{Going}
use Rattle.generation_view.proofs.ways.walk_back.Given as goal

abbrev pub invariant-loop-place : goal.invariant-loop-place
invariant-loop-place g l =
    Going g.D.Drive l.start l.fn.label l.end_ip l.fn.drive l.drive l.fn.places.items l.left.items l.after (λ (c : Cartridge). AreNewer l.generation)

abbrev pub decreases-loop-place : goal.decreases-loop-place
decreases-loop-place g l = length l.left.items
