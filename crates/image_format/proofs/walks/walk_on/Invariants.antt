use Rattle.std.proofs.Common.{◌≡◌, ◌≤◌, vec_capacity}
use Rattle.std.specs.Prelude.{vec_len}
use Rattle.image_slots.specs.State.{file_of}
use Rattle.image_format.proofs.Stepping.{Going}
use Rattle.image_format.proofs.walks.walk_on.Given as goal

abbrev pub invariant-loop-number : goal.invariant-loop-number
invariant-loop-number g l =
    (l.count ≤ vec_capacity l.offsets) × (vec_capacity l.offsets ≡ vec_capacity l.fn.offsets) × (vec_len l.offsets ≡ l.number)
    × Going g.B.ByteDisk l.fn.slots l.slots (file_of l.part) l.count l.end l.number l.at l.window l.offsets.items
