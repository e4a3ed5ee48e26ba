-- Blocks, events and a cartridge by hand, on which the definitions of the blocks that are kept are tried.
use Rattle.std.specs.Prelude.{List, [], ◌∷◌, ◌++◌, map, Some, None, codes}
use Rattle.std.specs.List.{range_with_len}
use Rattle.tape_types.specs.declared.cartridges.Cartridge.{Cartridge}
use Rattle.tape_types.specs.declared.cartridges.Item.TheVariants.{Block, Mark, Torn}
use Rattle.tape_types.specs.declared.cartridges.Note.TheVariants.{Absent}
use Rattle.session_script.specs.declared.logs.Event.{Event}
use Rattle.session_script.specs.declared.logs.Event.TheVariants.{Served, Worked}
use Rattle.head_queue.specs.EventLaws.Rows.{dp, queues, twin}

-- a data partition with `hello` at 7, a mark behind it, and a Torn
abbrev pub with_hello : Cartridge
with_hello = record {
  ip = [];
  dp = map (λ k. Block (k ∷ [])) (range_with_len 0 7) ++ Block (codes "hello") ∷ Mark ∷ Torn ∷ [];
  vcr = 3;
  note_ip = Absent;
  note_dp = Absent;
}

-- the block at 7 was read for the third call, or its step failed
abbrev pub reads_7 : Event
reads_7 = Served 3 (dp 7) None

abbrev pub fails_7 : Event
fails_7 = Served 3 (dp 7) (Some (twin 0 1))

-- an op has put the block at 7
abbrev pub puts_7 : Event
puts_7 = Worked (dp 7) None

-- the ops of a file stand at 7 and 8
abbrev pub two_stand : List Event
two_stand = queues 7 2
