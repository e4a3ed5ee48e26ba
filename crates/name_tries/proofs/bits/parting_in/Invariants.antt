use Rattle.std.proofs.Common.{◌≡◌, ℕ, ◌<◌}
use Rattle.name_tries.specs.Bits.{bit_of}
use Rattle.name_tries.proofs.bits.parting_in.Given as goal

abbrev pub invariant-loop-within : goal.invariant-loop-within
invariant-loop-within l = (w : ℕ) → w < l.within → bit_of l.one l.byte w ≡ bit_of l.other l.byte w
