use Rattle.std.proofs.Common.{◌≡◌, ◌++◌, take, drop}
use Rattle.extent_map.specs.Replies.{size_of}
use Rattle.waiting_reads.specs.Stands.{stands_from}
use Rattle.waiting_reads.proofs.stands.stands_of.Given as goal

abbrev pub invariant-loop-number : goal.invariant-loop-number
invariant-loop-number l =
    (l.at ≡ size_of (take l.number l.pieces))
    × (stands_from 0 0 l.pieces ≡ l.stands.items ++ stands_from l.number l.at (drop l.number l.pieces))
