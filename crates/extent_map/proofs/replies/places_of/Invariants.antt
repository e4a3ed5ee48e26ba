use Rattle.std.proofs.Common.{◌≡◌, take}
use Rattle.extent_map.specs.Replies.{places_in, AreMet}
use Rattle.extent_map.proofs.replies.places_of.Given as goal

abbrev pub invariant-loop-piece : goal.invariant-loop-piece
invariant-loop-piece l = (l.places ≡ places_in (take l.piece-index l.pieces)) × AreMet l.met l.places
