use Rattle.std.proofs.Common.{◌≤◌, length}
use denote.Text.{Utf8}
use denote.Shadow.{shadow}
use Rattle.std.specs.Str.{chars}
use Rattle.tape_layout.specs.PlacementPolicy.Walks.{IsFollowed}
use Rattle.tape_layout.proofs.placement.patterns.follow.Given as goal

abbrev pub invariant-loop-p : goal.invariant-loop-p
invariant-loop-p l = shadow (Utf8 l.left) × shadow (Utf8 l.at) × IsFollowed (chars l.pattern) (chars l.text) (chars l.left) (chars l.at) × (length l.left ≤ length l.pattern)

abbrev pub decreases-loop-p : goal.decreases-loop-p
decreases-loop-p l = length l.left
