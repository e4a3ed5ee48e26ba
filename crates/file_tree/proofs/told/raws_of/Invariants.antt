use Rattle.std.proofs.Common.{◌≡◌, ◌++◌, map, drop}
use Rattle.file_tree.specs.Told.{raw_of}
use Rattle.file_tree.proofs.told.raws_of.Given as goal

abbrev pub invariant-loop-extent : goal.invariant-loop-extent
invariant-loop-extent l = l.raws ++ map (raw_of l.letters) (drop l.extent-index l.extents) ≡ map (raw_of l.letters) l.extents
