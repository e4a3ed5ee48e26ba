use Rattle.std.proofs.Common.{◌≤◌, take, vec_capacity}
use Rattle.generation_view.specs.Reads.{AreFetched}
use Rattle.generation_view.proofs.reads.fetch_all.Given as goal

abbrev pub invariant-loop-place : goal.invariant-loop-place
invariant-loop-place g l =
    (1048576 ≤ vec_capacity l.buffer) × AreFetched g.D.Drive (take l.place-index l.places) l.fn.drive l.drive l.fn.reading l.reading
