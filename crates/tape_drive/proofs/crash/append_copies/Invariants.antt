use Rattle.std.proofs.Common.{◌≡◌, ◌++◌, take}
use Rattle.tape_drive.proofs.crash.append_copies.Given as goal

abbrev pub invariant-loop-item : goal.invariant-loop-item
invariant-loop-item l = l.items.items ≡ l.fn.items.items ++ take l.item-index l.more
