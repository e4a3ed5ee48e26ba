use Rattle.std.proofs.Common.{◌≡◌, ◌≤◌, ◌<◌, take, length}
use Rattle.std.specs.Prelude.{reverse}
use Rattle.tape_drive.specs.Images.{moments, stood, earlier_or, next_put}
use Rattle.tape_drive.proofs.crash.Walk.back.Given as goal

-- what is still to be gone back over gives, from here, what the whole record gave from the start
abbrev pub invariant-loop-left : goal.invariant-loop-left
invariant-loop-left l = record {
  in_range : l.left ≤ length l.acts;
  count : l.self.count ≡ moments (reverse (take l.left l.acts));
  moment : l.moment < l.self.count;
  items : stood l.part l.self.items.items (reverse (take l.left l.acts)) l.moment ≡ stood l.part l.fn.self.items.items (reverse l.acts) l.moment;
  next : earlier_or (next_put l.part l.self.items.items (reverse (take l.left l.acts)) l.moment) l.self.next
      ≡ earlier_or (next_put l.part l.fn.self.items.items (reverse l.acts) l.moment) l.fn.self.next;
}

abbrev pub decreases-loop-left : goal.decreases-loop-left
decreases-loop-left l = l.left
