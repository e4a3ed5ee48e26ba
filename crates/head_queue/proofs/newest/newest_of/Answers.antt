use Rattle.std.proofs.Common.{◌≢◌, ◌<◌, length, get_or, sym, arith}
use Rattle.head_queue.specs.declared.newest.Owned.{Owned}
use Rattle.head_queue.proofs.NewestLemmas.{partitioned, place, found, absent}
use Rattle.head_queue.proofs.newest.newest_of.Goals as goal
use Rattle.head_queue.proofs.newest.newest_of.Goals.{else-at-newest-via-then-at-newest+else-newest-at, else-at-newest-via-else-at-newest}

abbrev any : Owned
any = record { owner = 0; node = 0 }

pub returns-then-newest-at : goal.returns-then-newest-at
returns-then-newest-at c = sym (found c.args.newest.now c.args.owner c.place_of-at.result any (place c.args.newest.now c.args.owner c.place_of-at.result (c.place_of-at.ensures.parts (partitioned c.args.newest.now c.args.owner c.requires))) (omega arith) (omega arith))

pub returns : goal.returns
returns c =
    let ne : c.place_of-at.result < length c.args.newest.now → (get_or c.args.newest.now c.place_of-at.result any).owner ≢ c.args.owner = λ lt e. elim c.else-at-newest.branch [
      | else-at-newest-via-then-at-newest+else-newest-at w ↦ w.if-newest-at.false e
      | else-at-newest-via-else-at-newest w ↦ absurd (omega arith)
    ] in
    sym (absent c.args.newest.now c.args.owner c.place_of-at.result any c.requires (place c.args.newest.now c.args.owner c.place_of-at.result (c.place_of-at.ensures.parts (partitioned c.args.newest.now c.args.owner c.requires))) ne)
