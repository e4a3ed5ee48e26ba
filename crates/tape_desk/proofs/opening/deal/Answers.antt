use Rattle.std.proofs.Common.{arith, ◌-◌, ℕ, slice_index_or, subst, sym}
use Rattle.tape_desk.specs.Dealing.{CanBegin}
use Rattle.tape_desk.proofs.Deals.{all_dealt, first_dealt, last_begins, many_left, next_begins, next_dealt}
use Rattle.tape_desk.proofs.opening.deal.Goals as goal

pub loop-who-init : goal.loop-who-init
loop-who-init g c = (
  first_dealt c.args.lock.now c.args.sessions c.args.counts.now c.args.whole c.args.passes.items c.requires.some
      c.requires.room.0 c.requires.whole,
  c.requires.room.1,
)

pub split-pass-requires-clause-two : goal.split-pass-requires-clause-two
split-pass-requires-clause-two g c =
    many_left c.args.lock.now c.args.sessions c.args.counts.now c.args.whole c.loop-who.who c.loop-who.whole
    c.loop-who.passes.items c.loop-who.invariant.0 c.loop-who-test.true

pub begin-requires : goal.begin-requires
begin-requires g c =
    let s = c.split-pass.ensures in
    subst (λ (k : ℕ). CanBegin c.loop-who.who (slice_index_or c.args.counts.now (k - 1) 0) c.split-pass.result)
    (sym c.from.ensures)
    (next_begins c.args.lock.now c.args.sessions c.args.counts.now c.args.whole c.loop-who.who c.loop-who.whole
    c.loop-who.passes.items c.loop-who.invariant.0 s.numbers.0 c.split-pass.new.pass c.split-pass.result
    s.numbers.1 s.numbers.2 s.same)

pub loop-who-preserved : goal.loop-who-preserved
loop-who-preserved g c =
    let s = c.split-pass.ensures in
    let more = c.put_first.ensures.capacity in
    let room = c.loop-who.invariant.1 in (
      next_dealt c.args.lock.now c.args.sessions c.args.counts.now c.args.whole c.loop-who.who c.loop-who.whole
          c.loop-who.passes.items c.loop-who.invariant.0 s.numbers.0 c.split-pass.new.pass c.split-pass.result
          s.numbers.1 s.numbers.2 s.same c.loop-who-test.true c.put_first.new.items.items c.begin.result
          c.put_first.ensures.items c.begin.ensures,
      omega (arith, room, more),
    )

pub begin-requires-2 : goal.begin-requires-2
begin-requires-2 g c =
    last_begins c.args.lock.now c.args.sessions c.args.counts.now c.args.whole c.loop-who.who c.loop-who.whole
    c.loop-who.passes.items c.loop-who.invariant.0 (let end = c.loop-who-test.false in omega (arith, end))

pub returns : goal.returns
returns g c =
    all_dealt c.args.lock.now c.args.sessions c.args.counts.now c.args.whole c.loop-who.who c.loop-who.whole
    c.loop-who.passes.items c.loop-who.invariant.0 (let end = c.loop-who-test.false in omega (arith, end))
    c.put_first-2.new.items.items c.begin-2.result c.put_first-2.ensures.items c.begin-2.ensures
