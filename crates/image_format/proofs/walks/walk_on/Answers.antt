use Rattle.std.proofs.Common.{ℕ, ◌+◌, ◌≤◌, List, Option, sym, ◌∙◌, subst, refl, arith}
use Rattle.std.specs.Prelude.{IfSome}
use Rattle.image_slots.specs.State.{file_of}
use Rattle.image_format.proofs.Stepping.{Going, all_looks, at_end, at_fault, end_looks, goes_on, start_going, still}
use Rattle.image_format.proofs.walks.walk_on.Goals as goal

pub loop-number-init : goal.loop-number-init
loop-number-init g c = (
  c.requires.room,
  refl,
  c.requires.len,
  subst (λ (l : List ℕ). Going g.B.ByteDisk c.args.slots.now c.args.slots.now (file_of c.args.part) c.args.count c.args.end 0 0 c.args.window.now l) (sym c.requires.none)
      (start_going g.B.ByteDisk c.args.slots.now (file_of c.args.part) c.args.count c.args.end c.args.window.now c.requires.piece c.requires.from c.requires.commands c.requires.shows),
)

pub width_at-requires-clause-within : goal.width_at-requires-clause-within
width_at-requires-clause-within g c =
    still g.B.ByteDisk c.args.slots.now c.loop-number.slots (file_of c.args.part) c.args.count c.args.end c.loop-number.number c.loop-number.at c.loop-number.window c.loop-number.offsets.items
    c.loop-number.invariant.3 c.requires.within

pub width_at-requires-clause-shows : goal.width_at-requires-clause-shows
width_at-requires-clause-shows g c =
    still g.B.ByteDisk c.args.slots.now c.loop-number.slots (file_of c.args.part) c.args.count c.args.end c.loop-number.number c.loop-number.at c.loop-number.window c.loop-number.offsets.items
    c.loop-number.invariant.3 c.loop-number.invariant.3.shows

pub width_at-requires-clause-commands : goal.width_at-requires-clause-commands
width_at-requires-clause-commands g c = omega (arith, c.loop-number.invariant.3.looks.reads.bound)

pub loop-number-preserved : goal.loop-number-preserved
loop-number-preserved g c = (
  omega (arith, c.loop-number.invariant.0, c.push_reserved.ensures.capacity),
  c.push_reserved.ensures.capacity ∙ c.loop-number.invariant.1,
  omega (arith, c.loop-number.invariant.2, c.push_reserved.ensures.len),
  subst (λ (l : List ℕ). Going g.B.ByteDisk c.args.slots.now c.width_at.new.slots (file_of c.args.part) c.args.count c.args.end (c.loop-number.number + 1) (c.loop-number.at + c.in-Some.width) c.width_at.new.window l)
      (sym c.push_reserved.ensures.items)
      (goes_on g.B.ByteDisk c.args.slots.now c.loop-number.slots (file_of c.args.part) c.args.count c.args.end c.loop-number.number c.loop-number.at c.loop-number.window c.loop-number.offsets.items
      c.loop-number.invariant.3 c.width_at.new.slots c.width_at.new.window c.in-Some.width c.loop-number-test.true c.width_at.ensures.piece c.width_at.ensures.low c.width_at.ensures.further
      (subst (λ (o : Option ℕ). IfSome o (λ n. c.loop-number.at + n ≤ c.args.end)) c.in-Some.is c.in-Ok.ensures.within)
      c.in-Ok.ensures.shows (λ d held. sym c.in-Some.is ∙ c.in-Ok.ensures.told d held) c.width_at.ensures.looks),
)

pub returns-in-Err-clause-looks : goal.returns-in-Err-clause-looks
returns-in-Err-clause-looks g c =
    all_looks g.B.ByteDisk c.args.slots.now c.loop-number.slots (file_of c.args.part) c.args.count c.args.end c.loop-number.number c.loop-number.at c.loop-number.window c.loop-number.offsets.items
    c.loop-number.invariant.3 c.width_at.new.slots c.width_at.new.window c.loop-number-test.true c.width_at.ensures.piece c.width_at.ensures.further c.width_at.ensures.looks

pub returns-in-Err-clause-cause : goal.returns-in-Err-clause-cause
returns-in-Err-clause-cause g c = omega (arith, c.loop-number.invariant.3.looks.faults, c.in-Err.ensures.cause)

pub returns-in_default-clause-told : goal.returns-in_default-clause-told
returns-in_default-clause-told g c =
    at_fault g.B.ByteDisk c.args.slots.now c.loop-number.slots (file_of c.args.part) c.args.count c.args.end c.loop-number.number c.loop-number.at c.loop-number.window c.loop-number.offsets.items
    c.loop-number.invariant.3 c.loop-number-test.true (λ d held. sym c.in_default.is ∙ c.in-Ok.ensures.told d held)

pub returns-in_default-clause-looks : goal.returns-in_default-clause-looks
returns-in_default-clause-looks g c =
    all_looks g.B.ByteDisk c.args.slots.now c.loop-number.slots (file_of c.args.part) c.args.count c.args.end c.loop-number.number c.loop-number.at c.loop-number.window c.loop-number.offsets.items
    c.loop-number.invariant.3 c.width_at.new.slots c.width_at.new.window c.loop-number-test.true c.width_at.ensures.piece c.width_at.ensures.further c.width_at.ensures.looks

pub returns-clause-told : goal.returns-clause-told
returns-clause-told g c =
    at_end g.B.ByteDisk c.args.slots.now c.loop-number.slots (file_of c.args.part) c.args.count c.args.end c.loop-number.number c.loop-number.at c.loop-number.window c.loop-number.offsets.items
    c.loop-number.invariant.3 (omega arith)

pub returns-clause-looks : goal.returns-clause-looks
returns-clause-looks g c =
    end_looks g.B.ByteDisk c.args.slots.now c.loop-number.slots (file_of c.args.part) c.args.count c.args.end c.loop-number.number c.loop-number.at c.loop-number.window c.loop-number.offsets.items
    c.loop-number.invariant.3 (omega arith)
