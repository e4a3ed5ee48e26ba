use Rattle.std.proofs.Common.{ℕ, ◌+◌, ◌-◌, ◌≡◌, ◌<◌, Bool, true, false, List, ◌∷◌, take, length, get_or, sym, ◌∙◌, ap, subst, arith}
use Rattle.std.specs.Prelude.{reverse}
use Rattle.tape_drive.specs.declared.record.DoneCommand.{DoneCommand}
use Rattle.tape_drive.specs.Images.{moments, stood, earlier_or, next_put}
use Rattle.tape_drive.specs.Walks.{Steps}
use Rattle.tape_drive.proofs.Walking.{last_entry, reaches, goes_on}
use Rattle.tape_drive.proofs.crash.Walk.back.Goals as goal

pub returns-then-branch-clause-next : goal.returns-then-branch-clause-next
returns-then-branch-clause-next c =
    let acts : List DoneCommand = c.args.acts.now in
    let i : ℕ = c.loop-left.left - 1 in
    let e : DoneCommand = get_or acts i c.index-acts-left.result in
    let old = c.loop-left.self in
    let within : i < length acts = omega (arith, c.loop-left.invariant.in_range, c.loop-left-test.true) in
    let one : i + 1 ≡ c.loop-left.left = omega (arith, c.loop-left-test.true) in
    let newest : reverse (take c.loop-left.left acts) ≡ e ∷ reverse (take i acts) = subst (λ (n : ℕ). reverse (take n acts) ≡ e ∷ reverse (take i acts)) one (last_entry acts i c.index-acts-left.result within) in
    let count : old.count ≡ moments (e ∷ reverse (take i acts)) = c.loop-left.invariant.count ∙ ap moments newest in
    let steps : Steps true c.args.part c.args.moment e.act old c.step.new.self = subst (λ (b : Bool). Steps b c.args.part c.args.moment e.act old c.step.new.self) c.if-branch.true c.in_ok-step.ensures in
    let is = reaches c.args.part c.args.moment e (reverse (take i acts)) old c.step.new.self count c.loop-left.invariant.moment steps in
    sym is.next ∙ ap (λ (es : List DoneCommand). earlier_or (next_put c.args.part old.items.items es c.args.moment) old.next) (sym newest) ∙ c.loop-left.invariant.next

pub loop-left-preserved : goal.loop-left-preserved
loop-left-preserved c =
    let acts : List DoneCommand = c.args.acts.now in
    let i : ℕ = c.loop-left.left - 1 in
    let e : DoneCommand = get_or acts i c.index-acts-left.result in
    let old = c.loop-left.self in
    let within : i < length acts = omega (arith, c.loop-left.invariant.in_range, c.loop-left-test.true) in
    let one : i + 1 ≡ c.loop-left.left = omega (arith, c.loop-left-test.true) in
    let newest : reverse (take c.loop-left.left acts) ≡ e ∷ reverse (take i acts) = subst (λ (n : ℕ). reverse (take n acts) ≡ e ∷ reverse (take i acts)) one (last_entry acts i c.index-acts-left.result within) in
    let count : old.count ≡ moments (e ∷ reverse (take i acts)) = c.loop-left.invariant.count ∙ ap moments newest in
    let steps : Steps false c.args.part c.args.moment e.act old c.step.new.self = subst (λ (b : Bool). Steps b c.args.part c.args.moment e.act old c.step.new.self) c.if-branch.false c.in_ok-step.ensures in
    let is = goes_on c.args.part c.args.moment e (reverse (take i acts)) old c.step.new.self count c.loop-left.invariant.moment steps in
    record {
      in_range = omega arith;
      count = is.count;
      moment = is.moment;
      items = sym is.items ∙ ap (λ (es : List DoneCommand). stood c.args.part old.items.items es c.args.moment) (sym newest) ∙ c.loop-left.invariant.items;
      next = sym is.next ∙ ap (λ (es : List DoneCommand). earlier_or (next_put c.args.part old.items.items es c.args.moment) old.next) (sym newest) ∙ c.loop-left.invariant.next;
    }
