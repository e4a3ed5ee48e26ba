use Rattle.std.proofs.Common.{arith, ℕ, ◌≡◌, ◌+◌, ◌++◌, ◌∷◌, [], Some, ap, append_assoc, append-nil, length, refl, subst, sym, ◌∙◌}
use Rattle.std.proofs.lemmas.List.{length_push}
use Rattle.tape_desk.specs.Held.{HeldView, constants}
use Rattle.tape_desk.specs.Gathering.{HasGathered}
use Rattle.tape_desk.proofs.Gathers.{are_parts, first_gathered, lock_is, next_gathered, nothing_waits, still_all}
use Rattle.tape_desk.proofs.closing.gather.Goals as goal

pub loop-next-init : goal.loop-next-init
loop-next-init g c =
    let all = sym c.in-Some.ensures.items in (
      (c.in-Some.last ∷ [], all),
      first_gathered c.args.passes.items c.pop.new.self.items [] c.in-Some.last
          (append-nil (c.pop.new.self.items ++ c.in-Some.last ∷ []) ∙ all) c.args.lock c.requires.passes
          c.into_pass-whole.result refl c.into_pass-whole.ensures,
    )

pub take_in-requires-clause-of : goal.take_in-requires-clause-of
take_in-requires-clause-of g c =
    let tail = c.loop-next.invariant.0.0 in
    let rest = c.pop-in-loop-next.new.self.items in
    let next = c.in-Some-pop.next in (
      c.loop-next.invariant.1.lock_is,
      lock_is c.args.passes.items rest tail next
          (still_all c.args.passes.items c.loop-next.passes.items rest tail next c.in-Some-pop.ensures.items
          c.loop-next.invariant.0.1)
          c.args.lock c.requires.passes,
    )

pub loop-next-preserved : goal.loop-next-preserved
loop-next-preserved g c =
    let rest = c.pop-in-loop-next.new.self.items in
    let tail = c.loop-next.invariant.0.0 in
    let next = c.in-Some-pop.next in
    let all =
    still_all c.args.passes.items c.loop-next.passes.items rest tail next c.in-Some-pop.ensures.items
    c.loop-next.invariant.0.1 in
    let long : length c.loop-next.passes.items ≡ length rest + 1 =
    ap length c.in-Some-pop.ensures.items ∙ length_push rest next in (
      (next ∷ tail, sym (append_assoc rest (next ∷ []) tail) ∙ all),
      next_gathered c.args.passes.items rest tail next all c.args.lock c.requires.passes
          (length c.loop-next.passes.items) c.loop-next.whole c.take_in.new.whole long c.loop-next.invariant.1
          c.take_in.ensures,
    )

pub returns-clause-parts : goal.returns-clause-parts
returns-clause-parts g c =
    let none : length c.loop-next.passes.items ≡ 0 = omega (arith, c.in_default-pop.ensures.cases.0) in
    are_parts g.D.Drive c.args.lock c.args.passes.items c.loop-next.whole (record { volume = c.shelf.inside.volume; printer = c.shelf.inside.printer }) c.requires.passes
    (subst (λ (n : ℕ). HasGathered c.args.lock c.args.passes.items n c.loop-next.whole) none c.loop-next.invariant.1)
    c.shelf.invariant.0
    (ap (λ (h : HeldView g.row.D.Denot g.row.K.Denot). h.volume.marks) (c.shelf.view_is ∙ c.into_inner-shelf.ensures) ∙ c.close-boxed.ensures.history)
    (c.close-boxed.ensures.fixed ∙ sym (ap (λ (h : HeldView g.row.D.Denot g.row.K.Denot). Some (constants h)) (c.shelf.view_is ∙ c.into_inner-shelf.ensures)))

pub returns-clause-nothing : goal.returns-clause-nothing
returns-clause-nothing g c =
    let none : length c.loop-next.passes.items ≡ 0 = omega (arith, c.in_default-pop.ensures.cases.0) in
    nothing_waits g.D.Drive c.args.lock c.args.passes.items c.loop-next.whole (record { volume = c.shelf.inside.volume; printer = c.shelf.inside.printer }) c.requires.passes
    (subst (λ (n : ℕ). HasGathered c.args.lock c.args.passes.items n c.loop-next.whole) none c.loop-next.invariant.1)
    c.shelf.invariant.0
    (ap (λ (h : HeldView g.row.D.Denot g.row.K.Denot). h.volume.marks) (c.shelf.view_is ∙ c.into_inner-shelf.ensures) ∙ c.close-boxed.ensures.history)
    (c.close-boxed.ensures.fixed ∙ sym (ap (λ (h : HeldView g.row.D.Denot g.row.K.Denot). Some (constants h)) (c.shelf.view_is ∙ c.into_inner-shelf.ensures)))
