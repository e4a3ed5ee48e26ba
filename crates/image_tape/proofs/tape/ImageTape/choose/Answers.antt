use Rattle.image_tape.proofs.Surely.{chosen_after, chosen_before, found_in, kept_chosen, kept_before, open_in, steady_in}
use Rattle.image_tape.proofs.Blaming.{not_one, told_nothing}
use Rattle.image_tape.proofs.tape.ImageTape.choose.Goals as goal

pub invariant_of-self : goal.invariant_of-self
invariant_of-self g c =
    kept_before g.B.ByteDisk _ c.args.value c.args.reads _ c.self.invariant (open_in g.B.ByteDisk _ _ _ _ c.self.view_is c.requires.open)
    (steady_in g.B.ByteDisk _ _ c.self.view_is c.requires.steady) (found_in g.B.ByteDisk _ _ _ c.self.view_is c.in-Some.ensures.found) c.if-found-self.true

pub returns-then-found-self-clause-looks : goal.returns-then-found-self-clause-looks
returns-then-found-self-clause-looks g c =
    chosen_before g.B.ByteDisk _ _ c.args.value c.args.reads _ c.self.view_is (open_in g.B.ByteDisk _ _ _ _ c.self.view_is c.requires.open)
    (found_in g.B.ByteDisk _ _ _ c.self.view_is c.in-Some.ensures.found) c.if-found-self.true

pub invariant_of-self-then-found-value : goal.invariant_of-self-then-found-value
invariant_of-self-then-found-value g c =
    kept_chosen g.B.ByteDisk _ c.args.value c.args.reads _ _ c.self.invariant (open_in g.B.ByteDisk _ _ _ _ c.self.view_is c.requires.open)
    (steady_in g.B.ByteDisk _ _ c.self.view_is c.requires.steady) (found_in g.B.ByteDisk _ _ _ c.self.view_is c.in-Some.ensures.found) c.if-found-self.false c.cut_to.ensures

pub returns-then-found-value-clause-looks : goal.returns-then-found-value-clause-looks
returns-then-found-value-clause-looks g c =
    chosen_after g.B.ByteDisk _ _ c.args.value c.args.reads _ _ c.self.view_is c.self.invariant (open_in g.B.ByteDisk _ _ _ _ c.self.view_is c.requires.open)
    (found_in g.B.ByteDisk _ _ _ c.self.view_is c.in-Some.ensures.found) c.if-found-self.false c.cut_to.ensures

pub returns-in_default-clause-blamed : goal.returns-in_default-clause-blamed
returns-in_default-clause-blamed g c = told_nothing g.B.ByteDisk _ c.args.self.now c.in_default.ensures.none

pub returns-clause-blamed : goal.returns-clause-blamed
returns-clause-blamed g c =
    told_nothing g.B.ByteDisk _ c.args.self.now
    (not_one g.B.ByteDisk _ _ c.args.value c.args.reads _ c.self.view_is c.self.invariant (open_in g.B.ByteDisk _ _ _ _ c.self.view_is c.requires.open)
    (found_in g.B.ByteDisk _ _ _ c.self.view_is c.in-Some.ensures.found) c.if-found-self.false c.if-found-value.false)
