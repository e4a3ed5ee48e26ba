use Rattle.std.proofs.Common.{◌≡◌, ℕ, List, ap, subst, sym}
use Rattle.turn_lock.specs.Passes.{PassView, first_pass}
use Rattle.promises.specs.declared.serving_promise.marks.Mark.{Mark}
use Rattle.tape_desk.specs.Dealing.{AreCounts}
use Rattle.tape_desk.specs.Held.{Constants, HeldView, constants}
use Rattle.tape_desk.proofs.Deals.{can_deal}
use Rattle.tape_desk.proofs.opening.open.Goals as goal

pub deal-passes-requires-clause-whole : goal.deal-passes-requires-clause-whole
deal-passes-requires-clause-whole g c =
    can_deal c.in-Ok-new-2.lock c.args.sessions c.as_slice.result.now c.in-Ok-new-2.whole c.args.shelf
    (subst (λ (h : HeldView g.row.D.Denot g.row.K.Denot). c.in-Ok-new-2.whole ≡ first_pass c.in-Ok-new-2.lock c.args.sessions h.volume.marks (constants h))
    c.in-Ok-new.ensures.ok c.in-Ok-new-2.ensures.pass) c.requires.fresh c.requires.sessions
    (subst (λ (counts : List ℕ). AreCounts c.args.shelf.volume.fixed.script c.args.sessions counts) (sym c.as_slice.ensures.value)
    c.in-Some.ensures)

pub returns-in-Ok-new-2-clause-ok : goal.returns-in-Ok-new-2-clause-ok
returns-in-Ok-new-2-clause-ok g c =
    c.deal-passes.ensures (constants c.args.shelf)
    (ap (λ (w : PassView Mark (Constants g.row.D.Denot g.row.K.Denot)). w.fixed) (subst (λ (h : HeldView g.row.D.Denot g.row.K.Denot). c.in-Ok-new-2.whole ≡ first_pass c.in-Ok-new-2.lock c.args.sessions h.volume.marks (constants h))
    c.in-Ok-new.ensures.ok c.in-Ok-new-2.ensures.pass))
