use Rattle.std.proofs.Common.{sym, subst}
use Rattle.image_format.specs.declared.values.SlotValue.{SlotValue}
use Rattle.image_tape.specs.Steps.{MayStand}
use Rattle.image_tape.specs.Tape.{Holds, cut_to}
use Rattle.image_tape.proofs.Wholes.{all_hold, all_stand, counted_all, kept_at}
use Rattle.image_tape.proofs.tape.ImageTape.count_all.Goals as goal

pub commit-end-requires-clause-holds : goal.commit-end-requires-clause-holds
commit-end-requires-clause-holds g c =
    subst (λ (s : SlotValue). Holds (cut_to s c.args.self.now.room) s) (sym c.requires.all) (all_hold g.B.ByteDisk c.args.self.now (kept_at g.B.ByteDisk _ _ c.self.view_is c.self.invariant))

pub commit-end-requires-clause-stands : goal.commit-end-requires-clause-stands
commit-end-requires-clause-stands g c =
    subst (λ (s : SlotValue). MayStand g.B.ByteDisk s s c.args.self.now) (sym c.requires.all)
    (all_stand g.B.ByteDisk c.args.self.now (kept_at g.B.ByteDisk _ _ c.self.view_is c.self.invariant) c.requires.settled c.requires.stored)

pub returns-clause-stored : goal.returns-clause-stored
returns-clause-stored g c =
    counted_all g.B.ByteDisk c.commit-end.result c.args.reads c.args.self.now c.commit-end.new.self (kept_at g.B.ByteDisk _ _ c.self.view_is c.self.invariant) c.requires.settled
    c.requires.all c.commit-end.ensures.commit c.commit-end.ensures.set (kept_at g.B.ByteDisk _ _ c.self-2.view_is c.self-2.invariant)
