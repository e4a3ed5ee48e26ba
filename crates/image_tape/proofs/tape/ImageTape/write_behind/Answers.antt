use Rattle.image_tape.proofs.Behind.{follows_at, hides_behind, kept_behind}
use Rattle.image_tape.proofs.tape.ImageTape.write_behind.Goals as goal

pub invariant_of-self : goal.invariant_of-self
invariant_of-self g c =
    kept_behind g.B.ByteDisk c.write.result c.args.part c.args.at c.args.bytes.now _ _ c.write.new.self c.self.view_is c.self.invariant c.requires.settled c.requires.place
    c.requires.within c.write.ensures.told c.write.ensures.untold c.write.ensures.command

pub invariant_of-self-2 : goal.invariant_of-self-2
invariant_of-self-2 g c =
    kept_behind g.B.ByteDisk c.write.result c.args.part c.args.at c.args.bytes.now _ _ c.write.new.self c.self.view_is c.self.invariant c.requires.settled c.requires.place
    c.requires.within c.write.ensures.told c.write.ensures.untold c.write.ensures.command

pub returns-in-Err-clause-hides : goal.returns-in-Err-clause-hides
returns-in-Err-clause-hides g c =
    hides_behind g.B.ByteDisk c.write.result c.args.part c.args.at c.args.bytes.now _ _ c.write.new.self c.self.view_is c.self.invariant c.requires.settled c.requires.place
    c.requires.within c.write.ensures.told c.write.ensures.untold c.write.ensures.command

pub returns-clause-hides : goal.returns-clause-hides
returns-clause-hides g c =
    hides_behind g.B.ByteDisk c.write.result c.args.part c.args.at c.args.bytes.now _ _ c.write.new.self c.self.view_is c.self.invariant c.requires.settled c.requires.place
    c.requires.within c.write.ensures.told c.write.ensures.untold c.write.ensures.command

pub returns-clause-told : goal.returns-clause-told
returns-clause-told g c = λ d held.
    follows_at g.B.ByteDisk c.write.result c.args.part c.args.at c.args.bytes.now _ _ c.write.new.self c.self.view_is c.self.invariant c.requires.settled c.requires.place
    c.requires.within c.write.ensures.told c.write.ensures.untold c.write.ensures.command _ c.in_default.is d held
