use Rattle.std.specs.Prelude.{None, Some}
use Rattle.std.proofs.Common.{◌∙◌, ap, take, refl, rules}
use Rattle.session_script.specs.declared.logs.Event.TheVariants.{Served, Worked}
use Rattle.volume_core.proofs.CostLemmas.{allowed_at, broke, meets, passed, served}
use Rattle.volume_core.proofs.costs.Walk.meet.Goals as goal

pub returns-in_default : goal.returns-in_default
returns-in_default c =
    meets c.args.events.now c.args.at _ c.args.self.now c.requires.there refl
    (passed (take c.args.at c.args.events.now) _ c.args.self.now c.requires.walked c.in_default.not-Served
    c.in_default.not-Worked)

pub returns-in-Served : goal.returns-in-Served
returns-in-Served c =
    meets c.args.events.now c.args.at (Served c.in-Served.ticket c.in-Served.place c.in-Served.fault) c.go.new.self
    c.requires.there c.in-Served.is
    (served (take c.args.at c.args.events.now) c.in-Served.ticket c.in-Served.place c.in-Served.fault c.args.self.now
    c.go.new.self c.is_none.result c.requires.walked c.go.ensures c.is_none.ensures)

pub returns-in-Some : goal.returns-in-Some
returns-in-Some c =
    meets c.args.events.now c.args.at (Worked c.in-Worked.place (Some c.in-Some.field-0)) c.go-in-Some.new.self
    c.requires.there (c.in-Worked.is ∙ ap (Worked c.in-Worked.place) c.in-Some.is)
    (broke (take c.args.at c.args.events.now) c.in-Worked.place c.in-Some.field-0 c.args.self.now c.go-in-Some.new.self
    c.requires.walked c.go-in-Some.ensures)

pub returns-in-None : goal.returns-in-None
returns-in-None c =
    meets c.args.events.now c.args.at (Worked c.in-Worked.place c.in-Worked.fault) c.take_op.new.self
    c.requires.there c.in-Worked.is (search rules)

pub take_op-requires-clause-allowed : goal.take_op-requires-clause-allowed
take_op-requires-clause-allowed c =
    allowed_at c.args.events.now c.args.at (Worked c.in-Worked.place None) c.requires.trail c.requires.there (search
    rules)
