use Rattle.volume_state.specs.CallLaws.Handing.{at_once}
use Rattle.volume_core.proofs.Made.{hands_again, hands_first, steps_can, steps_waiting, turns_more, turns_ready}
use Rattle.volume_core.proofs.turning.turn.Goals as goal

pub hand_out-requires : goal.hand_out-requires
hand_out-requires g c = hands_first g.D.Drive c.args.parts.now c.requires.runs c.args.ticket c.requires.waits

pub step-requires-clause-can : goal.step-requires-clause-can
step-requires-clause-can g c =
    steps_can g.D.Drive c.args.parts.now c.requires.runs c.hand_out.new.self c.in_default.ensures.none

pub step-requires-clause-ready : goal.step-requires-clause-ready
step-requires-clause-ready g c =
    steps_waiting g.D.Drive c.args.parts.now c.requires.runs c.hand_out.new.self c.in_default.ensures.none c.args.ticket
    c.in_default.ensures.waits

pub hand_out-requires-2 : goal.hand_out-requires-2
hand_out-requires-2 g c =
    hands_again g.D.Drive c.args.parts.now c.requires.runs c.hand_out.new.self c.in_default.ensures.none c.step.new.self
    c.step.ensures c.args.ticket c.requires.waits

pub returns-in-Some-clause-turns : goal.returns-in-Some-clause-turns
returns-in-Some-clause-turns g c who waiting = at_once c.in-Some.reply (c.in-Some.ensures.some who waiting)

pub returns-in-Some-hand_out-clause-turns : goal.returns-in-Some-hand_out-clause-turns
returns-in-Some-hand_out-clause-turns g c =
    turns_ready g.D.Drive c.args.parts.now c.requires.runs c.hand_out.new.self c.in_default.ensures.none c.step.new.self
    c.step.ensures c.args.ticket c.in-Some-hand_out.reply c.hand_out-2.new.self
    c.in_default.ensures.waits c.in-Some-hand_out.ensures.some

pub returns-in-None-clause-turns : goal.returns-in-None-clause-turns
returns-in-None-clause-turns g c who waiting =
    turns_more g.D.Drive c.args.parts.now c.requires.runs c.hand_out.new.self c.in_default.ensures.none c.step.new.self
    c.step.ensures c.args.ticket c.hand_out-2.new.self c.in-None.ensures.none c.in-None.ensures.waits who
