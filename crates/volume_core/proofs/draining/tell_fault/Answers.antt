use Rattle.std.proofs.Common.{◌∙◌}
use Rattle.volume_core.proofs.Faulted.{takes_fault}
use Rattle.volume_core.proofs.Given.{gives}
use Rattle.volume_core.proofs.draining.tell_fault.Goals as goal

pub returns : goal.returns
returns g c = (
  c.now-at.result,
  gives g.C.Clock.one g.C.Clock.next c.args.clock.now c.now-at.new.self c.now-at.result
      c.now-at.ensures.told c.now-at.ensures.single,
  takes_fault c.args.who c.count-nth.result c.now-at.result c.args.counts c.args.parts.now c.place_fault.new.parts
      c.take_kept-kept.new.self c.place_fault.ensures.others (c.count-nth.ensures ∙ c.requires.can.count)
      c.place_fault.ensures.places c.requires.kept c.take_kept-kept.ensures.kept c.take_kept-kept.ensures.events c.take_kept-kept.ensures.acks,
)
