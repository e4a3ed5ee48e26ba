use Rattle.plain_tree.specs.declared.calls.Fate.TheVariants as fates
use Rattle.session_script.specs.declared.logs.Reply.TheVariants.{Fault}
use Rattle.volume_core.specs.VolumeSteps.Seen.{seen_parts}
use Rattle.volume_core.proofs.Faulted.{none_yet, places_void, there_now, waits_here}
use Rattle.volume_core.proofs.draining.place_fault.Goals as goal

pub answer-requires : goal.answer-requires
answer-requires g c =
    none_yet (record { who = c.args.who; nth = c.args.nth; at = c.args.at; fate = fates.Void }) c.len-here.result
    c.args.parts.now.placements c.place.new.self c.len-here.ensures.len
    (record {
      each = c.len-here.ensures.each;
      history = c.place.ensures.history;
      replies = c.place.ensures.replies;
      marks = c.place.ensures.marks;
      calls = c.place.ensures.calls;
      sessions = c.place.ensures.sessions;
    })

pub hand-requires-clause-waits : goal.hand-requires-clause-waits
hand-requires-clause-waits g c =
    waits_here (record { who = c.args.who; nth = c.args.nth; at = c.args.at; fate = fates.Void }) c.len-here.result
    c.args.parts.now.placements c.place.new.self c.len-here.ensures.len
    (record {
      each = c.len-here.ensures.each;
      history = c.place.ensures.history;
      replies = c.place.ensures.replies;
      marks = c.place.ensures.marks;
      calls = c.place.ensures.calls;
      sessions = c.place.ensures.sessions;
    })
    (Fault c.args.counts) c.answer.new.self
    (record {
      history = c.answer.ensures.history;
      replies = c.answer.ensures.replies;
      marks = c.answer.ensures.marks;
      calls = c.answer.ensures.calls;
      sessions = c.answer.ensures.sessions;
    })
    c.requires.drains

pub hand-requires-clause-there : goal.hand-requires-clause-there
hand-requires-clause-there g c = (
  Fault c.args.counts,
  there_now (record { who = c.args.who; nth = c.args.nth; at = c.args.at; fate = fates.Void }) c.len-here.result
      c.args.parts.now.placements c.place.new.self c.len-here.ensures.len
      (record {
        each = c.len-here.ensures.each;
        history = c.place.ensures.history;
        replies = c.place.ensures.replies;
        marks = c.place.ensures.marks;
        calls = c.place.ensures.calls;
        sessions = c.place.ensures.sessions;
      })
      (Fault c.args.counts) c.answer.new.self
      (record {
        history = c.answer.ensures.history;
        replies = c.answer.ensures.replies;
        marks = c.answer.ensures.marks;
        calls = c.answer.ensures.calls;
        sessions = c.answer.ensures.sessions;
      }),
)

pub returns-clause-places : goal.returns-clause-places
returns-clause-places g c =
    places_void c.args.who c.args.nth c.len-here.result c.args.at (Fault c.args.counts) c.place.new.self
    c.answer.new.self (seen_parts c.args.parts.now) (seen_parts (record c.args.parts.now { placements = c.hand.new.self }))
    c.len-here.ensures.len
    (record {
      each = c.len-here.ensures.each;
      history = c.place.ensures.history;
      replies = c.place.ensures.replies;
      marks = c.place.ensures.marks;
      calls = c.place.ensures.calls;
      sessions = c.place.ensures.sessions;
    })
    (record {
      history = c.answer.ensures.history;
      replies = c.answer.ensures.replies;
      marks = c.answer.ensures.marks;
      calls = c.answer.ensures.calls;
      sessions = c.answer.ensures.sessions;
    })
    (record {
      history = c.hand.ensures.history;
      replies = c.hand.ensures.replies;
      marks = c.hand.ensures.marks;
      calls = c.hand.ensures.calls;
      sessions = c.hand.ensures.sessions;
    })
