use Rattle.std.proofs.Common.{refl, ◌∙◌}
use Rattle.std.proofs.lemmas.List.{append-nil}
use Rattle.volume_core.proofs.draining.rest.Goals as goal

pub write-requires-clause-allowed : goal.write-requires-clause-allowed
write-requires-clause-allowed g c = c.requires.can.rests c.requires.none c.requires.room

pub returns : goal.returns
returns g c = record {
  none = c.requires.none;
  room = c.requires.room;
  kept = c.write.ensures.kept ∙ append-nil _;
  events = c.write.ensures.events;
  trail = c.head-at.ensures.trail;
  tape = record {
    drive = refl;
    stock = refl;
    queue = refl;
    reads = refl;
    answered = refl;
    on = refl;
    cached = refl;
    acks = c.write.ensures.acks ∙ append-nil _;
  };
  history = c.rest.ensures.history;
  replies = c.rest.ensures.replies;
  marks = c.rest.ensures.marks;
  calls = c.rest.ensures.calls;
  sessions = c.rest.ensures.sessions;
}
