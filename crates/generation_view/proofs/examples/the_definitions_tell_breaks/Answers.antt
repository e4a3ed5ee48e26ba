use Rattle.generation_view.proofs.Trials.{crosses, mark, not_so_far, on_way, pointer_first, same, skips, text, volume}
use Rattle.generation_view.proofs.examples.the_definitions_tell_breaks.Goals as goal

pub returns-clause-text : goal.returns-clause-text
returns-clause-text c = text

pub returns-clause-volume : goal.returns-clause-volume
returns-clause-volume c = volume

pub returns-clause-skips : goal.returns-clause-skips
returns-clause-skips c = skips

pub returns-clause-mark : goal.returns-clause-mark
returns-clause-mark c = mark

pub returns-clause-pointer_first : goal.returns-clause-pointer_first
returns-clause-pointer_first c = pointer_first

pub returns-clause-same : goal.returns-clause-same
returns-clause-same c = same

pub returns-clause-extent : goal.returns-clause-extent
returns-clause-extent c = crosses

pub returns-clause-not_so_far : goal.returns-clause-not_so_far
returns-clause-not_so_far c = not_so_far

pub returns-clause-on_way : goal.returns-clause-on_way
returns-clause-on_way c = on_way
