use Rattle.cartridge_meaning.proofs.NotedEnds.{noted_ends, noted_only, noted_stands}
use Rattle.cartridge_meaning.proofs.laws.notes_tell_how_partitions_end.Goals as goal

pub returns-clause-stands : goal.returns-clause-stands
returns-clause-stands c = noted_stands

pub returns-clause-ends : goal.returns-clause-ends
returns-clause-ends c = noted_ends

pub returns-clause-only : goal.returns-clause-only
returns-clause-only c = noted_only
