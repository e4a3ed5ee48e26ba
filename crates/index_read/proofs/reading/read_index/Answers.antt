use Rattle.index_read.proofs.Answered.{found_is, only_is, refused_is}
use Rattle.index_read.proofs.reading.read_index.Goals as goal

pub returns-clause-found : goal.returns-clause-found
returns-clause-found c = found_is c.read.result c.args.text.now c.read.ensures.found c.read.ensures.agrees

pub returns-clause-only : goal.returns-clause-only
returns-clause-only c = λ index i. only_is c.read.result c.args.text.now index (found_is c.read.result c.args.text.now c.read.ensures.found c.read.ensures.agrees) (refused_is c.read.result c.args.text.now c.read.ensures.refused) i

pub returns-clause-refused : goal.returns-clause-refused
returns-clause-refused c = refused_is c.read.result c.args.text.now c.read.ensures.refused
