use Rattle.ltfs_label.proofs.Texts.{only_is}
use Rattle.ltfs_label.proofs.reading.read_label.Goals as goal

pub returns-clause-only : goal.returns-clause-only
returns-clause-only c = λ v t. only_is c.read.result c.args.text.now v c.read.ensures.found c.read.ensures.refused t
