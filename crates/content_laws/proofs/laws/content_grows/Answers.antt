use Rattle.content_laws.proofs.Grown.{blocks_appended, index_appended}
use Rattle.content_laws.proofs.laws.content_grows.Goals as goal

pub returns-clause-blocks : goal.returns-clause-blocks
returns-clause-blocks c = blocks_appended

pub returns-clause-index : goal.returns-clause-index
returns-clause-index c = index_appended
