use Rattle.content_laws.proofs.Stands.{ends_whole, index_stands, one_index}
use Rattle.content_laws.proofs.laws.partitions_end_with_their_last_index.Goals as goal

pub returns-clause-stands : goal.returns-clause-stands
returns-clause-stands c = index_stands

pub returns-clause-one : goal.returns-clause-one
returns-clause-one c = one_index

pub returns-clause-whole : goal.returns-clause-whole
returns-clause-whole c = ends_whole
