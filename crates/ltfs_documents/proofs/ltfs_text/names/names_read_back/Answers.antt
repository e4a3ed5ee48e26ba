use Rattle.ltfs_documents.proofs.LtfsText.Texts.{escaped_at, written_back, written_plain}
use Rattle.ltfs_documents.proofs.ltfs_text.names.names_read_back.Goals as goal

pub returns-clause-back : goal.returns-clause-back
returns-clause-back c = written_back

pub returns-clause-plain : goal.returns-clause-plain
returns-clause-plain c name text = written_plain name

pub returns-clause-escaped : goal.returns-clause-escaped
returns-clause-escaped c = escaped_at
