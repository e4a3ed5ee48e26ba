use Rattle.ltfs_documents.proofs.DocFields.ValuesAgain.{number_again, bool_again, letter_again, lock_again, time_again, uuid_again}
use Rattle.ltfs_documents.proofs.doc_fields.laws.values_read_back.Goals as goal

pub returns : goal.returns
returns c = record {
  numbers = λ text rest at n b lt stop e. number_again text at n b rest lt stop e;
  truths = λ is text rest at e. bool_again text at is rest e;
  letters = λ b low high text rest at e. letter_again text at b rest low high e;
  locks = λ state text rest at e. lock_again text at state rest e;
  times = λ text rest at m e. time_again text at m rest e;
  uuids = λ text rest at uuid fits e. uuid_again text at uuid rest fits e;
}
