use Rattle.ltfs_documents.proofs.DocElements.Base64Lemmas.{one_text}
use Rattle.ltfs_documents.proofs.DocElements.WrittenAttributes.{key_back, value_back}
use Rattle.ltfs_documents.proofs.doc_elements.laws.attributes_read_back.Goals as goal

pub returns-clause-keys : goal.returns-clause-keys
returns-clause-keys c = λ key text rest from start u good a e. (key_back key u good).again text from start rest a e

pub returns-clause-values : goal.returns-clause-values
returns-clause-values c = λ bs text rest from start are a e. (value_back bs are).again text from start rest a e

pub returns-clause-one_text : goal.returns-clause-one_text
returns-clause-one_text c = λ text bs are e. one_text text bs are e
