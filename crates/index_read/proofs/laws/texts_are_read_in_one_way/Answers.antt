use Rattle.index_read.proofs.Exact.{one_index_text, never_both, one_refusal}
use Rattle.index_read.proofs.laws.texts_are_read_in_one_way.Goals as goal

pub returns-clause-one_index : goal.returns-clause-one_index
returns-clause-one_index c = one_index_text

pub returns-clause-never_both : goal.returns-clause-never_both
returns-clause-never_both c = never_both

pub returns-clause-one_refusal : goal.returns-clause-one_refusal
returns-clause-one_refusal c = one_refusal
