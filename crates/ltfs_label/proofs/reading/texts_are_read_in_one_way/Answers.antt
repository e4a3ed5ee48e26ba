use Rattle.ltfs_label.proofs.Texts.{never_both, one_refusal, one_value}
use Rattle.ltfs_label.proofs.reading.texts_are_read_in_one_way.Goals as goal

pub returns-clause-one_value : goal.returns-clause-one_value
returns-clause-one_value c = one_value

pub returns-clause-never_both : goal.returns-clause-never_both
returns-clause-never_both c = never_both

pub returns-clause-one_refusal : goal.returns-clause-one_refusal
returns-clause-one_refusal c = one_refusal
