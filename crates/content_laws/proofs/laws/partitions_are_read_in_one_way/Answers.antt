use Rattle.content_laws.proofs.OneForm.{one_form}
use Rattle.content_laws.proofs.ReadForms.{one_place, never_both}
use Rattle.content_laws.proofs.SomeForm.{either}
use Rattle.content_laws.proofs.laws.partitions_are_read_in_one_way.Goals as goal

pub returns-clause-one_form : goal.returns-clause-one_form
returns-clause-one_form c = one_form

pub returns-clause-one_place : goal.returns-clause-one_place
returns-clause-one_place c = one_place

pub returns-clause-never_both : goal.returns-clause-never_both
returns-clause-never_both c = never_both

pub returns-clause-either : goal.returns-clause-either
returns-clause-either c = either
