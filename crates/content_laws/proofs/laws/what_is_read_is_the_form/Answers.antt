use Rattle.content_laws.proofs.ReadForms.{form, stops}
use Rattle.content_laws.proofs.laws.what_is_read_is_the_form.Goals as goal

pub returns-clause-form : goal.returns-clause-form
returns-clause-form c = form

pub returns-clause-stops : goal.returns-clause-stops
returns-clause-stops c = stops
