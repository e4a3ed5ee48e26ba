use Rattle.session_script.proofs.RefusalLaws.{first_refused}
use Rattle.session_script.proofs.RefusalsOnly.{forms_ordered, refusal_only}
use Rattle.session_script.proofs.laws.refuses_the_first.Goals as goal

pub returns : goal.returns
returns c = record { found = first_refused; only = refusal_only; ordered = forms_ordered }
