use Rattle.tape_types.proofs.CivilLemmas.{has_civil, civil_once, time_text_civil, time_text_injective}
use Rattle.tape_types.proofs.times.times_are_civil.Goals as goal

pub returns : goal.returns
returns c = record { named = has_civil; once = civil_once; shown = time_text_civil; apart = time_text_injective }
