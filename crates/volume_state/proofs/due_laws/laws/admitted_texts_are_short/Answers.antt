use Rattle.volume_state.proofs.DueLaws.Texts.{are_short}
use Rattle.volume_state.proofs.due_laws.laws.admitted_texts_are_short.Goals as goal

pub returns : goal.returns
returns c = are_short
