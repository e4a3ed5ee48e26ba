use Rattle.std.proofs.Common.{refl, rules}
use Rattle.event_journal.proofs.placements.Placements.new.Goals as goal
use Rattle.event_journal.proofs.LetGoLemmas.{kept_new}
use Rattle.event_journal.proofs.PlacementLemmas.{new_listed}

pub invariant_of-result : goal.invariant_of-result
invariant_of-result c = (
  new_listed _ _ _ _ _ _ _ _ (search rules) (search rules) (search rules) (search rules) (search rules) (search rules),
  kept_new _ _ _ _ _ _ (search rules) (search rules) refl (search rules),
)
