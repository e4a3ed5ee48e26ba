use Rattle.cartridge_meaning.proofs.IndexOrStops.{index_or_stops}
use Rattle.ltfs_label.proofs.Texts.{label_or_stops}
use Rattle.cartridge_meaning.proofs.laws.texts_are_read_or_stop.Goals as goal

pub returns-clause-index : goal.returns-clause-index
returns-clause-index c = index_or_stops

pub returns-clause-label : goal.returns-clause-label
returns-clause-label c = label_or_stops
