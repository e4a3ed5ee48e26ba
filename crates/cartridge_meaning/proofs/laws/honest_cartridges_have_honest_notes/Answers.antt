use Rattle.cartridge_meaning.proofs.Honest.{absent_honest, honest_notes, labelled_honest, unlabelled_honest}
use Rattle.cartridge_meaning.proofs.laws.honest_cartridges_have_honest_notes.Goals as goal

pub returns-clause-honest : goal.returns-clause-honest
returns-clause-honest c = honest_notes

pub returns-clause-labelled : goal.returns-clause-labelled
returns-clause-labelled c = labelled_honest

pub returns-clause-absent : goal.returns-clause-absent
returns-clause-absent c = absent_honest

pub returns-clause-unlabelled : goal.returns-clause-unlabelled
returns-clause-unlabelled c = unlabelled_honest
