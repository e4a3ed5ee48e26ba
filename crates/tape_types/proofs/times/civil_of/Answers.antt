use Rattle.std.proofs.Common.{arith}
use Rattle.jiff_core.proofs.SignedLemmas.{signed_arith}
use Rattle.tape_types.proofs.CivilLemmas.{day_not_before, day_not_after}
use Rattle.tape_types.proofs.times.civil_of.Goals as goal

pub date_of-date-requires-clause-first : goal.date_of-date-requires-clause-first
date_of-date-requires-clause-first c =
    let low = day_not_before c.args.at in omega (arith, signed_arith, c.div_euclid.ensures)

pub date_of-date-requires-clause-last : goal.date_of-date-requires-clause-last
date_of-date-requires-clause-last c =
    let high = day_not_after c.args.at in omega (arith, signed_arith, c.div_euclid.ensures)
