use Rattle.std.proofs.Common.{arith, ◌≡◌, true, false}
use Rattle.jiff_core.proofs.SignedLemmas.{signed_arith}
use Rattle.jiff_core.proofs.DateLemmas.{days_from_civil-max, civil}
use Rattle.tape_types.proofs.DayLemmas.{first_day, year_not_negative}
use Rattle.tape_types.proofs.times.date_of.Goals as goal

pub unreachable-requires : goal.unreachable-requires
unreachable-requires c =
    let low = first_day in
    let high = days_from_civil-max in
    let bad : false ≡ true = c.in-Err.ensures.succeeds.1 (omega (arith, signed_arith), omega (arith, signed_arith)) in
    absurd (cc bad)

pub returns-clause-year : goal.returns-clause-year
returns-clause-year c =
    let d = c.in-Ok.date in
    year_not_negative d.year d.month d.day (civil d) (omega (arith, signed_arith, c.in-Ok.ensures.value))
