use Rattle.std.proofs.Common.{arith, ◌≤ℤ◌, pos}
use Rattle.jiff_core.specs.Calendar.{days_from_civil}
use Rattle.jiff_core.specs.Date.{epoch_day}
use Rattle.jiff_core.proofs.SignedLemmas.{signed_arith}
use Rattle.jiff_core.proofs.DateLemmas.{civil}
use Rattle.tape_types.proofs.DayLemmas.{first_day, date_not_early}
use Rattle.tape_types.proofs.times.moment_on.Goals as goal

pub invariant_of-result-clause-not_before : goal.invariant_of-result-clause-not_before
invariant_of-result-clause-not_before c =
    let low = first_day in
    let d = c.args.date in
    let early : days_from_civil (pos 0) 1 1 ≤ℤ epoch_day d = date_not_early d.year c.args.civil.year d.month d.day c.requires.year (civil d) in
    omega (arith, signed_arith, c.to_unix_epoch_day.ensures.value, c.to_unix_epoch_day.ensures.bound)
