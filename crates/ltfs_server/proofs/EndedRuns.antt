-- How a run of a script may have ended, whoever tells of it.
use Rattle.std.proofs.Common.{ℕ, ◌-◌, ◌^◌, ◌≤◌, List, [], ◌∷◌, fold, filter_map, min, Option, inl, inr, arith}
use Rattle.tape_types.specs.Counts.{IsRise, Rose}
use Rattle.tape_types.specs.declared.cartridges.Twin.{Twin}
use Rattle.tape_types.specs.declared.moments.Moment.{Moment}
use Rattle.session_script.specs.declared.logs.Log.{Log}
use Rattle.session_script.specs.declared.scripts.ScriptLine.{ScriptLine}
use Rattle.head_queue.specs.EventLaws.Trail.{fault_of}
use Rattle.tape_drive.specs.declared.drive.Drive.{Ghosts}
use Rattle.promises.specs.ServingPromise.Faults.{AreRises}
use Rattle.promises.specs.ServingPromise.Headline.{Failed, last_fault}
use Rattle.promises.specs.OrderLaws.Kept.{seen}
use Rattle.commands.specs.BasicCommands.Runs.{IsOneOf}
use Rattle.ltfs_server.specs.Serving.{EndsRun}

-- faults that rose one after the other ended above where they began, or at the end of the count
rises_end : (before now : ℕ) (faults : List Twin) → AreRises before now faults → min before (2 ^ 64 - 1) ≤ fold (λ _ (t : Twin). t.after) before faults
rises_end before now [] rises = omega arith
rises_end before now (t ∷ more) (lowest, rose, rest) =
    let later : min t.after (2 ^ 64 - 1) ≤ fold (λ _ (t : Twin). t.after) t.after more = rises_end t.after now more rest in
    omega (arith, lowest, rose, later)

rose_since : (first last now before after : ℕ) → min first (2 ^ 64 - 1) ≤ last → IsRise last now before after → Rose first now
rose_since first last now before after least rise = omega (arith, least, rise.lowest, rise.rose, rise.highest)

-- a close that failed is a fault of the drive
pub failed_rose : {D : Type 0} (drive : Ghosts D) (old new : D) (moment : Option Moment) (script : List ScriptLine) (log : Log) (counts : Twin)
    → EndsRun drive old new moment (Failed counts) script log → Rose (drive.faults old) (drive.faults new)
failed_rose drive old new moment script log counts is =
    let least : min (drive.faults old) (2 ^ 64 - 1) ≤ last_fault (seen drive old) log = rises_end (drive.faults old) (drive.faults new) (filter_map fault_of log.events) is.run.serves.log_is.faults.rises in
    let rise : IsRise (last_fault (seen drive old) log) (drive.faults new) counts.before counts.after = is.ends.0 in
    rose_since (drive.faults old) (last_fault (seen drive old) log) (drive.faults new) counts.before counts.after least rise

-- the statuses of a run that came through are among those of one that ended
pub done_or_refused : (n : ℕ) → IsOneOf n (0 ∷ 7 ∷ []) → IsOneOf n (0 ∷ 7 ∷ 8 ∷ [])
done_or_refused n (inl zero) = inl zero
done_or_refused n (inr (inl seven)) = inr (inl seven)
done_or_refused n (inr (inr none)) = absurd none
