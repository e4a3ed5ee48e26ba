-- What each command of a close leaves of a drive's counts, of its limits, and of what it tells.
use Rattle.std.proofs.Common.{◌≡◌, ℕ, ◌≤◌, Bool, true, false, List, [], ◌∷◌, Option, Some, None, refl, subst, sym}
use Rattle.std.proofs.Common.{◌∙◌, arith}
use Rattle.std.specs.Prelude.{Result, Ok, Err}
use Rattle.tape_types.specs.Counts.{IsRise, Rose}
use Rattle.tape_types.specs.declared.cartridges.Part.{Part}
use Rattle.tape_types.specs.declared.cartridges.Place.{Place}
use Rattle.tape_types.specs.declared.cartridges.Twin.{Twin}
use Rattle.coherency.specs.declared.Coherency.{Coherency}
use Rattle.tape_drive.specs.declared.drive.Drive.{Ghosts}
use Rattle.tape_layout.specs.declared.ops.Op.{Op}
use Rattle.head_core.specs.Attributes.{IsAttributeCommand}
use Rattle.head_core.specs.Steps.{IsMade}
use Rattle.head_core.specs.declared.work.StepDone.{StepDone}
use Rattle.head_core.specs.declared.work.StepDone.TheVariants as outcome
use Rattle.volume_core.specs.Commands as closing
use Rattle.volume_core.specs.Commands.{AreOpsDone, DoesOps, EndsWith, FailsOp, IsDpNoteWritten, IsNoteWritten}
use Rattle.volume_core.specs.Commands.{Lasts, WritesNotes, WritesNotesIf}

-- the drive's counts never fall, its limits stay, and it tells nothing where it told nothing
pub record GoesOn {D : Type 0} (drive : Ghosts D) (old new : D) : Type 0 where
  pub commands : drive.commands old ≤ drive.commands new
  pub faults : drive.faults old ≤ drive.faults new
  pub limits : drive.limits new ≡ drive.limits old
  pub untold : drive.held old ≡ None → drive.held new ≡ None

-- a failure tells of a rise of the faults
abbrev pub Tells : {D : Type 0} → Ghosts D → D → D → Result Unit Twin → Type 0
Tells drive old new (Ok done) = Unit {0}
Tells drive old new (Err counts) = IsRise (drive.faults old) (drive.faults new) counts.before counts.after

-- the same, and a failure tells the drive's count of faults
pub record GoesTo {D : Type 0} (drive : Ghosts D) (old new : D) (result : Result Unit Twin) : Type 0 where
  pub goes : GoesOn drive old new
  pub tells : Tells drive old new result

least_same : (n : ℕ) → n ≤ n
least_same n = omega arith

between : (a b c : ℕ) → a ≤ b → b ≤ c → a ≤ c
between a b c low high = omega (arith, low, high)

-- a failure told its counts just so
rise_of : (low before now : ℕ) (counts : Twin) → low ≤ before → counts.before ≡ before → counts.after ≡ now
    → Rose before now → IsRise low now counts.before counts.after
rise_of low before now counts least from to rose = record {
  lowest = omega (arith, least, from);
  rose = subst (λ (n : ℕ). Rose n counts.after) (sym from) (subst (λ (n : ℕ). Rose before n) (sym to) rose);
  highest = omega (arith, to);
}

module _ {D : Type 0} (drive : Ghosts D) where
  -- a drive to which nothing is done goes on
  pub stays : (d : D) → GoesOn drive d d
  stays d = record {
    commands = least_same (drive.commands d);
    faults = least_same (drive.faults d);
    limits = refl;
    untold = λ none. none;
  }

  then : (old mid new : D) → GoesOn drive old mid → GoesOn drive mid new → GoesOn drive old new
  then old mid new first second = record {
    commands = between (drive.commands old) (drive.commands mid) (drive.commands new) first.commands second.commands;
    faults = between (drive.faults old) (drive.faults mid) (drive.faults new) first.faults second.faults;
    limits = second.limits ∙ first.limits;
    untold = λ none. second.untold (first.untold none);
  }

  tells_from : (old mid new : D) (result : Result Unit Twin) → GoesOn drive old mid → Tells drive mid new result
      → Tells drive old new result
  tells_from old mid new (Ok done) first t = tt
  tells_from old mid new (Err counts) first t = record {
    lowest = between (drive.faults old) (drive.faults mid) counts.before first.faults t.lowest;
    rose = t.rose;
    highest = t.highest;
  }

  behind : (old mid new : D) (result : Result Unit Twin) → GoesOn drive old mid → GoesTo drive mid new result
      → GoesTo drive old new result
  behind old mid new result first second = record {
    goes = then old mid new first second.goes;
    tells = tells_from old mid new result first second.tells;
  }

  -- ---- ops

  made_on : (at : Place) (most : ℕ) (end : StepDone) (old new : D) → IsMade drive at most end old new
      → GoesOn drive old new
  made_on at most end old new made = record {
    commands = made.commands.later;
    faults = made.faults_later;
    limits = made.limits;
    untold = made.untold;
  }

  failed_to : (at : Place) (most : ℕ) (counts : Twin) (old new : D)
      → IsMade drive at most (outcome.Failed counts) old new → GoesTo drive old new (Err counts)
  failed_to at most counts old new made = record {
    goes = made_on at most (outcome.Failed counts) old new made;
    tells = rise_of (drive.faults old) (drive.faults old) (drive.faults new) counts (least_same (drive.faults old))
        made.faults.0 made.faults.1 made.faults.2;
  }

  does_on : (ops left : List Op) (old new : D) → DoesOps drive ops old left new → GoesOn drive old new
  does_on _ _ _ _ (closing.rest ops d) = stays d
  does_on _ _ _ _ (closing.one op later left end old mid new step well more) =
      then old mid new (made_on _ _ end old mid step.made) (does_on later left mid new more)

  fails_to : (ops : List Op) (old new : D) (counts : Twin) → FailsOp drive ops old new counts
      → GoesTo drive old new (Err counts)
  fails_to ops old new counts fails =
      behind old fails.mid new (Err counts) (does_on ops (fails.op ∷ fails.later) old fails.mid fails.before)
      (failed_to _ _ counts fails.mid new fails.failed.made)

  -- over the ops of a close the drive goes on, and a failure is told
  pub ops_to : (ops : List Op) (old new : D) (result : Result Unit Twin) → AreOpsDone drive ops old new result
      → GoesTo drive old new result
  ops_to ops old new (Ok done) does = record { goes = does_on ops [] old new does; tells = tt }
  ops_to ops old new (Err counts) fails = fails_to ops old new counts fails

  -- ---- notes

  not_to : (old new : D) (result : Result Unit Twin) → (new ≡ old) × (result ≡ Ok tt) → GoesTo drive old new result
  not_to old new result is = record {
    goes = subst (λ (d : D). GoesOn drive old d) (sym is.0) (stays old);
    tells = subst (λ (r : Result Unit Twin). Tells drive old new r) (sym is.1) tt;
  }

  attribute_on : {T : Type 0} (result : Result T Twin) (old new : D) → IsAttributeCommand drive result old new
      → GoesOn drive old new
  attribute_on result old new command = record {
    commands = command.commands.later;
    faults = command.faults_later;
    limits = command.limits;
    untold = command.untold;
  }

  attribute_failed : {T : Type 0} (counts : Twin) (old new : D)
      → IsAttributeCommand {T = T} drive (Err counts) old new → GoesTo drive old new (Err counts)
  attribute_failed {T} counts old new command = record {
    goes = attribute_on {T = T} (Err counts) old new command;
    tells = rise_of (drive.faults old) (drive.faults old) (drive.faults new) counts (least_same (drive.faults old))
        command.faults.0 command.faults.1 command.faults.2;
  }

  note_to : (part : Part) (values : Coherency) (old new : D) (result : Result Unit Twin)
      → IsNoteWritten drive part values old new result → GoesTo drive old new result
  note_to part values old new (Ok done) w =
      record { goes = attribute_on {T = Unit} (Ok done) old new w.command; tells = tt }
  note_to part values old new (Err counts) w = attribute_failed {T = Unit} counts old new w.command

  dp_note_to : (uuid generation on_ip : ℕ) (on_dp : Option ℕ) (vcr : ℕ) (old new : D) (result : Result Unit Twin)
      → IsDpNoteWritten drive (record { uuid = uuid; generation = generation; on_ip = on_ip; on_dp = on_dp }) vcr old
      new result → GoesTo drive old new result
  dp_note_to uuid generation on_ip (Some block) vcr old new result w = note_to _ _ old new result w
  dp_note_to uuid generation on_ip None vcr old new result is = not_to old new result is

  notes_to : (lasts : Lasts) (old new : D) (result : Result Unit Twin) → WritesNotes drive lasts old new result
      → GoesTo drive old new result
  notes_to lasts _ _ _ (closing.unread counts old new read) = attribute_failed {T = ℕ} counts old new read.command
  notes_to lasts _ _ _ (closing.not_on_ip vcr counts old mid new read w) =
      behind old mid new (Err counts) (attribute_on {T = ℕ} (Ok vcr) old mid read.command)
      (note_to _ _ mid new (Err counts) w)
  notes_to lasts _ _ _ (closing.on_dp vcr old first second new result read w last) =
      behind old first new result (attribute_on {T = ℕ} (Ok vcr) old first read.command)
      (behind first second new result (note_to _ _ first second (Ok tt) w).goes
      (dp_note_to lasts.uuid lasts.generation lasts.on_ip lasts.on_dp vcr second new result last))

  notes_if : (notes : Bool) (lasts : Lasts) (old new : D) (result : Result Unit Twin)
      → WritesNotesIf drive lasts notes old new result → GoesTo drive old new result
  notes_if true lasts old new result w = notes_to lasts old new result w
  notes_if false lasts old new result is = not_to old new result is

  -- ---- all of it

  -- over all commands of a close the drive goes on, and a failure is told
  pub ends_to : (ops : List Op) (lasts : Lasts) (due : Bool) (old new : D) (result : Result Unit Twin)
      → EndsWith drive ops lasts due old new result → GoesTo drive old new result
  ends_to ops lasts due _ _ _ (closing.in_ops counts old new fails) = fails_to ops old new counts fails
  ends_to ops lasts due _ _ _ (closing.in_notes old mid new result does notes) =
      behind old mid new result (does_on ops [] old mid does) (notes_if due lasts mid new result notes)
