-- What the calls that read the labels of a volume answer.
use Rattle.std.specs.Prelude.{◌≡◌, ℕ, ◌≤◌, List, Bool, true, false, Result, Ok, Err, IfErr}
use Rattle.tape_types.specs.Counts.{Rose}
use Rattle.tape_types.specs.declared.cartridges.Cartridge.{Cartridge}
use Rattle.tape_drive.specs.declared.drive.Got.{Got}
use Rattle.tape_drive.specs.declared.drive.Got.TheVariants as got
use Rattle.ltfs_label.specs.declared.errors.LabelErr.{LabelErr}
use Rattle.ltfs_label.specs.declared.errors.LabelErr.TheVariants as label_errors
use Rattle.ltfs_label.specs.Grammar.{LabelText}
use Rattle.ltfs_label.specs.Values.{label_of}
use Rattle.ltfs_label.specs.declared.Label.{Label}
use Rattle.cartridge_meaning.specs.Faults.{HasUnlikeLabels, LacksLabel, LacksRecord}
use Rattle.cartridge_meaning.specs.Labels.{AreOfOneVolume}
use Rattle.cartridge_meaning.specs.declared.labels.Labels.{Labels}
use Rattle.cartridge_meaning.specs.declared.errors.MountErr.{MountErr}
use Rattle.cartridge_meaning.specs.declared.errors.MountErr.TheVariants as errors
use Rattle.mount_recover.specs.declared.items.Stop.{Stop}
use Rattle.mount_recover.specs.declared.items.Stop.TheVariants as stops

-- Which of the first three checks of a cartridge fails first; a failed drive and refused memory tell nothing of it.
abbrev pub Fails : Cartridge → MountErr → Type 0
Fails c (errors.Vol1 part) = LacksRecord part c
Fails c (errors.Label part) = LacksLabel part c
Fails c errors.LabelsDiffer = HasUnlikeLabels c
Fails c (errors.Drive counts) = Unit {0}
Fails c errors.NoMemory = Unit {0}
Fails c e = ⊥

-- This check of a cartridge failed, and with this cause; or the drive failed or memory was refused, which tells nothing
-- of the cartridge.
abbrev pub Refuses : MountErr → Type 0 → MountErr → Type 0
Refuses check cause (errors.Drive counts) = Unit {0}
Refuses check cause errors.NoMemory = Unit {0}
Refuses check cause e = (e ≡ check) × cause

-- The same records, and labels of the same values, were read; or the drive failed, or memory was refused.
abbrev pub IsReadAs : Labels → Result Labels MountErr → Type 0
IsReadAs l (Ok found) =
    (found.ip_record ≡ l.ip_record) × (found.dp_record ≡ l.dp_record)
    × (label_of found.ip ≡ label_of l.ip) × (label_of found.dp ≡ label_of l.dp)
IsReadAs l (Err (errors.Drive counts)) = Unit {0}
IsReadAs l (Err errors.NoMemory) = Unit {0}
IsReadAs l (Err e) = ⊥

-- some text is that of a label
abbrev pub IsSpelled : Label → Type 0
IsSpelled l = (text : List ℕ) × LabelText text (label_of l)

-- what holds of labels that were read, whether or not the drive tells its cartridge
pub record AreLabels (l : Labels) : Type 0 where
  pub ip : IsSpelled l.ip
  pub dp : IsSpelled l.dp
  pub one_volume : AreOfOneVolume (label_of l.ip) (label_of l.dp)

-- a failed drive is told by its counts of faults, and only where the count rose
abbrev pub AreCounts : (before now : ℕ) → MountErr → Type 0
AreCounts before now (errors.Drive counts) = (counts.before ≡ before) × (counts.after ≡ now) × Rose before now
AreCounts before now e = Unit {0}

-- the count never falls, and the counts that an error tells are these
pub record HasCounts {T : Type 0} (before now : ℕ) (result : Result T MountErr) : Type 0 where
  pub later : before ≤ now
  pub told : IfErr result (AreCounts before now)

-- whether a read found a block, and whether it found a file mark
abbrev pub is_block : Got → Bool
is_block got.Block = true
is_block _ = false

abbrev pub is_mark : Got → Bool
is_mark got.Mark = true
is_mark _ = false

-- the count of faults never fell, and where the drive was the cause it rose
abbrev pub StopCause : ℕ → ℕ → Stop → Type 0
StopCause before now stops.Drive = Rose before now
StopCause before now stops.NoMemory = Unit {0}

pub record IsStopped {T : Type 0} (before now : ℕ) (result : Result T Stop) : Type 0 where
  pub later : before ≤ now
  pub stopped : IfErr result (StopCause before now)

abbrev pub is_no_memory : LabelErr → Bool
is_no_memory label_errors.NoMemory = true
is_no_memory _ = false
