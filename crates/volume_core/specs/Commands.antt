-- The commands with which a volume is closed, over any drive: each is done, or it failed, and then no more comes.
use Rattle.std.specs.Prelude.{ℕ, ◌≡◌, Bool, true, false, List, [], ◌∷◌, Option, Some, None, Result, Ok, Err, IfOk}
use Rattle.tape_types.specs.declared.cartridges.Cartridge.{Cartridge}
use Rattle.tape_types.specs.declared.cartridges.Note.{Note}
use Rattle.tape_types.specs.declared.cartridges.Part.{Part}
use Rattle.tape_types.specs.declared.cartridges.Part.TheVariants.{Ip, Dp}
use Rattle.tape_types.specs.declared.cartridges.Twin.{Twin}
use Rattle.coherency.specs.Notes.{HasValues}
use Rattle.coherency.specs.declared.Coherency.{Coherency}
use Rattle.tape_drive.specs.Commands.{AfterNote}
use Rattle.tape_drive.specs.Crashes.{Crashes, NothingNew, WithinNote}
use Rattle.tape_drive.specs.declared.drive.Drive.{Ghosts}
use Rattle.tape_layout.specs.declared.ops.Op.{Op}
use Rattle.head_core.specs.Attributes.{IsAttributeCommand}
use Rattle.head_core.specs.Steps.{IsOpStep}
use Rattle.head_core.specs.declared.work.StepDone.{StepDone}
use Rattle.head_core.specs.declared.work.StepDone.TheVariants as outcome
use Rattle.promises.specs.CrashLaws.Changes.{IsWell}

-- ---- ops

-- these ops were done from the first on, and those are left
pub data DoesOps {D : Type 0} (drive : Ghosts D) : List Op → D → List Op → D → Type 0 where
  rest : (ops : List Op) (d : D) → DoesOps drive ops d ops d
  one : (op : Op) (later left : List Op) (end : StepDone) (old mid new : D) → IsOpStep drive op end old mid
      → IsWell end → DoesOps drive later mid left new → DoesOps drive (op ∷ later) old left new

-- some were done, and the first of those that are left failed
pub record FailsOp {D : Type 0} (drive : Ghosts D) (ops : List Op) (old new : D) (counts : Twin) : Type 0 where
  pub op : Op
  pub later : List Op
  pub mid : D
  pub before : DoesOps drive ops old (op ∷ later) mid
  pub failed : IsOpStep drive op (outcome.Failed counts) mid new

-- all were done, or one failed
abbrev pub AreOpsDone : {D : Type 0} → Ghosts D → List Op → D → D → Result Unit Twin → Type 0
AreOpsDone drive ops old new (Ok done) = DoesOps drive ops old [] new
AreOpsDone drive ops old new (Err counts) = FailsOp drive ops old new counts

-- ---- notes

-- the volume change reference was read
pub record IsVcrRead {D : Type 0} (drive : Ghosts D) (old new : D) (result : Result ℕ Twin) : Type 0 where
  pub value : IfOk result (λ n. (c : Cartridge) → drive.held old ≡ Some c → n ≡ c.vcr)
  pub command : IsAttributeCommand drive result old new
  pub held : drive.held new ≡ drive.held old
  pub crash : Crashes NothingNew (drive.commands old) (drive.leaves old) (drive.leaves new) (drive.left_since old)
      (drive.left_since new)

-- a note with these values was written on a partition, or was to be
pub record IsNoteWritten {D : Type 0} (drive : Ghosts D) (part : Part) (values : Coherency) (old new : D)
    (result : Result Unit Twin) : Type 0 where
  pub note : Note
  pub has : HasValues note values
  pub told : (c : Cartridge) → drive.held old ≡ Some c
      → (d : Cartridge) × (drive.held new ≡ Some d) × AfterNote result part note c d
  pub command : IsAttributeCommand drive result old new
  pub crash : (c : Cartridge) → drive.held old ≡ Some c → Crashes (WithinNote part note) (drive.commands old)
      (drive.leaves old) (drive.leaves new) (drive.left_since old) (drive.left_since new)

-- What the notes tell: the volume, its newest generation, and the first blocks of the last indexes of both partitions,
-- where the data partition has one.
pub record Lasts : Type 0 where
  pub uuid : ℕ
  pub generation : ℕ
  pub on_ip : ℕ
  pub on_dp : Option ℕ

-- a note of a partition's last index, with the first block of that
abbrev pub values_of : Lasts → (vcr block : ℕ) → Coherency
values_of lasts vcr block = record { vcr = vcr; generation = lasts.generation; block = block; uuid = lasts.uuid }

-- the note of the data partition is written, where that has an index
abbrev pub IsDpNoteWritten : {D : Type 0} → Ghosts D → Lasts → ℕ → D → D → Result Unit Twin → Type 0
IsDpNoteWritten drive lasts vcr old new result = by lasts.on_dp
  where
    by : Option ℕ → Type 0
    by (Some block) = IsNoteWritten drive Dp (values_of lasts vcr block) old new result
    by None = (new ≡ old) × (result ≡ Ok tt)

-- the reference is read, and then the note of the index partition is written and that of the data partition
pub data WritesNotes {D : Type 0} (drive : Ghosts D) (lasts : Lasts) : D → D → Result Unit Twin → Type 0 where
  unread : (counts : Twin) (old new : D) → IsVcrRead drive old new (Err counts)
      → WritesNotes drive lasts old new (Err counts)
  not_on_ip : (vcr : ℕ) (counts : Twin) (old mid new : D) → IsVcrRead drive old mid (Ok vcr)
      → IsNoteWritten drive Ip (values_of lasts vcr lasts.on_ip) mid new (Err counts)
      → WritesNotes drive lasts old new (Err counts)
  on_dp : (vcr : ℕ) (old first second new : D) (result : Result Unit Twin) → IsVcrRead drive old first (Ok vcr)
      → IsNoteWritten drive Ip (values_of lasts vcr lasts.on_ip) first second (Ok tt)
      → IsDpNoteWritten drive lasts vcr second new result → WritesNotes drive lasts old new result

-- ---- all of it

-- both are written where they are due
abbrev pub WritesNotesIf : {D : Type 0} → Ghosts D → Lasts → Bool → D → D → Result Unit Twin → Type 0
WritesNotesIf drive lasts true old new result = WritesNotes drive lasts old new result
WritesNotesIf drive lasts false old new result = (new ≡ old) × (result ≡ Ok tt)

-- the ops are done, and the notes are written where they are due; the first command that failed was the last
pub data EndsWith {D : Type 0} (drive : Ghosts D) (ops : List Op) (lasts : Lasts) (notes : Bool)
    : D → D → Result Unit Twin → Type 0 where
  in_ops : (counts : Twin) (old new : D) → FailsOp drive ops old new counts
      → EndsWith drive ops lasts notes old new (Err counts)
  in_notes : (old mid new : D) (result : Result Unit Twin) → DoesOps drive ops old [] mid
      → WritesNotesIf drive lasts notes mid new result → EndsWith drive ops lasts notes old new result
