-- What a crash leaves of a run over a tape on a disk of byte files, in words of the disk's model and of what its files mean.
use Rattle.std.specs.Prelude.{ℕ, ◌≡◌, ◌≤◌, ◌<◌, ◌-◌, ◌^◌, List, Option, Some, Ok}
use Rattle.tape_types.specs.declared.cartridges.Cartridge.{Cartridge}
use Rattle.tape_types.specs.declared.cartridges.Limits.{Limits}
use Rattle.tape_types.specs.declared.moments.Moment.{Moment}
use Rattle.byte_disk.specs.Files.{AreFiles, Files}
use Rattle.byte_disk.specs.Images.{crash_image}
use Rattle.byte_disk.specs.Memory.{View as Disk}
use Rattle.byte_disk.specs.Since.{GaveSince}
use Rattle.byte_disk.specs.declared.disk.ByteDisk.{Ghosts}
use Rattle.tape_drive.specs.declared.drive.Drive.{Ghosts as Drives}
use Rattle.image_format.specs.Images.{Opens, image}
use Rattle.image_tape.specs.Opens.{HasOpened}
use Rattle.image_tape.specs.Tape.{View}
use Rattle.plain_tree.specs.Tree.{Tree}
use Rattle.session_script.specs.declared.logs.Ack.{Ack}
use Rattle.session_script.specs.declared.logs.Log.{Log}
use Rattle.session_script.specs.declared.scripts.ScriptLine.{ScriptLine}
use Rattle.commands.specs.BasicCommands.Runs.{Taken, Written}
use Rattle.cartridge_meaning.specs.Carried.{Carried}
use Rattle.cartridge_meaning.specs.Meaning.{Stands}
use Rattle.promises.specs.ServingPromise.Crash.{IsSound}
use Rattle.promises.specs.ServingPromise.Meanings.{cartridges}
use Rattle.run_laws.specs.Memory.{HoldsAcked, acked_by}
use Rattle.ltfs_server.specs.Sentence.{Asked, Sentence}

-- a tape that was opened over a disk whose files meant a cartridge that stands for the tree and is sound
pub record IsOpened {D : Type 0} (disk : Ghosts D) (facts : Carried) (tree : Tree) (generation : ℕ)
    (first : View D) : Type 0 where
  pub limits : Limits
  pub before : D
  pub files : Files
  pub held : Cartridge
  pub opened : HasOpened disk limits before first
  pub told : disk.held before ≡ Some files
  pub means : image limits files ≡ Ok held
  pub stands : Stands held facts tree generation
  pub sound : IsSound cartridges held
  pub low : disk.commands first.slots.disk < 2 ^ 64 - 1

-- A disk opens, as a cartridge that stands for the tree after some first placements of the log, with all that were
-- placed before any of these syncs among them.
abbrev pub OpensHolding : Limits → Carried → List ScriptLine → Tree → Log → List Ack → Files → Type 0
OpensHolding limits facts script tree log acks image =
    (c : Cartridge) × Opens limits image c × HoldsAcked facts script tree log acks c

-- What holds of each disk that a crash may leave now, and of each that one may have left at any moment of the run, once
-- the disk's commands had reached a number.
pub record SurvivesOnDisk {D : Type 0} (disk : Ghosts D) (facts : Carried) (script : List ScriptLine) (tree : Tree)
    (first now : View D) (log : Log) : Type 0 where
  pub at_end : disk.commands now.slots.disk < 2 ^ 64 - 1 → (image : Files) → disk.leaves now.slots.disk image
      → OpensHolding now.room.limits facts script tree log log.acks image
  pub at_any : (count : ℕ) → disk.commands first.slots.disk ≤ count → count < 2 ^ 64 - 1 → (image : Files)
      → disk.left_since now.slots.disk count image
      → OpensHolding now.room.limits facts script tree log (acked_by count log.acks) image

-- Where the sentence holds of a log, over a tape on a disk that tells its files, which began as it was opened, the log
-- survives crashes of the disk.
abbrev pub SurvivesOnDisks : {D : Type 0} → Ghosts D → Drives (View D) → View D → Type 0
SurvivesOnDisks {D = D} disk drive now = (files : Files) → disk.held now.slots.disk ≡ Some files
    → (asked : Asked) (moment : Option Moment) (source : Taken) (first : View D) (sink : Written) (status : ℕ) (log : Log)
    (s : Sentence asked moment source drive first now sink status log)
    (facts : Carried) (tree : Tree) (generation : ℕ) → IsOpened disk facts tree generation first
    → SurvivesOnDisk disk facts s.script tree first now log

-- ---- over a disk in memory

-- a tape that was opened over a disk in memory whose files meant a cartridge that stands for the tree and is sound
pub record IsOpenedInMemory (disk : Ghosts Disk) (facts : Carried) (tree : Tree) (generation : ℕ)
    (first : View Disk) : Type 0 where
  pub limits : Limits
  pub before : Disk
  pub bytes : AreFiles before.held
  pub held : Cartridge
  pub opened : HasOpened disk limits before first
  pub means : image limits before.held ≡ Ok held
  pub stands : Stands held facts tree generation
  pub sound : IsSound cartridges held
  pub low : first.slots.disk.commands < 2 ^ 64 - 1

-- What holds of a crash now, by the lists of bytes that `crash_with` takes, and of one that came right before or right
-- after any command of the disk that began in the run, once the disk's commands had reached a number.
pub record SurvivesInFiles (facts : Carried) (script : List ScriptLine) (tree : Tree) (first now : View Disk)
    (log : Log) : Type 0 where
  pub at_end : now.slots.disk.commands < 2 ^ 64 - 1 → (choice : Files) → AreFiles choice
      → OpensHolding now.room.limits facts script tree log log.acks
      (crash_image now.slots.disk.held now.slots.disk.acts choice)
  pub at_any : (count : ℕ) → first.slots.disk.commands ≤ count → count < 2 ^ 64 - 1 → (image : Files)
      → GaveSince now.slots.disk.held now.slots.disk.acts count image
      → OpensHolding now.room.limits facts script tree log (acked_by count log.acks) image

-- Where the sentence holds of a log, over a tape on a disk in memory, which began as it was opened, the log survives
-- crashes: in words of that disk's record.
abbrev pub SurvivesOnDisksInMemory : Ghosts Disk → Drives (View Disk) → View Disk → Type 0
SurvivesOnDisksInMemory disk drive now = (asked : Asked) (moment : Option Moment) (source : Taken)
    (first : View Disk) (sink : Written) (status : ℕ) (log : Log)
    (s : Sentence asked moment source drive first now sink status log)
    (facts : Carried) (tree : Tree) (generation : ℕ) → IsOpenedInMemory disk facts tree generation first
    → SurvivesInFiles facts s.script tree first now log
