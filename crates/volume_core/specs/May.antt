-- What the commands of a close may leave to a crash, by what the owner of the drive allows.
use Rattle.std.specs.Prelude.{ℕ, ◌≡◌, ◌⊎◌, List, [], Some}
use Rattle.coherency.specs.Notes.{HasValues}
use Rattle.coherency.specs.declared.Coherency.{Coherency}
use Rattle.tape_types.specs.declared.cartridges.Cartridge.{Cartridge}
use Rattle.tape_types.specs.declared.cartridges.Note.{Note}
use Rattle.tape_types.specs.declared.cartridges.Part.{Part}
use Rattle.tape_types.specs.declared.cartridges.Part.TheVariants.{Ip, Dp}
use Rattle.tape_drive.specs.Crashes.{AllowsAll, LeavesAllowed, WithinNote}
use Rattle.tape_drive.specs.declared.drive.Drive.{Ghosts}
use Rattle.tape_layout.specs.declared.ops.Op.{Op}
use Rattle.ltfs_label.specs.declared.Label.{Label}
use Rattle.cartridge_meaning.specs.Notes.{TellsOfLast}
use Rattle.promises.specs.ServingPromise.Served.{View}
use Rattle.promises.specs.CrashLaws.Safe.{Planned}
use Rattle.volume_state.specs.ClosingLaws.Closing.{IsAtRest, IsClosing}
use Rattle.volume_state.specs.ClosingLaws.May.{IsAllowedView}
use Rattle.volume_core.specs.Commands.{DoesOps, Lasts, values_of}

-- both notes may tell of the last indexes, whatever the volume change reference is
pub record MayTell (c : Cartridge) (label : Label) (lasts : Lasts) : Type 0 where
  pub ip : (vcr : ℕ) → TellsOfLast c label Ip (values_of lasts vcr lasts.on_ip)
  pub dp : (vcr block : ℕ) → lasts.on_dp ≡ Some block → TellsOfLast c label Dp (values_of lasts vcr block)

-- behind the ops the notes may be written
abbrev pub AreReady : {D : Type 0} → Ghosts D → View D → Planned → List Op → Lasts → D → Type 0
AreReady {D} drive v planned ops lasts old = (mid : D) → DoesOps drive ops old [] mid
    → IsClosing drive v planned [] mid
    → (c : Cartridge) × (drive.held mid ≡ Some c) × IsAtRest drive mid × MayTell c planned.labels.ip lasts

-- a volume is closed with these ops left, and all is allowed that its script may leave
pub record IsAllowedClose {D : Type 0} (drive : Ghosts D) (ops : List Op) (d : D) : Type 0 where
  pub planned : Planned
  pub view : View D
  pub allowed : IsAllowedView drive view
  pub closing : IsClosing drive view planned ops d

-- and behind them the notes may tell this
pub record IsAllowedEnd {D : Type 0} (drive : Ghosts D) (ops : List Op) (lasts : Lasts) (d : D) : Type 0 where
  pub close : IsAllowedClose drive ops d
  pub ready : AreReady drive close.view close.planned ops lasts d

-- no op is left, and nothing is pending of a cartridge of which the notes may tell this
pub record AreNotesAllowed {D : Type 0} (drive : Ghosts D) (lasts : Lasts) (d : D) (c : Cartridge) : Type 0 where
  pub close : IsAllowedClose drive [] d
  pub rest : IsAtRest drive d
  pub tells : MayTell c close.planned.labels.ip lasts

-- where a drive tells its cartridge, the owner allows everything, or this holds of it
abbrev pub AllOr : {D : Type 0} → Ghosts D → D → (Cartridge → Type 0) → Type 0
AllOr drive d P = (c : Cartridge) → drive.held d ≡ Some c → AllowsAll drive.allows ⊎ P c

-- so these ops may be done one after the other
abbrev pub MayDoAll : {D : Type 0} → Ghosts D → List Op → D → Type 0
MayDoAll drive ops d = AllOr drive d (λ c. IsAllowedClose drive ops d)

-- and then the notes may be written
abbrev pub MayEnd : {D : Type 0} → Ghosts D → List Op → Lasts → D → Type 0
MayEnd drive ops lasts d = AllOr drive d (λ c. IsAllowedEnd drive ops lasts d)

abbrev pub MayWriteNotes : {D : Type 0} → Ghosts D → Lasts → D → Type 0
MayWriteNotes drive lasts d = AllOr drive d (λ c. AreNotesAllowed drive lasts d c)

-- that of the data partition, with the volume change reference that was read
abbrev pub MayWriteDpNote : {D : Type 0} → Ghosts D → Lasts → ℕ → D → Type 0
MayWriteDpNote drive lasts vcr d = AllOr drive d (λ c. AreNotesAllowed drive lasts d c × (vcr ≡ c.vcr))

-- a note with these values may be written
abbrev pub MayWriteNote : {D : Type 0} → Ghosts D → Part → Coherency → D → Type 0
MayWriteNote drive part values d = (note : Note) (c : Cartridge) → HasValues note values → drive.held d ≡ Some c
    → LeavesAllowed (WithinNote part note) (drive.leaves d) drive.allows
