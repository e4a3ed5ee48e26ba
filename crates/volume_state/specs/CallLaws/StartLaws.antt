-- How the parts of a volume begin that was mounted, and that they are kept and tied.
use Rattle.std.specs.Prelude.{◌≡◌, [], Option, Some, None, IfSome, length}
use Rattle.tape_types.specs.Cartridges.{IsLimits}
use Rattle.tape_types.specs.declared.cartridges.Cartridge.{Cartridge}
use Rattle.tape_types.specs.declared.moments.Moment.{Moment}
use Rattle.tape_drive.specs.declared.drive.Drive.{Ghosts}
use Rattle.extent_map.specs.Cells.{Tape, tape_of}
use Rattle.file_tree.specs.Mounts.{IsTreeOf}
use Rattle.file_tree.specs.Tree.{plain_of, whole}
use Rattle.session_script.specs.Sessions.{HasSessions, greatest_session}
use Rattle.cartridge_meaning.specs.Carried.{carried}
use Rattle.cartridge_meaning.specs.Meaning.{Reads}
use Rattle.cartridge_meaning.specs.Mounts.{IsMount, Mounts}
use Rattle.space_laws.specs.Standing.{Given, first_standing}
use Rattle.promises.specs.ServingPromise.Served.{Fixed}
use Rattle.held_volume.specs.Mounted.{StartsFrom, letters_of}
use Rattle.held_volume.specs.Stocks.{IsStock}
use Rattle.volume_state.specs.PlanLaws.Planned.{Items}
use Rattle.promises.specs.PromiseLaws.Kept.{IsKept, Plan}
use Rattle.volume_state.specs.StateLaws.Parts.{Parts, view_of}
use Rattle.volume_state.specs.StateLaws.Tied.{IsPlannedAs, IsTied}

-- the tape of the cartridge that the drive told at the start, or one that has lost nothing
abbrev pub first_tape : Option Cartridge → Tape
first_tape (Some c) = tape_of c
first_tape None = whole

-- Nothing was asked of these parts yet. What is held is what stands first, whatever tape the volume is served from;
-- it is the tree of the index that was mounted, and with the bytes that stand on tape it is the volume's.
pub record IsFresh {D : Type 0} (drive : Ghosts D) (fixed : Fixed D) (p : Parts D) : Type 0 where
  pub drive_is : p.drive ≡ fixed.first
  pub events : p.trail.events ≡ []
  pub acks : p.trail.acks ≡ []
  pub kept : p.trail.kept ≡ []
  pub waiting : p.queue.waiting ≡ []
  pub arrived : p.queue.arrived ≡ 0
  pub history : p.listed.history ≡ []
  pub replies : p.listed.replies ≡ []
  pub marks : p.listed.marks ≡ []
  pub calls : p.listed.calls ≡ length fixed.script
  pub sessions : p.listed.sessions ≡ greatest_session fixed.script
  pub reads : p.reads ≡ []
  pub answered : p.answered ≡ []
  pub on : p.on ≡ None
  pub cached : p.cached ≡ []
  pub ops : p.stock.layout.ops ≡ []
  pub stands : (tape : Tape) (g : Given) → StartsFrom tape (drive.limits fixed.first) fixed.mounted g
      → IsStock tape g fixed.mounted.ip_on (first_standing g) p.stock
  pub tree : IsTreeOf (letters_of fixed.mounted) fixed.mounted.label.block fixed.mounted.index p.stock.tree
  pub tree_is : fixed.tree ≡ plain_of (first_tape (drive.held fixed.first)) p.stock.tree

-- The volume is kept and tied, with something planned that is the plan of its crashes; and where the drive told a
-- cartridge, that reads as the volume's tree.
pub record Begins {D : Type 0} (drive : Ghosts D) (fixed : Fixed D) (next : Option Moment) (p : Parts D)
    : Type 0 where
  pub planned : Items
  pub plan : Plan drive fixed
  pub kept : IsKept drive fixed plan (view_of fixed next p)
  pub tied : IsTied drive fixed planned p
  pub planned_as : IsPlannedAs drive fixed plan planned
  pub reads_as : IfSome (drive.held fixed.first)
      (λ c. Reads c (carried fixed.mounted.index) fixed.tree fixed.mounted.newest)

-- A volume that was mounted over a drive begins so, where the mount tells of the cartridge that the drive told.
abbrev pub BeginningsAreTied : {D : Type 0} → Ghosts D → Type 0
BeginningsAreTied {D} drive = (fixed : Fixed D) (next : Option Moment) (p : Parts D) → HasSessions fixed.script
    → IsLimits (drive.limits fixed.first) → IsMount (drive.limits fixed.first) fixed.mounted
    → IfSome (drive.held fixed.first) (λ c. Mounts c fixed.mounted) → IsFresh drive fixed p
    → Begins drive fixed next p
