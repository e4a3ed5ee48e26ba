-- What is kept over each command of a close, and what stands once it is done.
use Rattle.std.specs.Prelude.{ℕ, ◌≡◌, ◌⊎◌, ◌<◌, ◌≤◌, ◌^◌, Bool, false, List, [], ◌∷◌, ◌++◌, length, map, Some, None}
use Rattle.tape_types.specs.declared.cartridges.Cartridge.{Cartridge}
use Rattle.tape_types.specs.declared.cartridges.Limits.{Limits}
use Rattle.tape_types.specs.declared.cartridges.Note.{Note}
use Rattle.tape_types.specs.declared.cartridges.Part.{Part}
use Rattle.tape_types.specs.declared.cartridges.Twin.{Twin}
use Rattle.tape_types.specs.declared.moments.Moment.{Moment}
use Rattle.coherency.specs.Notes.{HasValues}
use Rattle.coherency.specs.declared.Coherency.{Coherency}
use Rattle.tape_drive.specs.Commands.{IsNoted}
use Rattle.tape_drive.specs.Crashes.{IsSettled, NothingNew, WithinNote}
use Rattle.tape_drive.specs.declared.drive.Drive.{Ghosts}
use Rattle.index_model.specs.Valid.{IsValid}
use Rattle.index_model.specs.declared.indexes.Index.{Index}
use Rattle.extent_map.specs.Cells.{tape_of}
use Rattle.file_tree.specs.Valid.{IsGood}
use Rattle.tape_types.specs.declared.cartridges.Place.{Place}
use Rattle.tape_layout.specs.declared.ops.Op.{Op}
use Rattle.tape_layout.specs.declared.ops.Op.TheVariants as the_ops
use Rattle.cartridge_meaning.specs.Carried.{carried}
use Rattle.cartridge_meaning.specs.Notes.{TellsOfLast}
use Rattle.head_core.specs.Steps.{IsOpStep}
use Rattle.head_core.specs.declared.work.StepDone.{StepDone}
use Rattle.head_core.specs.declared.work.StepDone.TheVariants as outcome
use Rattle.space_laws.specs.Closing.{close_text}
use Rattle.space_laws.specs.Space.{Rules, Space, index, ops_of, with_index}
use Rattle.space_laws.specs.Standing.{Standing}
use Rattle.held_volume.specs.Stocks.{IsStock, Stocked}
use Rattle.promises.specs.ImageLaws.Kept.{IsStep}
use Rattle.promises.specs.ImageLaws.Made.{CoveredIndex, Job, cartridge_of}
use Rattle.promises.specs.ImageLaws.Moments.{moment_of}
use Rattle.promises.specs.ImageLaws.Plans.{IsCloseDue, IsDue, close_jobs, index_jobs}
use Rattle.promises.specs.ImageLaws.Left.{StandsClosed}
use Rattle.promises.specs.ServingPromise.Crash.{SurvivesCrashes}
use Rattle.promises.specs.ServingPromise.Meanings.{cartridges}
use Rattle.promises.specs.ServingPromise.Served.{View, tree_after}
use Rattle.promises.specs.CrashLaws.Changes.{IsWell}
use Rattle.promises.specs.CrashLaws.Safe.{IsSafe, Planned, given_by, seen_by, trees_of, volume_of, waits_after, with_jobs}
use Rattle.volume_state.specs.DueLaws.Behind.{BeginsBehindLabels}
use Rattle.volume_state.specs.ClosingLaws.Closing.{CanTellClose, HasSpace, IsAtRest, IsClosing}

-- the ops of a close's index on the index partition
abbrev pub close_ops : Rules → Space → List ℕ → List Op
close_ops rules space text = map (λ (job : Job). job.op) (close_jobs rules space text)

-- A volume in which no sync waits may be closed. The index that is due on its data partition is admitted; then that of
-- its index partition, where no index is ahead there. An op that was done is one less, and one that failed stands. A
-- look or a flush beside the ops leaves all as it is, and a flush that was done leaves nothing pending. Where no op is
-- left and nothing is pending, the notes may tell of both last indexes; and nothing is pending once one is written. At
-- each moment a crash leaves a tree of the history that covers what was acknowledged by then.
pub record ClosesAreSafe {D : Type 0} (drive : Ghosts D) : Type 0 where
  pub begins : (planned : Planned) (space : Space) (v : View D) → IsSafe drive planned space v
      → waits_after v.events ≡ [] → IsClosing drive v planned v.ops v.drive × HasSpace v planned space
  pub indexed : (planned : Planned) (space : Space) (v : View D) (ops : List Op) (d : D) (rules : Rules) (on : Bool)
      (text : List ℕ) (e : CoveredIndex) → IsClosing drive v planned ops d → HasSpace v planned space
      → IsDue (volume_of planned.labels v) (trees_of v) planned.made space text e → 1 ≤ rules.block_size
      → IsClosing drive v (with_jobs (index_jobs rules space text e) planned)
      (ops ++ ops_of rules on space (index text)) d
      × HasSpace v (with_jobs (index_jobs rules space text e) planned) (with_index rules text space)
      × ((with_jobs (index_jobs rules space text e) planned).made.base.ahead ≡ None)
  pub closed : (planned : Planned) (space : Space) (v : View D) (ops : List Op) (d : D) (rules : Rules) (text : List ℕ)
      (on_ip : Index) → IsClosing drive v planned ops d → HasSpace v planned space
      → IsCloseDue (volume_of planned.labels v) (trees_of v) planned.made space text on_ip
      → planned.made.base.ahead ≡ None → 1 ≤ rules.block_size
      → IsClosing drive v (with_jobs (close_jobs rules space text) planned) (ops ++ close_ops rules space text) d
  pub done : (planned : Planned) (v : View D) (op : Op) (later : List Op) (end : StepDone) (old new : D)
      → IsClosing drive v planned (op ∷ later) old → IsOpStep drive op end old new → IsWell end
      → IsClosing drive v planned later new
  pub failed : (planned : Planned) (v : View D) (op : Op) (later : List Op) (counts : Twin) (old new : D)
      → IsClosing drive v planned (op ∷ later) old → IsOpStep drive op (outcome.Failed counts) old new
      → IsClosing drive v planned (op ∷ later) new
  pub looked : (planned : Planned) (v : View D) (ops : List Op) (old new : D) → IsClosing drive v planned ops old
      → drive.held new ≡ drive.held old
      → ((c : Cartridge) → drive.held old ≡ Some c → IsStep NothingNew (moment_of drive old c) (moment_of drive new c))
      → IsClosing drive v planned ops new
  pub settled : (place : Place) (old new : D) → IsOpStep drive (the_ops.Flush place) outcome.Flushed old new
      → IsAtRest drive new
  pub noted : (planned : Planned) (v : View D) (part : Part) (note : Note) (values : Coherency) (old new : D)
      (before now : Cartridge) → IsClosing drive v planned [] old → IsAtRest drive old
      → drive.held old ≡ Some before → drive.held new ≡ Some now
      → HasValues note values → values.vcr ≡ before.vcr → TellsOfLast before planned.labels.ip part values
      → IsStep (WithinNote part note) (moment_of drive old before) (moment_of drive new now)
      → (now ≡ before) ⊎ IsNoted part note before now → IsClosing drive v planned [] new
  pub rests : (part : Part) (note : Note) (old new : D) (before now : Cartridge) → IsAtRest drive old
      → drive.held old ≡ Some before → drive.held new ≡ Some now
      → IsStep (WithinNote part note) (moment_of drive old before) (moment_of drive new now)
      → IsNoted part note before now → IsSettled (Some now) (drive.leaves new) → IsAtRest drive new
  pub survives : (planned : Planned) (v : View D) (ops : List Op) (d : D) → IsClosing drive v planned ops d
      → SurvivesCrashes cartridges (carried v.fixed.mounted.index) (tree_after v) (length v.history) v.acks
      (seen_by drive d).leavings v.fixed.since

-- What was mounted is a valid index of the volume with these labels. What is held is what stands, on the tape that
-- there will be once all ops are done, in blocks behind the labels. Its index may be told, with a text of fewer than
-- 2^64 bytes. Then it is due on the index partition.
abbrev pub IndexesOfClosesAreDue : Type 0 → Type 0
IndexesOfClosesAreDue D = (planned : Planned) (limits : Limits) (v : View D) (on : Bool) (st : Standing) (s : Stocked)
    (at : Moment) → IsValid v.fixed.mounted.index → v.fixed.mounted.label ≡ planned.labels.ip
    → IsStock (tape_of (cartridge_of planned.made)) (given_by limits v) on st s
    → st.tree ≡ tree_after v (length v.history)
    → IsGood s.tree → BeginsBehindLabels s.tree → CanTellClose (given_by limits v) st
    → length (close_text (given_by limits v) st at) < 2 ^ 64
    → (on_ip : Index) × IsCloseDue (volume_of planned.labels v) (trees_of v) planned.made st.space
    (close_text (given_by limits v) st at) on_ip

-- Where all ops are done, and both partitions end where they were planned to, the cartridge stands for the tree of the
-- whole history, is consistent, tells the same on both partitions, and with its notes is coherent.
abbrev pub ClosedVolumesStand : {D : Type 0} → Ghosts D → Type 0
ClosedVolumesStand {D} drive = (planned : Planned) (space : Space) (rules : Rules) (text : List ℕ) (on_ip : Index)
    (v : View D) (d : D) (held : Cartridge)
    → IsClosing drive v (with_jobs (close_jobs rules space text) planned) [] d → HasSpace v planned space
    → IsCloseDue (volume_of planned.labels v) (trees_of v) planned.made space text on_ip
    → planned.made.base.ahead ≡ None → space.changed ≡ false → 1 ≤ rules.block_size
    → drive.held d ≡ Some held
    → held.ip ≡ (with_jobs (close_jobs rules space text) planned).made.ip
    → held.dp ≡ (with_jobs (close_jobs rules space text) planned).made.dp
    → StandsClosed (volume_of planned.labels v) (trees_of v) space held
