-- A volume that is being closed, as far as crashes go.
use Rattle.std.specs.Prelude.{ℕ, ◌≡◌, ◌≢◌, ◌+◌, ◌<◌, ◌≤◌, ◌^◌, List, [], map, Some, IfSome}
use Rattle.tape_types.specs.declared.cartridges.Cartridge.{Cartridge}
use Rattle.tape_types.specs.declared.moments.Moment.{Moment}
use Rattle.tape_types.specs.declared.cartridges.Part.TheVariants.{Ip}
use Rattle.tape_drive.specs.declared.drive.Drive.{Ghosts}
use Rattle.tape_layout.specs.declared.ops.Op.{Op}
use Rattle.index_model.specs.declared.indexes.Index.{Index}
use Rattle.file_tree.specs.Carried.{AreFitFacts, carried_of}
use Rattle.file_tree.specs.Indexes.{AreLetters}
use Rattle.space_laws.specs.Files.{index_at, letters}
use Rattle.space_laws.specs.Space.{Space}
use Rattle.space_laws.specs.Standing.{Given, Standing}
use Rattle.promises.specs.ImageLaws.Kept.{HasNothingPending}
use Rattle.promises.specs.ImageLaws.Laws.{IsKept, State}
use Rattle.promises.specs.ImageLaws.Made.{Job, Made, after}
use Rattle.promises.specs.ImageLaws.Moments.{moment_of}
use Rattle.promises.specs.ImageLaws.Plans.{IsPlanned}
use Rattle.promises.specs.ServingPromise.Served.{View}
use Rattle.promises.specs.CrashLaws.Safe.{Planned, state_of, trees_of}

-- the state of a volume, with its history and its acknowledgements as they stood when nothing waited any more, and with
-- so many jobs done since.
abbrev pub state_at : {D : Type 0} → View D → Planned → Made → ℕ → List Job → State
state_at v planned made done jobs = record (state_of planned.labels v made jobs) { done = done; waits = [] }

-- These ops are left, up to what is planned of both partitions. Each cartridge that a crash may leave stands for a tree
-- of the history, and for one that covers what was acknowledged by then.
pub record IsClosing {D : Type 0} (drive : Ghosts D) (v : View D) (planned : Planned) (ops : List Op) (d : D)
    : Type 0 where
  pub made : Made
  pub jobs : List Job
  pub done : ℕ
  pub held : Cartridge
  pub told : drive.held d ≡ Some held
  pub ops_are : map (λ (job : Job). job.op) jobs ≡ ops
  pub plan : after made jobs ≡ planned.made
  pub kept : IsKept drive (state_at v planned made done jobs) d held

-- The space is what is planned leaves, so that an index may be admitted.
abbrev pub HasSpace : {D : Type 0} → View D → Planned → Space → Type 0
HasSpace v planned space = IsPlanned (trees_of v) planned.made space

-- a crash leaves just the cartridge that the drive tells
abbrev pub IsAtRest : {D : Type 0} → Ghosts D → D → Type 0
IsAtRest drive d = (held : Cartridge) → drive.held d ≡ Some held → HasNothingPending (moment_of drive d held)

-- the index that a close writes on the index partition: it has the generation of what stands
abbrev pub index_of_close : Given → Standing → Moment → Index
index_of_close g st at =
    index_at g.mounted st.tree st.files st.space.newest at Ip (st.space.ends.ip + 1) st.space.last_dp

-- the generation is that of an index, and the last index of the data partition is near
pub record IsNear (space : Space) : Type 0 where
  pub least : 1 ≤ space.newest
  pub most : space.newest ≤ 2 ^ 62
  pub back : IfSome space.last_dp (λ block. block ≤ 2 ^ 62)

-- The volume has two letters, a UUID of its range, and carried facts as they may be, and all places are near. So the
-- index of a close can be told, which takes no new generation.
pub record CanTellClose (g : Given) (st : Standing) : Type 0 where
  pub letters_are : AreLetters (letters g.mounted)
  pub differ : (letters g.mounted).0 ≢ (letters g.mounted).1
  pub uuid : g.mounted.label.uuid < 2 ^ 128
  pub facts : AreFitFacts (carried_of g.mounted.index)
  pub near : IsNear st.space
  pub on_ip : st.space.ends.ip + 1 ≤ 2 ^ 62
  pub on_dp : st.space.ends.dp + 1 ≤ 2 ^ 62
