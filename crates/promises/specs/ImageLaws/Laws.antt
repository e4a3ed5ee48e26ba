-- What is kept over each event of a volume that is served, over any drive that tells its cartridge.
use Rattle.std.specs.Prelude.{ℕ, ◌+◌, ◌-◌, ◌^◌, ◌≤◌, ◌<◌, ◌≡◌, ◌⊎◌, true, false, List, [], ◌∷◌, ◌++◌, length, Option}
use Rattle.std.specs.Prelude.{Some, None}
use Rattle.tape_types.specs.declared.cartridges.Cartridge.{Cartridge}
use Rattle.tape_types.specs.declared.cartridges.Note.{Note}
use Rattle.tape_types.specs.declared.cartridges.Part.{Part}
use Rattle.coherency.specs.Notes.{HasValues}
use Rattle.coherency.specs.declared.Coherency.{Coherency}
use Rattle.plain_tree.specs.Tree.{Tree}
use Rattle.index_model.specs.declared.indexes.Index.{Index}
use Rattle.session_script.specs.declared.logs.Ack.{Ack}
use Rattle.tape_drive.specs.Commands.{IsNoted}
use Rattle.tape_drive.specs.Crashes.{IsSettled, NothingNew, WithinFlush, WithinNote}
use Rattle.tape_drive.specs.declared.drive.Drive.{Ghosts}
use Rattle.tape_layout.specs.Ops.{end_of}
use Rattle.cartridge_meaning.specs.Meaning.{Stands}
use Rattle.cartridge_meaning.specs.Notes.{TellsOfLast}
use Rattle.space_laws.specs.Space.{Rules, Space, with_data, with_index}
use Rattle.promises.specs.ImageLaws.Events.{IsDone, IsFailed, IsReached, Within}
use Rattle.promises.specs.ImageLaws.Fine.{GoesOn, IsFine, IsSame}
use Rattle.promises.specs.ImageLaws.Images.{IsGrounded, IsImage, MayWrite}
use Rattle.promises.specs.ImageLaws.Kept.{HasNothingPending, IsServed, IsStep, IsSureAfter, Kept, Moment, Serves, Wait}
use Rattle.promises.specs.ImageLaws.Left.{IsCloseDone, StandsClosed}
use Rattle.promises.specs.ImageLaws.Made.{Base, CoveredIndex, Job, Made, Trees, Volume, after, least, makes}
use Rattle.promises.specs.ImageLaws.Moments.{moment_of}
use Rattle.promises.specs.ImageLaws.Plans.{IsCloseDue, IsDue, close_jobs, data_jobs, index_jobs}
use Rattle.promises.specs.ImageLaws.Starts.{CanStart, IsFirstSpace, begun_with, made_of}

-- a volume that is served: its history, what was made on tape, the number of commands since which crashes are spoken
-- of, how many jobs are done, those that stand, the syncs that wait, and those that were acknowledged
pub record State : Type 0 where
  pub volume : Volume
  pub trees : Trees
  pub made : Made
  pub since : ℕ
  pub done : ℕ
  pub jobs : List Job
  pub waits : List Wait
  pub acks : List Ack

abbrev pub IsKept : {D : Type 0} → Ghosts D → State → D → Cartridge → Type 0
IsKept drive x d held = Kept x.volume x.trees x.made x.since (moment_of drive d held) x.done x.jobs x.waits x.acks

abbrev pub IsServing : {D : Type 0} → Ghosts D → State → Space → D → Cartridge → Type 0
IsServing drive x space d held =
    Serves x.volume x.trees x.made x.since (moment_of drive d held) x.done x.jobs x.waits x.acks space

-- with these jobs, and with more of them
abbrev pub with_jobs : List Job → State → State
with_jobs jobs x = record x { jobs = jobs }

abbrev pub with_more : List Job → State → State
with_more more x = record x { jobs = x.jobs ++ more }

-- the first of its jobs is done
abbrev pub with_done : Job → List Job → State → State
with_done job jobs x = record x { made = makes job x.made; done = x.done + 1; jobs = jobs }

abbrev pub with_trees : Trees → State → State
with_trees trees x = record x { trees = trees }

-- both partitions once all its jobs are done
abbrev pub all_made : State → Made
all_made x = after x.made x.jobs

-- a sync that is placed next, and waits for all jobs
abbrev pub next_wait : State → Wait
next_wait x = record { place = x.trees.count; due = x.done + length x.jobs }

-- What a crash may leave stands for a tree of the history, also of one that goes on.
pub record ImagesAreFine : Type 0 where
  pub fine : (v : Volume) (t : Trees) (plan : Cartridge) (b : Base) → IsGrounded v t plan b
      → (c : Cartridge) → IsImage v t plan b c → IsFine v t (least b) c
  pub weaker : (v : Volume) (t : Trees) (j k : ℕ) (c : Cartridge) → j ≤ k → IsFine v t k c → IsFine v t j c
  pub same : (v : Volume) (t : Trees) (k place : ℕ) (c : Cartridge)
      → IsSame t k place → place ≤ t.count → IsFine v t k c → IsFine v t place c
  pub longer : (v : Volume) (old new : Trees) → GoesOn old new
      → (k : ℕ) (c : Cartridge) → IsFine v old k c → IsFine v new k c

-- a volume of which nothing was asked yet
abbrev pub first_state : Volume → Cartridge → (since : ℕ) → Tree → Option Index → Index → State
first_state v c since tree on_ip on_dp = record {
  volume = v;
  trees = begun_with tree;
  made = made_of c on_ip on_dp;
  since = since;
  done = 0;
  jobs = [];
  waits = [];
  acks = [];
}

-- a volume that was mounted has an index on its data partition, is kept, and can be asked for more
pub record StartsAreKept {D : Type 0} (drive : Ghosts D) : Type 0 where
  pub serving : (v : Volume) (d : D) (c : Cartridge) (since : ℕ) (tree : Tree) (generation : ℕ)
      (can : CanStart v (moment_of drive d c) since tree generation)
      → (last : Index) × (can.stands.reads.found.on_dp ≡ Some last)
      × ((space : Space) → IsFirstSpace c generation space
      → IsServing drive (first_state v c since tree can.stands.reads.found.on_ip last) space d c)

-- A job that was done is one less; one that failed stands; a step that reads leaves all as it was; and a note that
-- tells of the last index of its partition may be written where nothing is pending, and nothing is pending once it
-- is.
pub record StepsKeep {D : Type 0} (drive : Ghosts D) : Type 0 where
  pub done : (x : State) (job : Job) (jobs : List Job) (old new : D) (before now : Cartridge)
      → IsKept drive (with_jobs (job ∷ jobs) x) old before → IsDone job.op before now
      → IsStep (Within job.op before) (moment_of drive old before) (moment_of drive new now)
      → IsSureAfter job.op (moment_of drive new now) → IsKept drive (with_done job jobs x) new now
  pub failed : (x : State) (job : Job) (jobs : List Job) (old new : D) (before now : Cartridge)
      → IsKept drive (with_jobs (job ∷ jobs) x) old before → IsFailed job.op before now
      → IsStep (Within job.op before) (moment_of drive old before) (moment_of drive new now)
      → IsKept drive (with_jobs (job ∷ jobs) x) new now
  pub read : (x : State) (old new : D) (c : Cartridge) → IsKept drive x old c
      → IsStep NothingNew (moment_of drive old c) (moment_of drive new c) → IsKept drive x new c
  pub flushed : (x : State) (old new : D) (c : Cartridge) → IsKept drive x old c
      → IsStep (WithinFlush c) (moment_of drive old c) (moment_of drive new c) → IsKept drive x new c
  pub noted : (x : State) (old new : D) (before now : Cartridge) (part : Part) (note : Note) (values : Coherency)
      → IsKept drive x old before → HasNothingPending (moment_of drive old before)
      → HasValues note values → values.vcr ≡ before.vcr → TellsOfLast before x.volume.labels.ip part values
      → IsStep (WithinNote part note) (moment_of drive old before) (moment_of drive new now)
      → (now ≡ before) ⊎ IsNoted part note before now → IsKept drive x new now
  pub sure : (old new : D) (before now : Cartridge) (part : Part) (note : Note)
      → HasNothingPending (moment_of drive old before)
      → IsStep (WithinNote part note) (moment_of drive old before) (moment_of drive new now)
      → IsNoted part note before now → IsSettled (Some now) (drive.leaves new)
      → HasNothingPending (moment_of drive new now)

-- What is admitted may be done: data at the end of a partition, an index of the whole history, and at a close the
-- index of the index partition, where no index there is ahead.
pub record AdmissionsKeep {D : Type 0} (drive : Ghosts D) : Type 0 where
  pub stored : (x : State) (space : Space) (d : D) (c : Cartridge) (rules : Rules) (part : Part) (bytes : List ℕ)
      → IsServing drive x space d c → MayWrite part (all_made x).base
      → IsServing drive (with_more (data_jobs rules part (end_of part space.ends) bytes) x)
      (with_data rules part bytes space) d c
  pub indexed : (x : State) (space : Space) (d : D) (c : Cartridge) (rules : Rules) (text : List ℕ) (e : CoveredIndex)
      → IsServing drive x space d c → IsDue x.volume x.trees (all_made x) space text e → 1 ≤ rules.block_size
      → IsServing drive (with_more (index_jobs rules space text e) x) (with_index rules text space) d c
  pub settled : (x : State) (space : Space) (d : D) (c : Cartridge) (rules : Rules) (text : List ℕ) (e : CoveredIndex)
      → IsServing drive x space d c → IsDue x.volume x.trees (all_made x) space text e → 1 ≤ rules.block_size
      → (all_made (with_more (index_jobs rules space text e) x)).base.ahead ≡ None
  pub closed : (x : State) (space : Space) (d : D) (c : Cartridge) (rules : Rules) (text : List ℕ) (index : Index)
      → IsServing drive x space d c → IsCloseDue x.volume x.trees (all_made x) space text index
      → (all_made x).base.ahead ≡ None → 1 ≤ rules.block_size
      → IsKept drive (with_more (close_jobs rules space text) x) d c

-- a sync waits for all jobs, its own index's among them; one that isn't preceded by a change needs no index
pub record SyncsAreHeld {D : Type 0} (drive : Ghosts D) : Type 0 where
  pub changed : (x : State) (space : Space) (d : D) (c : Cartridge) (rules : Rules) (text : List ℕ) (e : CoveredIndex)
      → IsServing drive x space d c → IsDue x.volume x.trees (all_made x) space text e → 1 ≤ rules.block_size
      → IsServed x.trees x.made x.done (x.jobs ++ index_jobs rules space text e)
      (next_wait (with_more (index_jobs rules space text e) x))
  pub unchanged : (x : State) (space : Space) (d : D) (c : Cartridge) → IsServing drive x space d c
      → space.changed ≡ false
      → IsServed x.trees x.made x.done x.jobs (next_wait x)

-- as the history goes on, all is kept
pub record HistoriesGoOn {D : Type 0} (drive : Ghosts D) : Type 0 where
  pub kept : (x : State) (trees : Trees) (d : D) (c : Cartridge) → GoesOn x.trees trees
      → IsKept drive x d c → IsKept drive (with_trees trees x) d c
  -- where the last placements leave the tree as it was, nothing is owed; else the space says that it changed
  pub still : (x : State) (space : Space) (trees : Trees) (d : D) (c : Cartridge) → GoesOn x.trees trees
      → ((j : ℕ) → x.trees.count ≤ j → j ≤ trees.count → trees.nth j ≡ trees.nth trees.count)
      → IsServing drive x space d c → IsServing drive (with_trees trees x) space d c
  pub changed : (x : State) (space : Space) (trees : Trees) (d : D) (c : Cartridge) → GoesOn x.trees trees
      → IsServing drive x space d c → IsServing drive (with_trees trees x) (record space { changed = true }) d c

-- Once all jobs of a close are done, and the partitions end where they were made to, the cartridge stands for the
-- tree of the whole history, is consistent, tells the same on both partitions, and with its notes is coherent.
pub record ClosesLeave {D : Type 0} (drive : Ghosts D) : Type 0 where
  pub closed : (x : State) (before : Made) (space : Space) (rules : Rules) (text : List ℕ) (index : Index) (d : D)
      (held : Cartridge)
      → IsKept drive (with_jobs [] x) d held → IsCloseDone x.volume x.trees before x.made space rules text index held
      → StandsClosed x.volume x.trees space held

-- The next op begins where the drive can go. And what is kept gives the promise: each cartridge that a crash may leave
-- now stands for what was flushed, or more; each that it may have left since the start stands for a prefix of the
-- history; each since an acknowledgement for one that it covers; and where what was flushed covers the history, the
-- cartridge stands for it.
pub record KeptGives {D : Type 0} (drive : Ghosts D) : Type 0 where
  pub next : (x : State) (job : Job) (jobs : List Job) (d : D) (held : Cartridge)
      → IsKept drive (with_jobs (job ∷ jobs) x) d held → IsReached job.op held
  pub now : (x : State) (d : D) (held c : Cartridge) → IsKept drive x d held → drive.leaves d c
      → IsFine x.volume x.trees (least x.made.base) c
  pub always : (x : State) (d : D) (held c : Cartridge) → IsKept drive x d held → drive.left_since d x.since c
      → IsFine x.volume x.trees 0 c
  pub op_may : (x : State) (job : Job) (jobs : List Job) (d : D) (held before c : Cartridge)
      → IsKept drive (with_jobs (job ∷ jobs) x) d held → drive.leaves d before → Within job.op held before c
      → IsFine x.volume x.trees (least x.made.base) c
  pub note_may : (x : State) (d : D) (held before c : Cartridge) (part : Part) (note : Note) (values : Coherency)
      → IsKept drive x d held → HasNothingPending (moment_of drive d held)
      → HasValues note values → values.vcr ≡ held.vcr → TellsOfLast held x.volume.labels.ip part values
      → drive.leaves d before → WithinNote part note before c → IsFine x.volume x.trees (least x.made.base) c
  pub since : (x : State) (front : List Ack) (a : Ack) (behind : List Ack) (d : D) (held c : Cartridge)
      → IsKept drive x d held → x.acks ≡ front ++ a ∷ behind → a.command < 2 ^ 64 - 1
      → drive.left_since d a.command c → IsFine x.volume x.trees a.place c
  pub synced : (x : State) (d : D) (held : Cartridge) → IsKept drive x d held
      → IsSame x.trees (least x.made.base) x.trees.count
      → (generation : ℕ) × Stands held x.volume.facts (x.trees.nth x.trees.count) generation
