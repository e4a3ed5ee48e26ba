-- How serving begins and ends: a start, a close, and a volume that is taken apart.
use Rattle.std.specs.Prelude.{◌≡◌, ◌⊎◌, ◌≤◌, ◌<◌, ◌^◌, ◌-◌, min, ℕ, Bool, true, List, [], map, length, Option, Some}
use Rattle.std.specs.Prelude.{None, IfSome}
use Rattle.std.specs.FinMap as fin
use Rattle.tape_types.specs.Counts.{IsRise}
use Rattle.tape_types.specs.declared.cartridges.Cartridge.{Cartridge}
use Rattle.tape_types.specs.declared.cartridges.Part.TheVariants.{Ip}
use Rattle.tape_types.specs.declared.moments.Moment.{Moment}
use Rattle.plain_tree.specs.Tree.{Tree}
use Rattle.plain_tree.specs.declared.calls.Placed.{Placed}
use Rattle.session_script.specs.declared.scripts.ScriptLine.{ScriptLine}
use Rattle.session_script.specs.declared.logs.Log.{Log}
use Rattle.head_queue.specs.EventLaws.Trail.{steps, travel}
use Rattle.cartridge_meaning.specs.Carried.{Carried, carried}
use Rattle.cartridge_meaning.specs.declared.mounted.Mounted.{Mounted}
use Rattle.space_laws.specs.Mount.{was_sealed, where_sealed}
use Rattle.space_laws.specs.Space.{is_over, need_of, limit_of, index_need}
use Rattle.space_laws.specs.Closing.{close_ask, close_text, closing, is_ip_due}
use Rattle.space_laws.specs.Standing.{Given, Standing, rules, is_on, standing}
use Rattle.promises.specs.ServingPromise.Crash.{Meaning, IsClosed, IsSound, SurvivesCrashes}
use Rattle.promises.specs.ServingPromise.Served.{CanTell, Drive, Fixed, View, given, tree_after}
use Rattle.promises.specs.declared.serving_promise.answers.CloseEnd.{CloseEnd}
use Rattle.promises.specs.declared.serving_promise.answers.CloseEnd.TheVariants as ends

-- ---- start

-- a volume of which nothing was asked yet
abbrev pub begun : {D : Type 0} → Fixed D → Option Moment → View D
begun fixed next = record {
  fixed = fixed;
  drive = fixed.first;
  next = next;
  history = [];
  replies = [];
  acks = [];
  events = [];
  marks = [];
  kept = [];
  on = None;
  ops = [];
  cached = [];
}

-- A volume begins with this script, mount and drive, and with the moments that its clock tells. Its tree is the one
-- as which the cartridge reads, where the drive tells.
pub record Starts {D : Type 0} (m : Meaning) (seen : Drive) (mounted : Mounted) (drive : D)
    (script : List ScriptLine) (since : ℕ) (next moment : Option Moment) (v : View D) : Type 0 where
  pub tree : Tree
  pub reads_as : IfSome seen.held (λ c. m.Reads c (carried mounted.index) tree mounted.newest)
  pub begins : v
      ≡ begun (record
      { script = script; tree = tree; mounted = mounted; first = drive; moment = moment; since = since }) next

-- ---- logs

-- the log of a volume in which nothing waits: all its replies are there
pub record IsLogOf {D : Type 0} (v : View D) (log : Log) : Type 0 where
  pub history : log.history ≡ v.history
  pub replies : map Some log.replies ≡ v.replies
  pub acks : log.acks ≡ v.acks
  pub events : log.events ≡ v.events

-- a count, or the greatest number of 64 bits where it is greater
abbrev pub bounded : ℕ → ℕ
bounded n = min n (2 ^ 64 - 1)

-- ---- close

-- there is too little space on the data partition for the close's index, which is due there
pub record IsDpShort (g : Given) (on : Bool) (st : Standing) (at : Moment) (need limit : ℕ) : Type 0 where
  pub over : is_over (rules g) on st.space (close_ask g st at) ≡ true
  pub need_is : need ≡ need_of (rules g) on st.space (close_ask g st at)
  pub limit_is : limit ≡ limit_of (rules g) on st.space (close_ask g st at)

-- there is too little space on the index partition for the close's index, once that of the data partition was admitted
pub record IsIpShort (g : Given) (st : Standing) (at : Moment) (need limit : ℕ) : Type 0 where
  pub due : is_ip_due g st.space ≡ true
  pub over : limit < need
  pub need_is : need ≡ index_need (rules g) Ip st.space (close_text g st at)
  pub limit_is : limit ≡ g.limits.cap_ip

-- the data partition is short, by whatever numbers
abbrev pub IsShortOnDp : Given → Option ℕ → List Placed → Moment → Type 0
IsShortOnDp g on history at =
    (need limit : ℕ)
    × IsDpShort g (is_on g.mounted on (length history)) (standing g on history (length history)) at need limit

-- what a close at a moment needs and what there is, where there is too little
abbrev pub IsCloseShort : Given → Option ℕ → List Placed → Moment → ℕ → ℕ → Type 0
IsCloseShort g on history at need limit =
    IsDpShort g (is_on g.mounted on (length history)) (standing g on history (length history)) at need limit
    ⊎ (¬ IsShortOnDp g on history at × IsIpShort g (closing g on history at) at need limit)

-- no index was written, since none was due, and the partitions told two things at the start
abbrev pub IsLeftApart : Meaning → Drive → Mounted → Tree → ℕ → Type 0
IsLeftApart m first mounted tree generation =
    (mounted.ip_done ≡ true) × (generation ≡ mounted.newest)
    × IfSome first.held (λ c. ¬ m.AreAlike c (carried mounted.index) tree mounted.newest)

-- A close is done with the newest generation that the history and the close itself admit. The cartridge is closed for
-- the tree, sound where it was at the start, and tells the same on both partitions but where they were left apart.
pub record IsDoneClose (m : Meaning) (first now : Drive) (mounted : Mounted) (before tree : Tree)
    (newest generation : ℕ) : Type 0 where
  pub generation_is : generation ≡ newest
  pub held : Cartridge
  pub told : now.held ≡ Some held
  pub closed : IsClosed m (carried mounted.index) tree generation held now.leavings
  pub sound : IfSome first.held (λ c. IsSound m c) → IsSound m held
  pub alike : m.AreAlike held (carried mounted.index) tree generation ⊎ IsLeftApart m first mounted before generation

-- The cartridge stands for this tree, in some generation, and so does whatever a crash leaves of it.
pub record LeavesTree (m : Meaning) (facts : Carried) (tree : Tree) (now : Drive) : Type 0 where
  pub held : Cartridge
  pub told : now.held ≡ Some held
  pub generation : ℕ
  pub stands : m.Stands held facts tree generation
  pub left : (image : Cartridge) → now.leavings.now image → (other : ℕ) × m.Stands image facts tree other

-- A close of a volume that was mounted as sealed is done with the generation that was mounted, and has left the
-- cartridge as it was at the start.
pub record IsSealedClose (first now : Drive) (mounted : Mounted) (generation : ℕ) : Type 0 where
  pub generation_is : generation ≡ mounted.newest
  pub held : now.held ≡ first.held
  pub sure : (image : Cartridge) → now.leavings.now image → now.held ≡ Some image

-- so it ends, whatever stands on the tape, without a command
abbrev pub IsSealedEnd : {D : Type 0} → Meaning → Drive → Drive → View D → D → CloseEnd → Type 0
IsSealedEnd m first now v drive (ends.Done generation) =
    (drive ≡ v.drive)
    × (CanTell (λ c. m.Reads c (carried v.fixed.mounted.index) v.fixed.tree v.fixed.mounted.newest) v.fixed.since first
    → IsSealedClose first now v.fixed.mounted generation)
IsSealedEnd m first now v drive _ = ⊥

-- How a close at a moment ends of another volume: it had the space, it is done, and the cartridge is closed; it had
-- too little, and made no command where the data partition is short, and holds the tree of the whole history where the
-- index partition alone is; or a command failed. Want of memory leaves the drive as it was.
abbrev pub IsOpenEnd : {D : Type 0} → Meaning → Drive → Drive → Drive → View D → D → Moment → CloseEnd → Type 0
IsOpenEnd m first before now v drive at (ends.Done generation) =
    ((need limit : ℕ) → ¬ IsCloseShort (given v first) v.on v.history at need limit)
    × (CanTell (λ c. m.Reads c (carried v.fixed.mounted.index) v.fixed.tree v.fixed.mounted.newest) v.fixed.since first
    → IsDoneClose m first now v.fixed.mounted v.fixed.tree (tree_after v (length v.history))
    (closing (given v first) v.on v.history at).space.newest generation)
IsOpenEnd m first before now v drive at (ends.Full need limit) =
    IsCloseShort (given v first) v.on v.history at need limit
    × (IsShortOnDp (given v first) v.on v.history at → drive ≡ v.drive)
    × (CanTell (λ c. m.Stands c (carried v.fixed.mounted.index) v.fixed.tree v.fixed.mounted.newest × IsSound m c)
    v.fixed.since first → ¬ IsShortOnDp (given v first) v.on v.history at
    → LeavesTree m (carried v.fixed.mounted.index) (tree_after v (length v.history)) now)
IsOpenEnd m first before now v drive at (ends.Fault counts) = IsRise before.faults now.faults counts.before counts.after
IsOpenEnd m first before now v drive at ends.NoMemory = drive ≡ v.drive

-- how a close at a moment ends
abbrev pub IsEnd : {D : Type 0} → Meaning → Drive → Drive → Drive → View D → D → Moment → CloseEnd → Type 0
IsEnd m first before now v drive at outcome = where_sealed (was_sealed v.fixed.mounted.index)
    (IsSealedEnd m first now v drive outcome) (IsOpenEnd m first before now v drive at outcome)

-- a close that is done tells how many nodes the tree has
abbrev pub TellsNodes : CloseEnd → Tree → ℕ → Type 0
TellsNodes (ends.Done generation) tree nodes = nodes ≡ fin.len tree.nodes
TellsNodes _ tree nodes = Unit {0}

-- A close of a volume in which nothing waits gives the drive back with the log, and what its head steps have cost.
pub record Closes {D : Type 0} (m : Meaning) (first before now : Drive) (v : View D) (drive : D) (log : Log)
    (outcome : CloseEnd) (step_count travel_sum nodes : ℕ) : Type 0 where
  pub log_is : IsLogOf v log
  pub steps_are : step_count ≡ bounded (steps v.events)
  pub travel_is : travel_sum ≡ bounded (travel v.events)
  pub nodes_are : CanTell
      (λ c. m.Reads c (carried v.fixed.mounted.index) v.fixed.tree v.fixed.mounted.newest) v.fixed.since first
      → TellsNodes outcome (tree_after v (length v.history)) nodes
  pub at : Moment
  pub moment : IfSome v.next (λ next. at ≡ next)
  pub end : IsEnd m first before now v drive at outcome
  pub later : before.commands ≤ now.commands
  pub faults : before.faults ≤ now.faults
  pub limits : now.limits ≡ first.limits
  pub untold : first.held ≡ None → now.held ≡ None
  pub crash : CanTell
      (λ c. m.Stands c (carried v.fixed.mounted.index) v.fixed.tree v.fixed.mounted.newest × IsSound m c)
      v.fixed.since first
      → SurvivesCrashes m (carried v.fixed.mounted.index) (tree_after v)
      (length v.history) v.acks now.leavings v.fixed.since

-- ---- parts

-- a volume in which nothing was placed is taken apart: the drive is as it was given
pub record Parts {D : Type 0} (v : View D) (drive : D) : Type 0 where
  pub as_it_was : drive ≡ v.fixed.first

-- a volume in which nothing waits is left as it stands: its drive and its log
pub record Leaves {D : Type 0} (v : View D) (drive : D) (log : Log) : Type 0 where
  pub drive_is : drive ≡ v.drive
  pub log_is : IsLogOf v log
