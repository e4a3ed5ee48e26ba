-- What a crash leaves of a run over a drive in memory, in words of that drive's record alone.
use Rattle.std.specs.Prelude.{ℕ, ◌≡◌, ◌≤◌, ◌<◌, ◌-◌, ◌^◌, nat_le, nat_lt, Contains, List, filter, length, Option, Some}
use Rattle.tape_types.specs.declared.cartridges.Cartridge.{Cartridge}
use Rattle.tape_types.specs.declared.cartridges.Limits.{Limits}
use Rattle.tape_types.specs.declared.moments.Moment.{Moment}
use Rattle.plain_tree.specs.Tree.{Tree}
use Rattle.session_script.specs.declared.logs.Ack.{Ack}
use Rattle.session_script.specs.declared.logs.Log.{Log}
use Rattle.session_script.specs.declared.scripts.ScriptLine.{ScriptLine}
use Rattle.tape_drive.specs.Images.{crash_image, moments}
use Rattle.tape_drive.specs.Memory.{View, made}
use Rattle.tape_drive.specs.Record.{LeftSince, Leaves}
use Rattle.tape_drive.specs.Since.{GaveSince}
use Rattle.tape_drive.specs.declared.crash.Cut.{Cut}
use Rattle.tape_drive.specs.declared.drive.Drive.{Ghosts}
use Rattle.tape_drive.specs.declared.schedule.Fail.{Fail}
use Rattle.cartridge_meaning.specs.Carried.{Carried}
use Rattle.cartridge_meaning.specs.Meaning.{Stands}
use Rattle.promises.specs.ServingPromise.Crash.{IsSound}
use Rattle.promises.specs.ServingPromise.Headline.{IsServeRun, tree_of_log}
use Rattle.promises.specs.ServingPromise.Meanings.{cartridges}
use Rattle.promises.specs.ServingPromise.Served.{Drive}
use Rattle.promises.specs.OrderLaws.Kept.{seen}

-- what contracts see of a drive in memory
abbrev pub in_memory : View → Drive
in_memory v = record {
  held = Some v.held;
  head = v.head;
  limits = v.limits;
  commands = v.commands;
  faults = v.faults;
  leavings = record { now = Leaves v.held v.acts; since = LeftSince v.commands v.held v.acts };
}

-- Its cartridge stands for the tree and is sound, and nothing is pending: a crash from now on leaves the cartridge as
-- it reads.
pub record IsReady (facts : Carried) (tree : Tree) (generation : ℕ) (v : View) : Type 0 where
  pub stands : Stands v.held facts tree generation
  pub sound : IsSound cartridges v.held
  pub sure : (image : Cartridge) → GaveSince v.held v.acts v.commands image → image ≡ v.held

-- the acknowledgements that were given by the time of a number of commands
abbrev pub acked_by : ℕ → List Ack → List Ack
acked_by count acks = filter (λ a. nat_le a.command count) acks

-- the acknowledgements that were given while the number of commands could still rise
abbrev pub acked_in_count : List Ack → List Ack
acked_in_count acks = filter (λ a. nat_lt a.command (2 ^ 64 - 1)) acks

-- An image stands for the tree after some first placements of the log, with all that were placed before any of these
-- syncs among them, and is sound.
pub record HoldsAcked (facts : Carried) (script : List ScriptLine) (tree : Tree) (log : Log) (acks : List Ack)
    (image : Cartridge) : Type 0 where
  pub count : ℕ
  pub within : count ≤ length log.history
  pub acked : (ack : Ack) → Contains acks ack → ack.place ≤ count
  pub generation : ℕ
  pub stands : Stands image facts (tree_of_log script tree log count) generation
  pub sound : IsSound cartridges image

-- What holds of a crash now, by the cuts that `crash` takes, and of one that came at any moment of the run, once the
-- drive's commands had reached a number.
pub record Survives (facts : Carried) (script : List ScriptLine) (tree : Tree) (first now : View) (log : Log)
    : Type 0 where
  pub at_end : now.commands < 2 ^ 64 - 1 → (ip dp : Cut) → ip.moment < moments now.acts → dp.moment < moments now.acts
      → HoldsAcked facts script tree log log.acks (crash_image now.held now.acts ip dp)
  pub at_any : (count : ℕ) → first.commands ≤ count → count < 2 ^ 64 - 1 → (image : Cartridge)
      → GaveSince now.held now.acts count image
      → HoldsAcked facts script tree log (acked_by count log.acks) image

-- A run that ended with this drive, and had begun with one that was ready, survives crashes.
abbrev pub RunSurvives : View → Type 0
RunSurvives now = (script : List ScriptLine) (at : Option Moment) (first : View) (log : Log)
    (facts : Carried) (tree : Tree) (generation : ℕ)
    → IsServeRun cartridges script at (in_memory first) (in_memory now) log → IsReady facts tree generation first
    → Survives facts script tree first now log

-- A drive that has had no command is ready where its cartridge stands for a tree and is sound.
abbrev pub NewDrivesAreReady : Type 0
NewDrivesAreReady = (held : Cartridge) (limits : Limits) (fails : List Fail) (facts : Carried) (tree : Tree)
    (generation : ℕ) → Stands held facts tree generation → IsSound cartridges held
    → IsReady facts tree generation (made held limits fails)

-- What is promised of a run by what this trait tells of a drive is promised of it by the drive's record.
abbrev pub RunsAreInMemory : Ghosts View → Type 0
RunsAreInMemory drive = (script : List ScriptLine) (at : Option Moment) (first now : View) (log : Log)
    → IsServeRun cartridges script at (seen drive first) (seen drive now) log
    → IsServeRun cartridges script at (in_memory first) (in_memory now) log
