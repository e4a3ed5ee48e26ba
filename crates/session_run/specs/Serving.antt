-- What serving the cartridge in a drive promises, by whether there is a log and by how it ended.
use Rattle.std.specs.Prelude.{◌≡◌, ◌≤◌, ℕ, ◌+◌, ◌*◌, List, ◌++◌, length, reverse, Option, Some, None, IfSome}
use Rattle.std.specs.Prelude.{codes, decimal}
use Rattle.std.specs.FinMap as fin
use Rattle.tape_types.specs.declared.cartridges.Cartridge.{Cartridge}
use Rattle.tape_types.specs.declared.moments.Moment.{Moment}
use Rattle.plain_tree.specs.Tree.{Tree}
use Rattle.session_script.specs.declared.logs.Log.{Log}
use Rattle.session_script.specs.declared.scripts.ScriptLine.{ScriptLine}
use Rattle.head_queue.specs.EventLaws.Trail.{steps, travel}
use Rattle.tape_drive.specs.Looks.{Looks}
use Rattle.tape_drive.specs.declared.drive.Drive.{Ghosts}
use Rattle.mount_recover.specs.Known.{mount_most}
use Rattle.mount_recover.specs.Labels.{AreCounts}
use Rattle.cartridge_meaning.specs.Carried.{Carried, carried}
use Rattle.cartridge_meaning.specs.Faults.{MountFault}
use Rattle.cartridge_meaning.specs.Labels.{HasLabels}
use Rattle.cartridge_meaning.specs.Meaning.{Reads, ip_end}
use Rattle.cartridge_meaning.specs.Mounts.{Mounts}
use Rattle.cartridge_meaning.specs.Pointers.{indexes_of}
use Rattle.cartridge_meaning.specs.declared.errors.MountErr.{MountErr}
use Rattle.cartridge_meaning.specs.declared.errors.MountErr.TheVariants as errors
use Rattle.cartridge_meaning.specs.declared.labels.Labels.{Labels}
use Rattle.cartridge_meaning.specs.declared.mounted.Mounted.{Mounted}
use Rattle.promises.specs.ServingPromise.Ends.{bounded}
use Rattle.promises.specs.ServingPromise.Headline.{Closed, Failed, IsEndOf, IsOn, Short, tree_of_log}
use Rattle.promises.specs.ServingPromise.Meanings.{cartridges}
use Rattle.promises.specs.ServingPromise.Served.{CanTell, Fixed, given_of}
use Rattle.promises.specs.declared.serving_promise.answers.CloseEnd.{CloseEnd}
use Rattle.promises.specs.declared.serving_promise.answers.CloseEnd.TheVariants as closes
use Rattle.promises.specs.OrderLaws.Kept.{seen}
use Rattle.volume_state.specs.ClosingLaws.Owned.{HasOwn, all_places}
use Rattle.run_laws.specs.Went.{IsRunBy}
use Rattle.commands.specs.BasicCommands.Formats.{full_text}
use Rattle.commands.specs.BasicCommands.Labels.{mount_status, mount_text}
use Rattle.session_run.specs.declared.ends.ServeEnd.{ServeEnd}
use Rattle.session_run.specs.declared.ends.ServeEnd.TheVariants as ends
use Rattle.session_run.specs.declared.ends.Served.{Served}

-- ---- the line of an end

-- `closed GENERATION STEPS TRAVEL`, or the line of the fault, or that memory was refused
abbrev pub end_line : ServeEnd → List ℕ
end_line (ends.Done generation steps travel nodes) = codes "closed "
    ++ (decimal generation
    ++ (codes " " ++ (decimal steps ++ (codes " " ++ (decimal travel ++ codes "\n")))))
end_line (ends.Volume error) = mount_text error
end_line (ends.Drive counts) = mount_text (errors.Drive counts)
end_line (ends.Full need limit) = full_text need limit
end_line ends.NoMemory = codes "memory\n"

-- ---- no call was made

-- the cartridge reads as some tree, where the drive told it
abbrev pub HoldsTree : Option Cartridge → Type 0
HoldsTree held = IfSome held (λ c. (facts : Carried) × (tree : Tree) × (generation : ℕ) × Reads c facts tree generation)

-- the drive was only looked at, to mount its cartridge
pub record IsLookedAt {D : Type 0} (drive : Ghosts D) (start now : D) : Type 0 where
  pub looks : Looks drive (mount_most (drive.limits start) * drive.MOST)
      start now
  pub faults : drive.faults start ≤ drive.faults now

-- This check of the cartridge is the first that fails, where it was told; the drive failed, by its counts of faults
-- before and now; or memory was refused.
abbrev pub IsUnserved : Option Cartridge → (before now : ℕ) → ServeEnd → Type 0
IsUnserved held before now (ends.Volume error) = (mount_status error ≡ 3) × IfSome held (λ c. MountFault c error)
IsUnserved held before now (ends.Drive counts) = AreCounts before now (errors.Drive counts)
IsUnserved held before now ends.NoMemory = Unit {0}
IsUnserved held before now end = ⊥

-- ---- all calls were made

module _ {D : Type 0} (drive : Ghosts D) (start now : D) (at : Option Moment) (script : List ScriptLine) (log : Log) where
  -- The top of the data partition are the run's own indexes, the newest first, in the order in which the history and
  -- the close admit them, over those that stood there at the start. Each is a link of the chain, with the tree of its
  -- place, and their generations go up by one from that of the mount.
  pub record HasOwnOnTop (tree : Tree) (mounted : Mounted) (first : Cartridge) : Type 0 where
    pub on : Option ℕ
    pub on_is : IsOn (given_of script tree mounted (seen drive start)) log.events log.history on
    pub held : Cartridge
    pub told : drive.held now ≡ Some held
    pub labels : Labels
    pub has_labels : HasLabels held labels
    pub label_is : mounted.label ≡ labels.ip
    pub has : HasOwn mounted.label (ip_end held) held mounted.newest (tree_of_log script tree log)
        (indexes_of first.dp) (reverse (all_places (given_of script tree mounted (seen drive start)) on log.history))

  -- The volume was closed, with this generation. So many steps of the head were made, over so many positions; and so
  -- many nodes has the tree of the whole history, and the run's own indexes are the top of the data partition, where
  -- the cartridge read as a tree.
  pub record IsClosed (generation step_count travel_sum nodes : ℕ) : Type 0 where
    pub closed : IsEndOf cartridges script (seen drive start) (seen drive now) log (Closed generation)
    pub steps_are : step_count ≡ bounded (steps log.events)
    pub travel_is : travel_sum ≡ bounded (travel log.events)
    pub nodes_are : (tree : Tree) (mounted : Mounted)
        → CanTell (λ c. Reads c (carried mounted.index) tree mounted.newest × Mounts c mounted) (drive.commands start)
        (seen drive start)
        → nodes ≡ fin.len (tree_of_log script tree log (length log.history)).nodes
    pub own : (tree : Tree) (mounted : Mounted) (first : Cartridge)
        → CanTell (λ c. Reads c (carried mounted.index) tree mounted.newest × Mounts c mounted) (drive.commands start)
        (seen drive start)
        → drive.held start ≡ Some first → HasOwnOnTop tree mounted first

  -- that, or the close was short of space by these numbers, or a command of it failed, by these counts; without memory
  -- nothing is promised of the end
  abbrev pub EndsSo : ServeEnd → Type 0
  EndsSo (ends.Done generation step_count travel_sum nodes) = IsClosed generation step_count travel_sum nodes
  EndsSo (ends.Full need limit) =
      IsEndOf cartridges script (seen drive start) (seen drive now) log (Short need limit)
  EndsSo (ends.Drive counts) = IsEndOf cartridges script (seen drive start) (seen drive now) log (Failed counts)
  EndsSo ends.NoMemory = Unit {0}
  EndsSo (ends.Volume error) = ⊥

  -- The log is that of a run of the script, and it ended so. Whatever comes of it: faults are never fewer, the limits
  -- stay, and a drive that doesn't tell doesn't begin to.
  pub record IsServedSo (end : ServeEnd) : Type 0 where
    pub run : IsRunBy drive script at start now log
    pub ends : EndsSo end
    pub mounted : HoldsTree (drive.held start)
    pub faults : drive.faults start ≤ drive.faults now
    pub limits : drive.limits now ≡ drive.limits start
    pub untold : drive.held start ≡ None → drive.held now ≡ None

-- ---- the whole

abbrev pub IsWhole : {D : Type 0} → Ghosts D → (start now : D) → Option Moment → List ScriptLine → Option Log → ServeEnd
    → Type 0
IsWhole drive start now at script None end =
    IsLookedAt drive start now × IsUnserved (drive.held start) (drive.faults start) (drive.faults now) end
IsWhole drive start now at script (Some log) end = IsServedSo drive start now at script log end

-- What is promised of a drive as it was handed in, of the one moment of its clock, where it has one, and of a script.
-- Without a log no call was made, and the drive was only looked at.
abbrev pub Whole : {D K : Type 0} → Ghosts D → (start : D) → Option Moment → List ScriptLine → Served D K → Type 0
Whole drive start at script served = IsWhole drive start served.drive at script served.log served.end

-- ---- on the way

-- how serving ends where the cartridge was not mounted
abbrev pub mount_end : MountErr → ServeEnd
mount_end (errors.Drive counts) = ends.Drive counts
mount_end errors.NoMemory = ends.NoMemory
mount_end error = ends.Volume error

-- and where the volume was closed
abbrev pub closed_end : CloseEnd → (step_count travel_sum nodes : ℕ) → ServeEnd
closed_end (closes.Done generation) step_count travel_sum nodes = ends.Done generation step_count travel_sum nodes
closed_end (closes.Full need limit) step_count travel_sum nodes = ends.Full need limit
closed_end (closes.Fault counts) step_count travel_sum nodes = ends.Drive counts
closed_end closes.NoMemory step_count travel_sum nodes = ends.NoMemory

-- a volume was begun on a drive that was only looked at, with what it mounted of the cartridge
pub record IsBegun {D : Type 0} (drive : Ghosts D) (start : D) (fixed : Fixed D) : Type 0 where
  pub looked : IsLookedAt drive start fixed.first
  pub since : fixed.since ≡ drive.commands start
  pub mounted : (c : Cartridge) → drive.held fixed.first ≡ Some c → Mounts c fixed.mounted
      × Reads c (carried fixed.mounted.index) fixed.tree fixed.mounted.newest
