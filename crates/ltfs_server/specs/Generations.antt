-- The generations that a run leaves: its own indexes are the top of the chain, each with the tree of its place.
use Rattle.std.specs.Prelude.{ℕ, ◌≡◌, ◌≢◌, ◌+◌, List, [], ◌∷◌, ◌++◌, Contains, length, take, Option, Some, None}
use Rattle.tape_types.specs.declared.cartridges.Cartridge.{Cartridge}
use Rattle.tape_types.specs.declared.moments.Moment.{Moment}
use Rattle.plain_tree.specs.History.{call_at}
use Rattle.plain_tree.specs.Tree.{Tree}
use Rattle.plain_tree.specs.declared.calls.Call.TheVariants.{Sync}
use Rattle.plain_tree.specs.declared.calls.Fate.TheVariants as fates
use Rattle.plain_tree.specs.declared.calls.Placed.{Placed}
use Rattle.index_model.specs.declared.indexes.Index.{Index}
use Rattle.session_script.specs.declared.logs.Ack.{Ack}
use Rattle.session_script.specs.declared.logs.Log.{Log}
use Rattle.session_script.specs.declared.scripts.ScriptLine.{ScriptLine}
use Rattle.tape_drive.specs.declared.drive.Drive.{Ghosts}
use Rattle.cartridge_meaning.specs.Carried.{carried}
use Rattle.cartridge_meaning.specs.Meaning.{Found, Reads}
use Rattle.cartridge_meaning.specs.Mounts.{Mounts}
use Rattle.cartridge_meaning.specs.Pointers.{indexes_of}
use Rattle.cartridge_meaning.specs.declared.mounted.Mounted.{Mounted}
use Rattle.space_laws.specs.Standing.{Given, standing}
use Rattle.promises.specs.ServingPromise.Headline.{Closed, IsOn, tree_of_log}
use Rattle.promises.specs.ServingPromise.Served.{CanTell, given_of}
use Rattle.promises.specs.OrderLaws.Kept.{seen}
use Rattle.volume_state.specs.ClosingLaws.Owned.{all_places, own_places}
use Rattle.generation_view.specs.Chain.{AreLinks, GenTree, behind}
use Rattle.ltfs_server.specs.Serving.{EndsRun}

-- The indexes that the history and then the close admit, in this order, are the top of the chain of the cartridge, over
-- the indexes that stood there before the run. The generation of each is one above that of the one before it, the first
-- one's one above the generation that was mounted; and its tree is the tree at the place where it was admitted.
pub record LeavesGenerations (script : List ScriptLine) (tree : Tree) (mounted : Mounted) (g : Given)
    (on : Option ℕ) (first held : Cartridge) (log : Log) : Type 0 where
  pub found : Found held
  pub own : List Index
  pub links : AreLinks found.labels.ip held None (indexes_of held.dp) own
  pub older : behind (indexes_of held.dp) own ≡ indexes_of first.dp
  pub count : length own ≡ length (all_places g on log.history)
  pub trees : (front : List ℕ) (place : ℕ) (rest : List ℕ) → all_places g on log.history ≡ front ++ place ∷ rest
      → GenTree held found (mounted.newest + length front + 1) (tree_of_log script tree log place)
  -- behind each sync that is done, whether it was acknowledged or told of a fault, at or before which an index was
  -- admitted, the newest generation is that of the tree that the sync covers
  pub synced : (front : List Placed) (p : Placed) (rest : List Placed) → log.history ≡ front ++ p ∷ rest
      → p.fate ≡ fates.Done → call_at g.calls p ≡ Some Sync → own_places g on (front ++ p ∷ []) ≢ []
      → GenTree held found (standing g on log.history (length front + 1)).space.newest
      (tree_of_log script tree log (length front))
  -- so behind each sync that was acknowledged
  pub acknowledged : (ack : Ack) → Contains log.acks ack → own_places g on (take (ack.place + 1) log.history) ≢ []
      → GenTree held found (standing g on log.history (ack.place + 1)).space.newest
      (tree_of_log script tree log ack.place)

-- So each run leaves it that was closed, and that had begun with a drive that told a cartridge which read as a tree,
-- with nothing pending.
abbrev pub RunsLeaveGenerations : {D : Type 0} → Ghosts D → Type 0
RunsLeaveGenerations {D} drive = (old new : D) (moment : Option Moment) (script : List ScriptLine) (log : Log)
    (generation : ℕ) (tree : Tree) (mounted : Mounted) (first : Cartridge)
    → EndsRun drive old new moment (Closed generation) script log
    → CanTell (λ c. Reads c (carried mounted.index) tree mounted.newest × Mounts c mounted) (drive.commands old)
    (seen drive old)
    → drive.held old ≡ Some first
    → (held : Cartridge) × (drive.held new ≡ Some held)
    × ((on : Option ℕ) × IsOn (given_of script tree mounted (seen drive old)) log.events log.history on
    × LeavesGenerations script tree mounted (given_of script tree mounted (seen drive old)) on first held log)
