-- What the commands that tell of generations come to: when they come to that, and what is told then.
use Rattle.std.specs.Prelude.{ℕ, Bool, ◌≡◌, ◌⊎◌, ◌≤◌, ◌*◌, List, ◌∷◌, length, codes, Option, Some, None, IfSome}
use Rattle.tape_types.specs.Counts.{IsRise}
use Rattle.tape_types.specs.declared.cartridges.Cartridge.{Cartridge}
use Rattle.tape_types.specs.declared.cartridges.Twin.{Twin}
use Rattle.tape_drive.specs.Looks.{Looks}
use Rattle.tape_drive.specs.declared.drive.Drive.{Ghosts}
use Rattle.plain_tree.specs.Calls.{answer}
use Rattle.plain_tree.specs.Paths.{Path}
use Rattle.plain_tree.specs.Tree.{Tree}
use Rattle.plain_tree.specs.declared.calls.Answer.{Answer}
use Rattle.plain_tree.specs.declared.calls.Call.TheVariants.{Read}
use Rattle.extent_map.specs.Cells.{Tape, tape_of}
use Rattle.file_tree.specs.Tree.{plain_of}
use Rattle.session_script.specs.declared.logs.Log.{Log}
use Rattle.content_laws.specs.Readings.{Construct, first_of}
use Rattle.cartridge_meaning.specs.Meaning.{Found}
use Rattle.cartridge_meaning.specs.Pointers.{indexes_of}
use Rattle.cartridge_meaning.specs.declared.errors.MountErr.TheVariants as mounts
use Rattle.commands.specs.declared.command_line.views.ViewWords.{ViewWords}
use Rattle.generation_view.specs.Chain.{GenTree, behind}
use Rattle.generation_view.specs.Reads.{blocks_read}
use Rattle.generation_view.specs.Told.{AreCounts, RefusesChain, TellsChain}
use Rattle.generation_view.specs.Views.{Opened, RefusesView}
use Rattle.generation_view.specs.declared.errors.ViewErr.{ViewErr}
use Rattle.generation_view.specs.declared.telling.Generation.{Generation}
use Rattle.commands.specs.BasicCommands.Labels.{mount_text}
use Rattle.commands.specs.BasicCommands.Listings.{Listing, part_of_listing, text_of_listing}
use Rattle.commands.specs.BasicCommands.Outcomes.{IsListingTold, IsTold}
use Rattle.commands.specs.BasicCommands.Runs.{Looked, Written}
use Rattle.generation_view.specs.ViewCommands.Texts.{answer_line, generations_text, view_status, view_text}

-- ---- `generations`: all are told, or none

pub data ChainEnd : Type 0 where
  all_told : List Generation → ChainEnd
  untold : ViewErr → ChainEnd

abbrev pub chain_status : ChainEnd → ℕ
chain_status (all_told told) = 0
chain_status (untold error) = view_status error

abbrev pub chain_text : ChainEnd → List ℕ
chain_text (all_told told) = generations_text told
chain_text (untold error) = view_text error

-- when `generations` ends so
abbrev pub IsChainEnd : Looked → ChainEnd → Type 0
IsChainEnd drive (all_told told) = IfSome drive.held (TellsChain told)
IsChainEnd drive (untold error) = IfSome drive.held (RefusesChain error) × AreCounts drive.before drive.now error

-- ---- `view`

-- The listing is that of a generation of the cartridge, and its index stands there, on the data partition.
pub record IsSeenOf (generation : ℕ) (c : Cartridge) (l : Listing) : Type 0 where
  pub found : Found c
  pub gen : GenTree c found generation l.tree
  pub k : Construct
  pub older : List Construct
  pub stands : behind (indexes_of c.dp) gen.newer ≡ k ∷ older
  pub spot_is : l.spot ≡ record { letter = found.labels.ip.dpart; block = first_of k }
  pub generation_is : l.generation ≡ generation

-- as much is told of a generation's tree as was asked for, and where the drive told a cartridge it is one of that
pub record IsSeenFor (asked : ViewWords) (held : Option Cartridge) (l : Listing) : Type 0 where
  pub told : l.all ≡ asked.all
  pub known : IfSome held (λ c. IsSeenOf asked.generation c l)

-- so a read of the first mebibyte of the file at a path is answered of a generation's tree
pub record IsAnswerOf (generation : ℕ) (path : Path) (c : Cartridge) (told : Answer) : Type 0 where
  pub found : Found c
  pub tree : Tree
  pub gen : GenTree c found generation tree
  pub answer_is : told ≡ answer tree (Read path 0 1048576)

-- a listing is told, or so many lines of its tree before memory was refused; or the reply to a read, or that the drive
-- failed then; or there was no view, or memory was refused
pub data ViewEnd : Type 0 where
  seen : Listing → ViewEnd
  seen_part : Listing → ℕ → ViewEnd
  answered : Answer → ViewEnd
  unread : Twin → ViewEnd
  unseen : ViewErr → ViewEnd

abbrev pub end_status : ViewEnd → ℕ
end_status (seen l) = 0
end_status (seen_part l count) = 7
end_status (answered told) = 0
end_status (unread counts) = 4
end_status (unseen error) = view_status error

abbrev pub end_text : ViewEnd → List ℕ
end_text (seen l) = text_of_listing l
end_text (seen_part l count) = part_of_listing count l
end_text (answered told) = answer_line told
end_text (unread counts) = mount_text (mounts.Drive counts)
end_text (unseen error) = view_text error

-- when `view` ends so
abbrev pub IsViewEnd : ViewWords → Looked → ViewEnd → Type 0
IsViewEnd asked drive (seen l) = (asked.path ≡ None) × IsSeenFor asked drive.held l
IsViewEnd asked drive (seen_part l count) = (asked.path ≡ None) × IsSeenFor asked drive.held l
IsViewEnd asked drive (answered told) =
    (path : Path) × (asked.path ≡ Some path) × IfSome drive.held (λ c. IsAnswerOf asked.generation path c told)
IsViewEnd asked drive (unread counts) = IsRise drive.before drive.now counts.before counts.after
IsViewEnd asked drive (unseen error) =
    IfSome drive.held (RefusesView asked.generation error) × AreCounts drive.before drive.now error

-- ---- what is told of a view

-- the listing of a view, given what stands on tape
abbrev pub seen_of : (all : Bool) → Tape → Opened → Listing
seen_of all tape view =
    record { tree = plain_of tape view.tree; generation = view.generation; spot = view.spot; all = all }

abbrev pub IsSeenTold : (all : Bool) → Opened → Written → (status : ℕ) → Type 0
IsSeenTold all view sink status = (tape : Tape) → IsListingTold (seen_of all tape view) sink status

-- the reply is told, or that the drive failed, or that memory was refused
abbrev pub IsReplyTold : {D : Type 0} → Ghosts D → Opened → Path → (old new : D) → Written → (status : ℕ) → Type 0
IsReplyTold drive view path old new sink status =
    ((told : Answer) × ((c : Cartridge) → drive.held old ≡ Some c
    → told ≡ answer (plain_of (tape_of c) view.tree) (Read path 0 1048576))
    × (IsTold 0 (answer_line told) sink status ⊎ IsTold 7 (codes "memory\n") sink status))
    ⊎ (((counts : Twin) × IsRise (drive.faults old) (drive.faults new) counts.before counts.after
    × (IsTold 4 (mount_text (mounts.Drive counts)) sink status ⊎ IsTold 7 (codes "memory\n") sink status))
    ⊎ IsTold 7 (codes "memory\n") sink status)

-- a read through a view looks at each block of its range once
pub record IsReadTold {D : Type 0} (drive : Ghosts D) (view : Opened) (path : Path) (old new : D) (sink : Written)
    (status : ℕ) (log : Option Log) : Type 0 where
  pub told : IsReplyTold drive view path old new sink status
  pub later : drive.faults old ≤ drive.faults new
  pub looks : Looks drive (2 * length (blocks_read view.tree path 0 1048576) * drive.MOST) old new
  pub no_log : log ≡ None

-- so many are the blocks in which the index of a generation has the first mebibyte of the file at a path
abbrev pub AreBlocksAt : (generation : ℕ) → Path → Cartridge → ℕ → Type 0
AreBlocksAt generation path c blocks =
    (found : Found c) × (tree : Tree) × (gen : GenTree c found generation tree)
    × (blocks ≡ length (blocks_read gen.tree_is.0 path 0 1048576))

-- How many blocks are read for `view`: none without a path, nor where there is no view; else those in which the first
-- mebibyte of the file stands, which are no more than it has bytes.
pub record AreBlocksFor (asked : ViewWords) (held : Option Cartridge) (blocks : ℕ) : Type 0 where
  pub without : asked.path ≡ None → blocks ≡ 0
  pub those : (path : Path) → asked.path ≡ Some path
      → (blocks ≡ 0) ⊎ IfSome held (λ c. AreBlocksAt asked.generation path c blocks)
  pub few : blocks ≤ 1048576
