-- How a volume begins.
use Rattle.std.specs.Prelude.{ℕ, ◌≡◌, length}
use Rattle.tape_drive.specs.declared.drive.Drive.{Ghosts}
use Rattle.session_script.specs.Sessions.{greatest_session}
use Rattle.cartridge_meaning.specs.declared.mounted.Mounted.{Mounted}
use Rattle.file_tree.specs.Tree.{FileTree, plain_of}
use Rattle.promises.specs.ServingPromise.Served.{Fixed}
use Rattle.volume_state.specs.CallLaws.StartLaws.{first_tape}

-- what no call changes is this, where the volume begins with this drive, mount and tree, for so many calls of so many
-- sessions
pub record BeginsWith {D : Type 0} (drive : Ghosts D) (fixed : Fixed D) (first : D) (mounted : Mounted)
    (calls sessions : ℕ) (tree : FileTree) : Type 0 where
  pub first_is : fixed.first ≡ first
  pub mounted_is : fixed.mounted ≡ mounted
  pub calls_are : length fixed.script ≡ calls
  pub sessions_are : greatest_session fixed.script ≡ sessions
  pub tree_is : fixed.tree ≡ plain_of (first_tape (drive.held first)) tree
