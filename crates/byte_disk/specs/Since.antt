-- What a crash of the disk in memory may have left since an earlier command, by choice.
use Rattle.std.specs.Prelude.{ℕ, ◌≤◌, ◌≡◌, ◌⊎◌, List, [], ◌∷◌, ◌++◌}
use Rattle.byte_disk.specs.declared.record.DoneCommand.{DoneCommand}
use Rattle.byte_disk.specs.Files.{Files}
use Rattle.byte_disk.specs.Record.{undo}
use Rattle.byte_disk.specs.Images.{Gives}

-- the files from before several acts, of which the newest comes first
abbrev pub undo_all : List DoneCommand → Files → Files
undo_all [] d = d
undo_all (e ∷ es) d = undo_all es (undo e.act d)

-- An image that choices give right after or right before an act of the record, and the act had begun at the number t or
-- later.
pub record GaveWithin (held : Files) (es : List DoneCommand) (t : ℕ) (image : Files) : Type 0 where
  pub newer : List DoneCommand
  pub entry : DoneCommand
  pub older : List DoneCommand
  pub place : es ≡ newer ++ entry ∷ older
  pub began : t ≤ entry.number
  pub left : Gives (undo_all newer held) (entry ∷ older) image
      ⊎ Gives (undo entry.act (undo_all newer held)) older image

-- an image that choices give now, or gave by such an act
abbrev pub GaveSince : Files → List DoneCommand → ℕ → Files → Type 0
GaveSince held es t image = Gives held es image ⊎ GaveWithin held es t image
