-- The cartridges that a crash of the drive in memory may have left since an earlier command, by choice.
use Rattle.std.specs.Prelude.{ℕ, ◌≤◌, ◌≡◌, ◌⊎◌, List, [], ◌∷◌, ◌++◌}
use Rattle.tape_types.specs.declared.cartridges.Cartridge.{Cartridge}
use Rattle.tape_types.specs.Cartridges.{note_of}
use Rattle.tape_drive.specs.declared.record.Act.{Act}
use Rattle.tape_drive.specs.declared.record.Act.TheVariants.{Put, Flushed, Noted, Settled}
use Rattle.tape_drive.specs.declared.record.DoneCommand.{DoneCommand}
use Rattle.tape_drive.specs.Record.{with_note, undo}
use Rattle.tape_drive.specs.Images.{Gives, Gave}

-- the cartridge from before several acts, of which the newest comes first
abbrev pub undo_all : List DoneCommand → Cartridge → Cartridge
undo_all [] c = c
undo_all (e ∷ es) c = undo_all es (undo e.act c)

-- What a crash shows of an act that it comes within: of an item that was put, what two cuts give right after it; of an
-- attribute, the new one in an image from before. `held` is the cartridge after the act, `older` is what came before.
abbrev pub Shows : Act → ℕ → Cartridge → List DoneCommand → Cartridge → Type 0
Shows (Put part gone failed) number held older image =
    Gives held (record { number = number; act = Put part gone failed } ∷ older) image
Shows Flushed number held older image = ⊥
Shows (Noted part old) number held older image =
    (before : Cartridge) × Gave (undo (Noted part old) held) older before
    × (image ≡ with_note part (note_of part held) before)
Shows Settled number held older image = ⊥

-- An image of a crash that came while an act of the record went on, and the act had begun at the number t or later:
-- one that a crash could leave before the act, or what it shows of it.
pub record GaveWithin (held : Cartridge) (es : List DoneCommand) (t : ℕ) (image : Cartridge) : Type 0 where
  pub newer : List DoneCommand
  pub entry : DoneCommand
  pub older : List DoneCommand
  pub place : es ≡ newer ++ entry ∷ older
  pub began : t ≤ entry.number
  pub left : Gave (undo entry.act (undo_all newer held)) older image
      ⊎ Shows entry.act entry.number (undo_all newer held) older image

-- an image of a crash that comes now, or that came while such an act went on
abbrev pub GaveSince : Cartridge → List DoneCommand → ℕ → Cartridge → Type 0
GaveSince held es t image = Gave held es image ⊎ GaveWithin held es t image
