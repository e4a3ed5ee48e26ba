-- The laws of a drive, of the drive in memory.
use Rattle.std.specs.Prelude.{ℕ, ◌-◌, ◌^◌, ◌≤◌, ◌<◌, List, [], ◌∷◌}
use Rattle.std.proofs.Common.{inl, inr, arith}
use Rattle.tape_types.specs.declared.cartridges.Cartridge.{Cartridge}
use Rattle.tape_drive.specs.declared.record.DoneCommand.{DoneCommand}
use Rattle.tape_drive.specs.Record.{undo, Leaves, LeftWithin, LeftSince}

pub only_now : (count : ℕ) (held : Cartridge) (es : List DoneCommand) (image : Cartridge) → count < 2 ^ 64 - 1
    → LeftSince count held es count image → Leaves held es image
only_now count held es image lt (inl now) = now
only_now count held es image lt (inr (inl less, past)) = absurd (omega arith)
only_now count held es image lt (inr (inr most, past)) = absurd (omega arith)

lower_within : (held : Cartridge) (es : List DoneCommand) (t u : ℕ) (image : Cartridge) → t ≤ u
    → LeftWithin held es u image → LeftWithin held es t image
lower_within held [] t u image le h = absurd h
lower_within held (e ∷ es) t u image le (inl (began, during)) = inl (omega arith, during)
lower_within held (e ∷ es) t u image le (inr past) = inr (lower_within (undo e.act held) es t u image le past)

pub lower : (count : ℕ) (held : Cartridge) (es : List DoneCommand) (t u : ℕ) (image : Cartridge) → t ≤ u
    → LeftSince count held es u image → LeftSince count held es t image
lower count held es t u image le (inl now) = inl now
lower count held es t u image le (inr (inl less, past)) =
    inr (inl (omega arith), lower_within held es t u image le past)
lower count held es t u image le (inr (inr most, past)) = inr (inr most, lower_within held es t u image le past)

pub counts_now : (count : ℕ) (held : Cartridge) (es : List DoneCommand) (t : ℕ) (image : Cartridge)
    → Leaves held es image → LeftSince count held es t image
counts_now count held es t image now = inl now
