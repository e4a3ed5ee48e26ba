-- How an input is read, and why it was not.
use Rattle.std.specs.Prelude.{◌≡◌, ℕ, ◌<◌, List, [], ◌++◌, length, Bool, true, false, Option}
use Rattle.std.specs.Io.KnownBytes.{Consumes, IsAtEnd}
use Rattle.tape_types.specs.Counts.{IsRise}
use Rattle.tape_edge.specs.declared.input.ReadFailure.{ReadFailure}
use Rattle.tape_edge.specs.declared.input.ReadFailure.TheVariants as failures

-- a failed read is told by two counts of the source that rose meanwhile; want of memory is free
abbrev pub IsReadFailure : (before now : ℕ) → ReadFailure → Type 0
IsReadFailure before now failures.NoMemory = Unit {0}
IsReadFailure before now (failures.Fault counts) = IsRise before now counts.before counts.after

-- The text grew by one byte or more that the source has given; or the source is at its end, and has given none.
abbrev pub ReadsPiece : Bool → (left rest : Option (List ℕ)) → (old new : List ℕ) → Type 0
ReadsPiece true left rest old new =
    (piece : List ℕ) × (new ≡ old ++ piece) × (0 < length piece) × Consumes left rest piece
ReadsPiece false left rest old new = (new ≡ old) × Consumes left rest [] × IsAtEnd rest
