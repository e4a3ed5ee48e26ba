-- What a sink holds, where it tells it, and which errors of a stream pass.
use Rattle.std.specs.Prelude.{◌≢◌, ℕ, List, take, Option}
use Rattle.std.specs.Io.KnownBytes.{Appends}
use Rattle.std.specs.IoError.{error_kind}
use Rattle.std.specs.declared.io.Error.{Error}
use Rattle.std.specs.declared.io.ErrorKind.TheVariants.{Interrupted, WouldBlock}

-- known bytes grow by a front of these
abbrev pub AppendsFront : Option (List ℕ) → Option (List ℕ) → List ℕ → Type 0
AppendsFront old new bytes = (n : ℕ) × Appends old new (take n bytes)

-- an error after which a stream isn't asked again
abbrev pub IsFinal : Error → Type 0
IsFinal e = (error_kind e ≢ Interrupted) × (error_kind e ≢ WouldBlock)
