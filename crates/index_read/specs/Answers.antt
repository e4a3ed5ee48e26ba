-- What a call answers where reading gives an index or a refusal.
use Rattle.std.specs.Prelude.{◌≡◌, Result, Ok, Err}
use Rattle.index_model.specs.declared.indexes.Index.{Index}
use Rattle.index_model.specs.declared.errors.IndexErr.{IndexErr}
use Rattle.index_model.specs.declared.errors.IndexErr.TheVariants as errors

-- a refusal is due, unless memory was refused
abbrev pub UnlessMemory : IndexErr → Type 0 → Type 0
UnlessMemory errors.NoMemory P = Unit {0}
UnlessMemory _ P = P

-- the index was read, or memory was refused
abbrev pub IsReadOr : Result Index IndexErr → Index → Type 0
IsReadOr (Ok read) index = read ≡ index
IsReadOr (Err e) index = e ≡ errors.NoMemory
