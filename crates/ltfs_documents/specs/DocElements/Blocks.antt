-- Base64 is decoded from the front, block by block.
use Rattle.std.specs.Prelude.{ℕ, List, Option}
use Rattle.std.specs.Io.KnownBytes.{prepend_known}
use Rattle.base64.specs.Engines.{standard}
use Rattle.base64.specs.GeneralPurpose.{decoded_of}

-- these bytes, and then those of the symbols; nothing where the symbols stand for none
abbrev pub behind : List ℕ → List ℕ → Option (List ℕ)
behind bytes symbols = prepend_known bytes (decoded_of standard symbols)
