use Rattle.std.proofs.Common.{◌≡◌, ◌*◌, ◌/◌, drop, take, length}
use Rattle.session_script.specs.Words.{hex_bytes}
use Rattle.session_script.proofs.HexBytes.{rest_of}
use Rattle.session_script.proofs.bytes.hex_bytes.Given as goal

abbrev pub invariant-loop-k : goal.invariant-loop-k
invariant-loop-k l = (length l.bytes.items ≡ length l.digits / 2) × (rest_of (take l.k l.bytes.items) (drop (2 * l.k) l.digits) ≡ hex_bytes l.digits)
