use Rattle.std.proofs.Common.{◌≡◌, ◌*◌, ◌≤◌, length, take}
use Rattle.std.specs.List.{flat_map}
use Rattle.session_script.specs.Escapes.{escaped_byte}
use Rattle.session_script.proofs.tails.put_escaped.Given as goal

abbrev pub invariant-loop-byte : goal.invariant-loop-byte
invariant-loop-byte l = record {
  so_far : l.short ≡ flat_map escaped_byte (take l.byte-index l.byte-items);
  few : length l.short ≤ 3 * l.byte-index;
  many : l.byte-index ≤ length l.short;
}
