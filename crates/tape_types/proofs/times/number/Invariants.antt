use Rattle.std.proofs.Common.{◌≡◌, ◌<◌, ◌^◌, take}
use Rattle.tape_types.specs.Times.{digits}
use Rattle.tape_types.proofs.times.number.Given as goal

abbrev pub invariant-loop-byte : goal.invariant-loop-byte
invariant-loop-byte l = record {
  read : take l.byte-index l.text ≡ digits l.byte-index l.value;
  fits : l.value < 10 ^ l.byte-index;
}
