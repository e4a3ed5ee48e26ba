use Rattle.std.proofs.Common.{◌≡◌, ◌<◌, ◌^◌, true, take}
use Rattle.std.specs.List.{list_all}
use Rattle.std.specs.Char.{is_digit}
use Rattle.session_script.specs.Words.{decimal_value}
use Rattle.session_script.proofs.words.read_number.Given as goal

abbrev pub invariant-loop-byte : goal.invariant-loop-byte
invariant-loop-byte l = record {
  so_far : l.value ≡ decimal_value (take l.byte-index l.word);
  digits : list_all (λ d. is_digit d 10) (take l.byte-index l.word) ≡ true;
  below : l.value < 10 ^ l.byte-index;
}
