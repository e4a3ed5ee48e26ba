use Rattle.std.proofs.Common.{◌≡◌, ◌<◌, ◌^◌, true, take}
use Rattle.std.specs.List.{list_all}
use Rattle.std.specs.Char.{is_digit}
use Rattle.session_script.specs.Words.{decimal_value}
use Rattle.commands.proofs.command_line.volumes.read_number.Given as goal

abbrev pub invariant-loop-digit : goal.invariant-loop-digit
invariant-loop-digit l = record {
  so_far : l.value ≡ decimal_value (take l.digit-index l.digits);
  digits : list_all (λ d. is_digit d 10) (take l.digit-index l.digits) ≡ true;
  below : l.value < 10 ^ l.digit-index;
}
