use Rattle.std.proofs.Common.{◌≡◌, ◌++◌, eqb}
use Rattle.std.specs.Option.{option_map}
use Rattle.std.specs.List.{slice_split}
use Rattle.session_script.specs.Words.{names_of}
use Rattle.session_script.specs.Readings.{pieces_left}
use Rattle.session_script.proofs.Pieces.{left_len}
use Rattle.commands.proofs.command_line.paths.read_names.Given as goal

abbrev pub decreases-loop-left : goal.decreases-loop-left
decreases-loop-left l = left_len l.left

abbrev pub invariant-loop-left : goal.invariant-loop-left
invariant-loop-left l = option_map (λ more. l.names ++ more) (names_of (pieces_left 47 l.left)) ≡ names_of (slice_split (λ b. eqb b 47) l.text)
