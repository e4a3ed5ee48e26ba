use Rattle.std.proofs.Common.{◌≡◌, ◌+◌, ◌≤◌, [], length}
use Rattle.session_script.specs.Grammar.{script_from, lines_of}
use Rattle.session_script.specs.Readings.{pieces_left}
use Rattle.session_script.proofs.Pieces.{left_len}
use Rattle.session_script.proofs.reading.read_lines.Given as goal

abbrev pub invariant-loop-left : goal.invariant-loop-left
invariant-loop-left l = record {
  reading : script_from (l.number + 1) l.progress (pieces_left 10 l.left) ≡ script_from 1 [] (lines_of l.text);
  counted : l.number + left_len l.left ≤ length l.text + 1;
}

abbrev pub decreases-loop-left : goal.decreases-loop-left
decreases-loop-left l = left_len l.left
