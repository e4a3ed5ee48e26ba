use Rattle.std.proofs.Common.{◌≡◌, length, take}
use Rattle.std.specs.List.{flat_map, enumerate_from, zip}
use Rattle.session_script.specs.LogText.{line_text}
use Rattle.session_script.proofs.printing.log_text.Given as goal

abbrev pub invariant-loop-place : goal.invariant-loop-place
invariant-loop-place l = l.text.items ≡ flat_map (λ e. line_text e.0 e.1.0 e.1.1) (take (length l.yielded) (enumerate_from 0 (zip l.log.history l.log.replies)))
