use Rattle.std.proofs.Common.{◌≡◌, ◌≤◌, ◌-◌, map}
use Rattle.std.specs.List.{range_with_len}
use Rattle.plain_tree.specs.Pages.{byte_at}
use Rattle.plain_tree.proofs.paged.bytes_between.Given as goal

abbrev pub invariant-loop-at : goal.invariant-loop-at
invariant-loop-at l = record {
  started : l.from ≤ l.at;
  within : l.at ≤ l.end;
  read : l.bytes.items ≡ map (byte_at (λ b. b.value) l.pages.entries) (range_with_len l.from (l.at - l.from));
}

abbrev pub decreases-loop-at : goal.decreases-loop-at
decreases-loop-at l = l.end - l.at
