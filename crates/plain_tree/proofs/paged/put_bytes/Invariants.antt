use Rattle.std.proofs.Common.{◌≡◌, ℕ, ◌+◌, ◌-◌, ◌/◌, ◌<◌, ◌≤◌, length, true, is_some, slice_index}
use Rattle.plain_tree.specs.Pages.{page_at, byte_at}
use Rattle.plain_tree.proofs.paged.put_bytes.Given as goal

abbrev pub invariant-loop-done : goal.invariant-loop-done
invariant-loop-done l = record {
  within : l.done ≤ length l.bytes;
  there : (q : ℕ) → l.offset / 4096 ≤ q → q ≤ (l.offset + length l.bytes - 1) / 4096 → is_some (page_at l.pages.entries q) ≡ true;
  inside : (k : ℕ) → k < l.done → byte_at (λ b. b.value) l.pages.entries (l.offset + k) ≡ slice_index l.bytes k;
  below : (i : ℕ) → i < l.offset → byte_at (λ b. b.value) l.pages.entries i ≡ byte_at (λ b. b.value) l.initial.pages.entries i;
  above : (i : ℕ) → l.offset + l.done ≤ i → byte_at (λ b. b.value) l.pages.entries i ≡ byte_at (λ b. b.value) l.initial.pages.entries i;
}

abbrev pub decreases-loop-done : goal.decreases-loop-done
decreases-loop-done l = length l.bytes - l.done
