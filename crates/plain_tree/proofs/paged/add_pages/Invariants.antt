use Rattle.std.proofs.Common.{◌≡◌, ℕ, ◌<◌, ◌≤◌, true, is_some}
use Rattle.plain_tree.specs.Pages.{page_at, byte_at}
use Rattle.plain_tree.proofs.paged.add_pages.Given as goal

abbrev pub invariant-loop-number : goal.invariant-loop-number
invariant-loop-number l =
    ((i : ℕ) → byte_at (λ b. b.value) l.pages.entries i ≡ byte_at (λ b. b.value) l.initial.pages.entries i)
    × ((q : ℕ) → l.first ≤ q → q < l.number → is_some (page_at l.pages.entries q) ≡ true)
