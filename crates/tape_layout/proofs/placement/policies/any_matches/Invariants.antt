use Rattle.std.proofs.Common.{◌≡◌, ℕ, List, drop}
use Rattle.std.specs.List.{list_any}
use Rattle.tape_layout.specs.PlacementPolicy.Computed as computed
use Rattle.tape_layout.proofs.placement.policies.any_matches.Given as goal

abbrev pub invariant-loop-at : goal.invariant-loop-at
invariant-loop-at l =
    list_any (λ (pattern : List ℕ). computed.matches pattern l.name) (drop l.at l.patterns)
    ≡ list_any (λ (pattern : List ℕ). computed.matches pattern l.name) l.patterns
