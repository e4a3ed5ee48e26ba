-- Which files a policy puts on the index partition (LTFS 2.4 on the data placement policy).
use Rattle.std.specs.Prelude.{◌≡◌, ◌≤◌, ◌⊎◌, ◌↔◌, IsTrue, ℕ, List, [], Option, Some, None}
use Rattle.std.specs.List.{Any}
use Rattle.index_model.specs.declared.indexes.Policy.{Policy}
use Rattle.tape_layout.specs.PlacementPolicy.Computed.{chooses_ip}
use Rattle.tape_layout.specs.PlacementPolicy.Patterns.{Matches}

-- a file of this length isn't too long, and its name has a pattern that matches it, or there is no pattern
pub record IsChosen (policy : Policy) (name : List ℕ) (size : ℕ) : Type 0 where
  pub short : size ≤ policy.size
  pub named : (policy.names ≡ []) ⊎ Any (λ pattern. Matches pattern name) policy.names

abbrev pub ChoosesIp : Option Policy → List ℕ → ℕ → Type 0
ChoosesIp None name size = ⊥
ChoosesIp (Some policy) name size = IsChosen policy name size

-- the test tells which files are chosen
abbrev pub IsComputed : Type 0
IsComputed = (policy : Option Policy) (name : List ℕ) (size : ℕ)
    → IsTrue (chooses_ip policy name size) ↔ ChoosesIp policy name size
