-- Branches in one word: a number, or 2^32 and the place of a fork.
use Rattle.std.specs.Prelude.{◌≡◌, ℕ, ◌+◌, ◌-◌, ◌<◌, ◌≤◌, nat_lt, Bool, true, false, if◌then◌else◌, refl}
use Rattle.std.proofs.Common.{ap, arith}
use Rattle.std.proofs.lemmas.Bool.Decides.{nat_tests}
use Rattle.name_tries.specs.declared.forks.Branch.{Branch}
use Rattle.name_tries.specs.declared.forks.Branch.TheVariants as branch
use Rattle.name_tries.specs.declared.forks.Link.TheInside.{Inside}

abbrev pub branch_in : Inside → Branch
branch_in a = if nat_lt a.word 4294967296 then branch.Leaf a.word else branch.Inner (a.word - 4294967296)

abbrev word_of : ℕ → Inside
word_of n = record { word = n }

abbrev pub IsWord : Inside → Type 0
IsWord a = a.word < 8589934592

abbrev pub link_to : Branch → Inside
link_to (branch.Leaf n) = word_of n
link_to (branch.Inner f) = word_of (4294967296 + f)

-- the word is got back from its branch
back : (a : Inside) (v : Bool) → nat_lt a.word 4294967296 ≡ v
    → link_to (if v then branch.Leaf a.word else branch.Inner (a.word - 4294967296)) ≡ a
back a true is = refl
back a false is =
    let from : 4294967296 ≤ a.word = grind (arith, nat_tests, is) in
    ap word_of (omega (arith, from))

pub link_back : (a : Inside) → IsWord a → link_to (branch_in a) ≡ a
link_back a word = back a (nat_lt a.word 4294967296) refl
