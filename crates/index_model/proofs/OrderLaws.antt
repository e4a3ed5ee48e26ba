-- What lies in a directory stands together.
use Rattle.std.proofs.Common.{◌≡◌, ℕ, zero, suc, ◌<◌, List, ⊎_elim, subst, arith}
use Rattle.std.proofs.lemmas.Bool.{cases_lt}
use Rattle.index_model.specs.declared.nodes.Node.{Node}
use Rattle.index_model.specs.Order.{AreInOrder, LiesIn}
use Rattle.index_model.specs.Order.LiesIn.{itself, through}
use Rattle.index_model.specs.Places.{IsAt}
use Rattle.index_model.proofs.Walks.{same_element, there_before}

lies_further : (nodes : List Node) (a b c : ℕ) → LiesIn nodes a b → LiesIn nodes b c → LiesIn nodes a c
lies_further nodes a b c (itself at) h = h
lies_further nodes a b c (through at upper node behind is way) h = through at c node behind is (lies_further nodes _ b c way h)

-- a node behind another one that lies in it has its parent there too
pub parent_within : (nodes : List Node) (at upper : ℕ) (node : Node) → IsAt nodes at node → upper < at → LiesIn nodes at upper → LiesIn nodes node.parent upper
parent_within nodes at upper node is behind (itself same) = absurd (omega (arith, behind))
parent_within nodes at upper node is behind (through same over other from other_is way) =
    subst (λ n. LiesIn nodes n.parent upper) (same_element nodes at other node other_is is) way

-- what lies between a directory and something in it lies in it too
pub together : (nodes : List Node) (upper at later : ℕ) (node : Node) → AreInOrder nodes → upper < at → at < later → IsAt nodes later node → LiesIn nodes later upper → LiesIn nodes at upper
together nodes upper at zero node order behind before is h = absurd (omega (arith, before))
together nodes upper at (suc later) node order behind before is h =
    let way = parent_within nodes (suc later) upper node is (omega (arith, behind, before)) h in
    let there = lies_further nodes later node.parent upper (order.together later node is) way in
    ⊎_elim
    (λ less. let earlier = there_before nodes later node is in together nodes upper at later earlier.0 order behind less earlier.1 there)
    (λ more. let e : later ≡ at = omega (arith, more, before) in subst (λ n. LiesIn nodes n upper) e there)
    (cases_lt at later)
