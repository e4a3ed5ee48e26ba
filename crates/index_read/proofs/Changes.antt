-- A node changed in its place.
use Rattle.std.proofs.Common.{◌≡◌, ℕ, zero, suc, ◌<◌, List, [], ◌∷◌, map, Some, None, length, set, refl, sym, ap, ◌∙◌, arith}
use Rattle.std.specs.List.{slice_get}
use Rattle.index_model.specs.declared.nodes.Node.{Node}
use Rattle.index_model.specs.Values.{NodeValue, value_of}
use Rattle.index_read.specs.Told.{changed}

-- replacing a node in its place changes the value at that place alone
pub changed_set : (nodes : List Node) (at : ℕ) (x y : Node) (f : NodeValue → NodeValue) → slice_get nodes at ≡ Some x → value_of y ≡ f (value_of x) → map value_of (set nodes at y) ≡ changed at f (map value_of nodes)
changed_set [] at x y f is e = absurd (let bad : None ≡ Some x = is in cc)
changed_set (n ∷ nodes) zero x y f is e =
    let same : n ≡ x = cc in
    let new : value_of y ≡ f (value_of n) = e ∙ ap (λ (z : Node). f (value_of z)) (sym same) in
    ap (λ v. v ∷ map value_of nodes) new
changed_set (n ∷ nodes) (suc at) x y f is e = ap (λ vs. value_of n ∷ vs) (changed_set nodes at x y f is e)

-- at a place that no node has, nothing changes
pub changed_none : (nodes : List Node) (at : ℕ) (f : NodeValue → NodeValue) → (at < length nodes → ⊥) → map value_of nodes ≡ changed at f (map value_of nodes)
changed_none [] at f past = refl
changed_none (n ∷ nodes) zero f past = absurd (past (omega arith))
changed_none (n ∷ nodes) (suc at) f past = ap (λ vs. value_of n ∷ vs) (changed_none nodes at f (λ lt. past (omega (arith, lt))))
