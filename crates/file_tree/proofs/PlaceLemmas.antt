-- What the places of a tree say of its map.
use Rattle.std.proofs.Common.{Option, ◌⊎◌, ◌≡◌, ℕ, zero, suc, ◌+◌, ◌<◌, ◌≤◌, true, false, List, [], ◌∷◌, ◌++◌, length, get_or, Some, None, IsSome, is_some, sym, ap, ◌∙◌, refl, subst, arith, inl, inr, set}
use Rattle.std.specs.FinMap as fin
use Rattle.std.proofs.lemmas.List.{length-set, length-append}
use Rattle.tape_types.specs.Bounds.{most_nodes}
use Rattle.file_tree.specs.declared.nodes.Node.{Node}
use Rattle.file_tree.specs.declared.nodes.Spot.{Spot}
use Rattle.file_tree.specs.Tree.{Nodes, number_at}
use Rattle.file_tree.specs.Seen.{Held, held, IsShown, IsKept}
use Rattle.file_tree.specs.Places.{used, IsStored, IsThere, IsSetIn}
use Rattle.file_tree.proofs.PathLemmas.{by_last, number_is, node_at}
use Rattle.file_tree.proofs.ShownLemmas.{spot, same_spot, root_number, dir_of, kept_at, stands}

-- places that keep these nodes keep them under another name
pub stored_now : (spots : List (Option Spot)) (count : ℕ) (m n : Nodes) → IsStored spots count m → m ≡ n → IsStored spots count n
stored_now spots count m n s is = subst (λ k. IsStored spots count k) is s

-- what is kept of a node at a path
pub kept_node : (at : Held) (m : Nodes) → IsShown at m → (p : List (List ℕ)) (a : Node) → fin.get m p ≡ Some a → (z : Spot) × (at a.number ≡ Some z) × (z.node ≡ a)
kept_node at m s p a is = by (by_last p)
  where
    by : (p ≡ []) ⊎ ((u : List (List ℕ)) × (y : List ℕ) × (p ≡ u ++ y ∷ [])) → (z : Spot) × (at a.number ≡ Some z) × (z.node ≡ a)
    by (inl e) =
        let here : fin.get m [] ≡ Some a = ap (fin.get m) (sym e) ∙ is in
        (spot 0 [] a, ap at (root_number at m s a here) ∙ s.rooted a here, refl)
    by (inr more) =
        let here : fin.get m (more.0 ++ more.1 ∷ []) ≡ Some a = ap (fin.get m) (sym more.2) ∙ is in
        let dir = dir_of at m s more.0 more.1 a here in
        (spot dir.0.number more.1 a, kept_at at m s more.0 more.1 a dir.0 here dir.1, refl)

-- a number that stands at a path is one at which something is kept
pub there_held : (at : Held) (m : Nodes) → IsShown at m → (n : ℕ) → IsThere m n → IsSome (at n)
there_held at m s n there =
    let node = node_at m there.0 n there.1 in
    let kept = kept_node at m s there.0 node.0 node.1 in
    ap (λ k. is_some (at k)) (sym node.2) ∙ ap is_some kept.1

-- the node at a number's path is what is kept at that number
pub node_now : (at : Held) (m : Nodes) → IsShown at m → (n : ℕ) (z : Spot) → at n ≡ Some z → (p : List (List ℕ)) → number_at m p ≡ Some n → fin.get m p ≡ Some z.node
node_now at m s n z is p stands =
    let node = node_at m p n stands in
    let kept = kept_node at m s p node.0 node.1 in
    let same : kept.0 ≡ z = same_spot _ _ (sym kept.1 ∙ ap at node.2 ∙ is) in
    node.1 ∙ ap (λ k. Some k) (sym kept.2 ∙ ap (λ (k : Spot). k.node) same)

-- the directory of a number's path is that of what is kept there
pub parent_now : (at : Held) (m : Nodes) → IsShown at m → (n : ℕ) (z : Spot) → at n ≡ Some z → (p : List (List ℕ)) (x : List ℕ) → number_at m (p ++ x ∷ []) ≡ Some n → number_at m p ≡ Some z.parent
parent_now at m s n z is p x stands =
    let node = node_at m (p ++ x ∷ []) n stands in
    let dir = dir_of at m s p x node.0 node.1 in
    let same : spot dir.0.number x node.0 ≡ z = same_spot _ _ (sym (kept_at at m s p x node.0 dir.0 node.1 dir.1) ∙ ap at node.2 ∙ is) in
    number_is m p dir.0 dir.1 ∙ ap (λ (k : Spot). Some k.parent) same

-- the name of a number's path is that of what is kept there
pub name_now : (at : Held) (m : Nodes) → IsShown at m → (n : ℕ) (z : Spot) → at n ≡ Some z → (p : List (List ℕ)) (x : List ℕ) → number_at m (p ++ x ∷ []) ≡ Some n → x ≡ z.name
name_now at m s n z is p x stands =
    let node = node_at m (p ++ x ∷ []) n stands in
    let dir = dir_of at m s p x node.0 node.1 in
    let same : spot dir.0.number x node.0 ≡ z = same_spot _ _ (sym (kept_at at m s p x node.0 dir.0 node.1 dir.1) ∙ ap at node.2 ∙ is) in
    ap (λ (k : Spot). k.name) same

-- what is kept at a number within the places is what is read there
pub held_or : (spots : List (Option Spot)) (n : ℕ) (o : Option Spot) → n < length spots → o ≡ get_or spots n o → held spots n ≡ o
held_or [] n o lt is = absurd (omega arith)
held_or (x ∷ spots) zero o lt is = sym is
held_or (x ∷ spots) (suc n) o lt is = held_or spots n o (omega arith) is

-- where something is kept, the number is within the places
pub held_within : (spots : List (Option Spot)) (n : ℕ) → IsSome (held spots n) → n < length spots
held_within [] n some = cc
held_within (o ∷ spots) zero some = omega arith
held_within (o ∷ spots) (suc n) some = omega (arith, held_within spots n some)

-- ---- what is kept after an item of the list is set

same_held : (o : Option Spot) (spots : List (Option Spot)) → held (o ∷ spots) 0 ≡ o
same_held None spots = refl
same_held (Some z) spots = refl

-- a place that is set keeps what it was set to, and others what they kept
pub set_kept : (spots : List (Option Spot)) (n : ℕ) (o : Option Spot) → n < length spots → IsKept (held spots) (held (set spots n o)) n o
set_kept spots n o lt = record { here = here spots n lt; others = others spots n }
  where
    here : (spots : List (Option Spot)) (n : ℕ) → n < length spots → held (set spots n o) n ≡ o
    here [] n lt = absurd (omega arith)
    here (x ∷ spots) zero lt = same_held o spots
    here (x ∷ spots) (suc n) lt = here spots n (omega arith)

    others : (spots : List (Option Spot)) (n k : ℕ) → (k ≡ n → ⊥) → held (set spots n o) k ≡ held spots k
    others [] n k apart = refl
    others (x ∷ spots) zero zero apart = absurd (apart refl)
    others (x ∷ spots) zero (suc k) apart = refl
    others (x ∷ spots) (suc n) zero apart = refl
    others (x ∷ spots) (suc n) (suc k) apart = others spots n k (λ e. apart (ap suc e))

push_kept : (spots : List (Option Spot)) (n : ℕ) (o : Option Spot) → n ≡ length spots → IsKept (held spots) (held (spots ++ o ∷ [])) n o
push_kept spots n o long = record { here = here spots n long; others = others spots n long }
  where
    here : (spots : List (Option Spot)) (n : ℕ) → n ≡ length spots → held (spots ++ o ∷ []) n ≡ o
    here [] zero long = same_held o []
    here [] (suc n) long = absurd (omega arith)
    here (x ∷ spots) zero long = absurd (omega arith)
    here (x ∷ spots) (suc n) long = here spots n (omega arith)

    others : (spots : List (Option Spot)) (n : ℕ) → n ≡ length spots → (k : ℕ) → (k ≡ n → ⊥) → held (spots ++ o ∷ []) k ≡ held spots k
    others [] zero long zero apart = absurd (apart refl)
    others [] zero long (suc k) apart = refl
    others [] (suc n) long k apart = absurd (omega arith)
    others (x ∷ spots) zero long k apart = absurd (omega arith)
    others (x ∷ spots) (suc n) long zero apart = refl
    others (x ∷ spots) (suc n) long (suc k) apart = others spots n (omega arith) k (λ e. apart (ap suc e))

-- replacing what is kept leaves the count of used places
pub used_same : (spots : List (Option Spot)) (n : ℕ) (a b : Spot) → held spots n ≡ Some a → used (set spots n (Some b)) ≡ used spots
used_same [] n a b is = refl
used_same (None ∷ spots) zero a b is = cc
used_same (Some z ∷ spots) zero a b is = refl
used_same (None ∷ spots) (suc n) a b is = used_same spots n a b is
used_same (Some z ∷ spots) (suc n) a b is = ap (λ k. k + 1) (used_same spots n a b is)

-- filling an empty place uses one place more
pub used_more : (spots : List (Option Spot)) (n : ℕ) (b : Spot) → held spots n ≡ None → n < length spots → used (set spots n (Some b)) ≡ used spots + 1
used_more [] n b is lt = absurd (omega arith)
used_more (None ∷ spots) zero b is lt = refl
used_more (Some z ∷ spots) zero b is lt = cc
used_more (None ∷ spots) (suc n) b is lt = used_more spots n b is (omega arith)
used_more (Some z ∷ spots) (suc n) b is lt = ap (λ k. k + 1) (used_more spots n b is (omega arith))

used_less : (spots : List (Option Spot)) (n : ℕ) (a : Spot) → held spots n ≡ Some a → used (set spots n None) + 1 ≡ used spots
used_less [] n a is = cc
used_less (None ∷ spots) zero a is = cc
used_less (Some z ∷ spots) zero a is = refl
used_less (None ∷ spots) (suc n) a is = used_less spots n a is
used_less (Some z ∷ spots) (suc n) a is = ap (λ k. k + 1) (used_less spots n a is)

-- a place put behind the others uses one place more
pub used_push : (spots : List (Option Spot)) (b : Spot) → used (spots ++ Some b ∷ []) ≡ used spots + 1
used_push [] b = refl
used_push (None ∷ spots) b = used_push spots b
used_push (Some z ∷ spots) b = ap (λ k. k + 1) (used_push spots b)

-- emptying a place uses one place less
pub used_taken : (spots : List (Option Spot)) (n : ℕ) → IsSome (held spots n) → used (set spots n None) + 1 ≡ used spots
used_taken spots n some = by (held spots n) refl
  where
    by : (o : Option Spot) → held spots n ≡ o → used (set spots n None) + 1 ≡ used spots
    by None e = let wrong : false ≡ true = sym (ap is_some e) ∙ some in cc
    by (Some z) e = used_less spots n z e

-- a place within the list that is set keeps that
pub set_in : (spots : List (Option Spot)) (n : ℕ) (o : Option Spot) → n < length spots → IsSetIn spots (set spots n o) n o
set_in spots n o lt = record { kept = set_kept spots n o lt; long = omega (arith, length-set spots n o) }

-- what is put behind all places is kept there
pub push_in : (spots next : List (Option Spot)) (n : ℕ) (z : Spot) → next ≡ spots ++ Some z ∷ [] → n ≡ length spots → IsSetIn spots next n (Some z)
push_in spots next n z is long =
    subst (λ l. IsSetIn spots l n (Some z)) (sym is) (record { kept = push_kept spots n (Some z) long; long = omega (arith, length-append spots (Some z ∷ [])) })

-- past the last place nothing is kept
pub held_past : (spots : List (Option Spot)) (n : ℕ) → length spots ≤ n → held spots n ≡ None
held_past [] n le = refl
held_past (o ∷ spots) zero le = absurd (omega arith)
held_past (o ∷ spots) (suc n) le = held_past spots n (omega arith)

-- there are no more used places than places
pub used_most : (spots : List (Option Spot)) → used spots ≤ length spots
used_most [] = omega arith
used_most (None ∷ spots) = omega (arith, used_most spots)
used_most (Some z ∷ spots) = omega (arith, used_most spots)

-- there are no more nodes than there may be
pub count_most : (spots : List (Option Spot)) (count : ℕ) (m : Nodes) → IsStored spots count m → count ≤ most_nodes
count_most spots count m s = omega (arith, s.filled, used_most spots, s.few)
