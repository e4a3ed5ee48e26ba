-- The map that is seen of what is kept.
use Rattle.std.proofs.Common.{Option, ◌⊎◌, ◌≡◌, ◌≢◌, ℕ, zero, suc, ◌<◌, ◌≤◌, true, false, List, [], ◌∷◌, ◌++◌, length, Some, None, is_some, sym, ap, ◌∙◌, refl, arith, inl, inr, ⊎_elim}
use Rattle.std.specs.FinMap as fin
use Rattle.file_tree.specs.declared.nodes.Node.{Node}
use Rattle.file_tree.specs.declared.nodes.Spot.{Spot}
use Rattle.file_tree.specs.Tree.{Nodes, number_at}
use Rattle.file_tree.specs.Seen.{Held, IsShown}
use Rattle.name_tries.proofs.ItemLemmas.{some_same}
use Rattle.file_tree.proofs.PathLemmas.{by_last, longer, path_of, number_is, node_at}

-- a node under its name in a directory, as it is kept
abbrev pub spot : ℕ → List ℕ → Node → Spot
spot parent name node = record { parent = parent; name = name; node = node }

-- what is given as the same is kept as one
pub same_spot : (a b : Spot) → ◌≡◌ {A = Option Spot} (Some a) (Some b) → a ≡ b
same_spot a b e = some_same a b e

module _ (at : Held) (m : Nodes) (s : IsShown at m) where
  -- the root's number is 0
  pub root_number : (node : Node) → fin.get m [] ≡ Some node → node.number ≡ 0
  root_number node is = some_same node.number 0 (sym (number_is m [] node is) ∙ s.root)

  -- above a node stands its directory
  pub dir_of : (p : List (List ℕ)) (x : List ℕ) (node : Node) → fin.get m (p ++ x ∷ []) ≡ Some node → (dir : Node) × (fin.get m p ≡ Some dir)
  dir_of p x node is = by (fin.get m p) refl
    where
      by : (o : Option Node) → fin.get m p ≡ o → (dir : Node) × (fin.get m p ≡ Some dir)
      by None e = let wrong : false ≡ true = sym (ap is_some e) ∙ s.up p x node is in cc
      by (Some dir) e = (dir, e)

  -- what is kept of a node in a directory
  pub kept_at : (p : List (List ℕ)) (x : List ℕ) (node dir : Node) → fin.get m (p ++ x ∷ []) ≡ Some node → fin.get m p ≡ Some dir → at node.number ≡ Some (spot dir.number x node)
  kept_at p x node dir is there = s.named p x node dir.number is (number_is m p dir there)

  -- a number stands at one path, where this is known of the paths above
  one_step : (p q : List (List ℕ)) (a b : Node) → ((u v : List (List ℕ)) (c d : Node) → length u < length p → fin.get m u ≡ Some c → fin.get m v ≡ Some d → c.number ≡ d.number → u ≡ v)
      → fin.get m p ≡ Some a → fin.get m q ≡ Some b → a.number ≡ b.number → p ≡ q
  one_step p q a b above is also same = ⊎_elim
      (λ (e : p ≡ []). ⊎_elim
      (λ (f : q ≡ []). e ∙ sym f)
      (λ (more : (u : List (List ℕ)) × (y : List ℕ) × (q ≡ u ++ y ∷ [])). absurd (s.behind more.0 more.1 b (ap (fin.get m) (sym more.2) ∙ also) (sym same ∙ root_number a (ap (fin.get m) (sym e) ∙ is))))
      (by_last q))
      (λ (less : (u : List (List ℕ)) × (y : List ℕ) × (p ≡ u ++ y ∷ [])). ⊎_elim
      (λ (f : q ≡ []). absurd (s.behind less.0 less.1 a (ap (fin.get m) (sym less.2) ∙ is) (same ∙ root_number b (ap (fin.get m) (sym f) ∙ also))))
      (λ (more : (u : List (List ℕ)) × (y : List ℕ) × (q ≡ u ++ y ∷ [])). below less.0 more.0 less.1 more.1 less.2 more.2)
      (by_last q))
      (by_last p)
    where
      below : (u v : List (List ℕ)) (x y : List ℕ) → p ≡ u ++ x ∷ [] → q ≡ v ++ y ∷ [] → p ≡ q
      below u v x y e f =
          let is_a : fin.get m (u ++ x ∷ []) ≡ Some a = ap (fin.get m) (sym e) ∙ is in
          let is_b : fin.get m (v ++ y ∷ []) ≡ Some b = ap (fin.get m) (sym f) ∙ also in
          let c = dir_of u x a is_a in
          let d = dir_of v y b is_b in
          let both : spot c.0.number x a ≡ spot d.0.number y b = same_spot _ _ (sym (kept_at u x a c.0 is_a c.1) ∙ ap at same ∙ kept_at v y b d.0 is_b d.1) in
          let dirs : u ≡ v = above u v c.0 d.0 (omega (arith, ap length e, longer u x)) c.1 d.1 (ap (λ (s : Spot). s.parent) both) in
          e ∙ ap (λ w. w ++ x ∷ []) dirs ∙ ap (λ z. v ++ z ∷ []) (ap (λ (s : Spot). s.name) both) ∙ sym f

  one_from : (k : ℕ) (p q : List (List ℕ)) (a b : Node) → length p ≤ k → fin.get m p ≡ Some a → fin.get m q ≡ Some b → a.number ≡ b.number → p ≡ q
  one_from zero p q a b short is also same = one_step p q a b (λ u v c d less _ _ _. absurd (omega (arith, less, short))) is also same
  one_from (suc k) p q a b short is also same = one_step p q a b (λ u v c d less. one_from k u v c d (omega (arith, less, short))) is also same

  -- two paths with one number are the same path
  pub one_path : (p q : List (List ℕ)) (a b : Node) → fin.get m p ≡ Some a → fin.get m q ≡ Some b → a.number ≡ b.number → p ≡ q
  one_path p q a b is also same = one_from (length p) p q a b (omega arith) is also same

  -- two paths at which one number stands are the same path
  pub one_number : (p q : List (List ℕ)) (n : ℕ) → number_at m p ≡ Some n → number_at m q ≡ Some n → p ≡ q
  one_number p q n is also =
      let a = node_at m p n is in
      let b = node_at m q n also in
      one_path p q a.0 b.0 a.1 b.1 (a.2 ∙ sym b.2)

  -- where what is kept stands, and what is kept of what stands
  pub stands : (n : ℕ) (x : Spot) → at n ≡ Some x → (p : List (List ℕ)) × (fin.get m p ≡ Some x.node) × (x.node.number ≡ n)
  stands n x is =
      let found = path_of m n (s.complete n x is) in
      by found.0 found.1 found.2 found.3 (by_last found.0)
    where
      by : (p : List (List ℕ)) (node : Node) → fin.get m p ≡ Some node → node.number ≡ n → (p ≡ []) ⊎ ((u : List (List ℕ)) × (y : List ℕ) × (p ≡ u ++ y ∷ [])) → (p : List (List ℕ)) × (fin.get m p ≡ Some x.node) × (x.node.number ≡ n)
      by p node there same (inl e) =
          let there_root : fin.get m [] ≡ Some node = ap (fin.get m) (sym e) ∙ there in
          let zero_is : n ≡ 0 = sym same ∙ root_number node there_root in
          let one : spot 0 [] node ≡ x = same_spot _ _ (sym (s.rooted node there_root) ∙ ap at (sym zero_is) ∙ is) in
          (p, there ∙ ap (λ (z : Spot). Some z.node) one, s.numbered n x is)
      by p node there same (inr more) =
          let here : fin.get m (more.0 ++ more.1 ∷ []) ≡ Some node = ap (fin.get m) (sym more.2) ∙ there in
          let dir = dir_of more.0 more.1 node here in
          let one : spot dir.0.number more.1 node ≡ x = same_spot _ _ (sym (kept_at more.0 more.1 node dir.0 here dir.1) ∙ ap at same ∙ is) in
          (p, there ∙ ap (λ (z : Spot). Some z.node) one, s.numbered n x is)

  -- what is kept under a name in a directory stands there
  pub stands_in : (n : ℕ) (x : Spot) (p : List (List ℕ)) → at n ≡ Some x → n ≢ 0 → number_at m p ≡ Some x.parent → fin.get m (p ++ x.name ∷ []) ≡ Some x.node
  stands_in n x p is some dir =
      let found = stands n x is in
      by found.0 found.1 found.2 (by_last found.0)
    where
      by : (q : List (List ℕ)) → fin.get m q ≡ Some x.node → x.node.number ≡ n → (q ≡ []) ⊎ ((u : List (List ℕ)) × (y : List ℕ) × (q ≡ u ++ y ∷ [])) → fin.get m (p ++ x.name ∷ []) ≡ Some x.node
      by q there same (inl e) = absurd (some (sym same ∙ root_number x.node (ap (fin.get m) (sym e) ∙ there)))
      by q there same (inr more) =
          let here : fin.get m (more.0 ++ more.1 ∷ []) ≡ Some x.node = ap (fin.get m) (sym more.2) ∙ there in
          let up = dir_of more.0 more.1 x.node here in
          let one : spot up.0.number more.1 x.node ≡ x = same_spot _ _ (sym (kept_at more.0 more.1 x.node up.0 here up.1) ∙ ap at same ∙ is) in
          let dirs : more.0 ≡ p = one_number more.0 p x.parent (number_is m more.0 up.0 up.1 ∙ ap (λ (z : Spot). Some z.parent) one) dir in
          ap (λ u. fin.get m (u ++ x.name ∷ [])) (sym dirs) ∙ ap (λ z. fin.get m (more.0 ++ z ∷ [])) (sym (ap (λ (z : Spot). z.name) one)) ∙ here
