-- Paths and their last names, and the nodes at paths.
use Rattle.std.proofs.Common.{Option, ◌⊎◌, ◌≡◌, ℕ, ◌+◌, Bool, true, false, cond, ◌||◌, eqb, List, [], ◌∷◌, ◌++◌, length, drop, Some, None, is_some, sym, ap, ◌∙◌, refl, arith, inl, inr}
use Rattle.std.specs.Option.{option_map}
use Rattle.std.specs.List.{list_any}
use Rattle.std.specs.FinMap as fin
use Rattle.std.proofs.lemmas.Bool.Decides.{nat_tests}
use Rattle.std.proofs.lemmas.List.{length-append}
pub use Rattle.name_tries.proofs.ItemLemmas.{some_same}
use Rattle.plain_tree.specs.Paths.{path_cmp, same_path}
use Rattle.plain_tree.proofs.NodeLemmas.{path_total, path_exact}
use Rattle.plain_tree.proofs.MoveLemmas.{same_is, is_same, not_true}
use Rattle.file_tree.specs.declared.nodes.Node.{Node}
use Rattle.file_tree.specs.Tree.{Nodes, number_at}
use Rattle.file_tree.specs.Seen.{is_number, has_number}

-- a path is the root's, or ends by a name
pub by_last : (q : List (List ℕ)) → (q ≡ []) ⊎ ((p : List (List ℕ)) × (x : List ℕ) × (q ≡ p ++ x ∷ []))
by_last [] = inl refl
by_last (y ∷ q) = inr (by (by_last q))
  where
    by : (q ≡ []) ⊎ ((p : List (List ℕ)) × (x : List ℕ) × (q ≡ p ++ x ∷ [])) → (p : List (List ℕ)) × (x : List ℕ) × (y ∷ q ≡ p ++ x ∷ [])
    by (inl e) = ([], y, ap (λ l. y ∷ l) e)
    by (inr more) = (y ∷ more.0, more.1, ap (λ l. y ∷ l) more.2)

-- a path with a name is not the root's
pub no_name : (p : List (List ℕ)) (x : List ℕ) → p ++ x ∷ [] ≡ [] → ⊥
no_name [] x e = cc
no_name (y ∷ p) x e = cc

-- paths that end alike
pub same_last : (p q : List (List ℕ)) (x y : List ℕ) → p ++ x ∷ [] ≡ q ++ y ∷ [] → (p ≡ q) × (x ≡ y)
same_last [] [] x y e = (refl, ap (λ l. first l) e)
  where
    first : List (List ℕ) → List ℕ
    first [] = []
    first (z ∷ l) = z
same_last [] (z ∷ q) x y e = absurd (no_name q y (sym (ap (λ l. drop 1 l) e)))
same_last (z ∷ p) [] x y e = absurd (no_name p x (ap (λ l. drop 1 l) e))
same_last (z ∷ p) (w ∷ q) x y e =
    let more = same_last p q x y (ap (λ l. drop 1 l) e) in
    (ap (λ l. first l ∷ p) e ∙ ap (λ l. w ∷ l) more.0, more.1)
  where
    first : List (List ℕ) → List ℕ
    first [] = []
    first (z ∷ l) = z

-- a path with one name more is longer by one
pub longer : (p : List (List ℕ)) (x : List ℕ) → length (p ++ x ∷ []) ≡ length p + 1
longer p x = length-append p (x ∷ [])

-- a path is another one, or it is not
pub is_or_not : (p q : List (List ℕ)) → (q ≡ p) ⊎ (q ≡ p → ⊥)
is_or_not p q = elim (same_path q p) as (λ b. same_path q p ≡ b → (q ≡ p) ⊎ (q ≡ p → ⊥)) [
  | true ↦ λ same. inl (same_is q p same)
  | false ↦ λ other. inr (λ e. let wrong : true ≡ false = sym (is_same q p e) ∙ other in cc)
] refl

-- maps of nodes of any kind
module _ {X : Type 0} where
  -- what was put in at a path stands there
  pub get_here : (m : fin.FinMap path_cmp X) (p : List (List ℕ)) (v : X) → fin.get (fin.insert m p v) p ≡ Some v
  get_here m p v = fin.get-insert path_total m p v p ∙ ap (λ b. cond b (Some v) (fin.get m p)) (is_same p p refl)

  -- what was put in at a path leaves what stands at another
  pub get_other : (m : fin.FinMap path_cmp X) (p q : List (List ℕ)) (v : X) → (q ≡ p → ⊥) → fin.get (fin.insert m p v) q ≡ fin.get m q
  get_other m p q v apart = fin.get-insert path_total m p v q ∙ ap (λ b. cond b (Some v) (fin.get m q)) (not_true (same_path q p) (λ e. apart (same_is q p e)))

  -- what was removed at a path is gone
  pub gone_here : (m : fin.FinMap path_cmp X) (p : List (List ℕ)) → fin.get (fin.remove m p) p ≡ None
  gone_here m p = fin.get-remove path_total m p p ∙ ap (λ b. cond b None (fin.get m p)) (is_same p p refl)

  -- what was removed at a path leaves what stands at another
  pub gone_other : (m : fin.FinMap path_cmp X) (p q : List (List ℕ)) → (q ≡ p → ⊥) → fin.get (fin.remove m p) q ≡ fin.get m q
  gone_other m p q apart = fin.get-remove path_total m p q ∙ ap (λ b. cond b None (fin.get m q)) (not_true (same_path q p) (λ e. apart (same_is q p e)))

  -- maps with the same at each path are one
  pub same_nodes : (m n : fin.FinMap path_cmp X) → ((q : List (List ℕ)) → fin.get m q ≡ fin.get n q) → m ≡ n
  same_nodes m n same = fin.same_map path_total path_exact m n same

-- an element of a list that passes a test
passing : {X : Type 0} (t : X → Bool) (xs : List X) → list_any t xs ≡ true → (x : X) × (t x ≡ true)
passing t [] e = cc
passing t (x ∷ xs) e = elim (t x) as (λ b. t x ≡ b → (b || list_any t xs) ≡ true → (x : _) × (t x ≡ true)) [
  | true ↦ λ is _. (x, is)
  | false ↦ λ _ more. passing t xs more
] refl e

passes : (t : List (List ℕ) → Bool) (p : List (List ℕ)) (ks : List (List (List ℕ))) → list_any (same_path p) ks ≡ true → t p ≡ true → list_any t ks ≡ true
passes t p [] e is = cc
passes t p (k ∷ ks) e is = elim (same_path p k) as (λ b. same_path p k ≡ b → (b || list_any (same_path p) ks) ≡ true → (t k || list_any t ks) ≡ true) [
  | true ↦ λ same _. ap (λ b. b || list_any t ks) (ap t (sym (same_is p k same)) ∙ is)
  | false ↦ λ _ more. or_right (t k) (list_any t ks) (passes t p ks more is)
] refl e
  where
    or_right : (a b : Bool) → b ≡ true → (a || b) ≡ true
    or_right true b e = refl
    or_right false b e = e

-- some path has a node with a number exactly where the test says so
pub has_it : (m : Nodes) (p : List (List ℕ)) (n : ℕ) → number_at m p ≡ Some n → has_number m n ≡ true
has_it m p n is = by (fin.get m p) refl
  where
    by : (o : Option Node) → fin.get m p ≡ o → has_number m n ≡ true
    by None e = let wrong : None ≡ Some n = sym (ap (option_map (λ (n : Node). n.number)) e) ∙ is in cc
    by (Some node) e =
        let same : node.number ≡ n = some_same node.number n (sym (ap (option_map (λ (n : Node). n.number)) e) ∙ is) in
        passes (λ path. is_number n (fin.get m path)) p (fin.keys m) (sym (fin.contains_key-keys m p) ∙ ap is_some e) (ap (is_number n) e ∙ ap (λ k. eqb k n) same ∙ eq_self n)
      where
        eq_self : (k : ℕ) → eqb k k ≡ true
        eq_self k = grind (arith, nat_tests)

-- a number that the map has is that of a node at some path
pub path_of : (m : Nodes) (n : ℕ) → has_number m n ≡ true → (p : List (List ℕ)) × (node : Node) × (fin.get m p ≡ Some node) × (node.number ≡ n)
path_of m n has =
    let found = passing (λ path. is_number n (fin.get m path)) (fin.keys m) has in
    by found.0 (fin.get m found.0) refl found.1
  where
    by : (p : List (List ℕ)) (o : Option Node) → fin.get m p ≡ o → is_number n (fin.get m p) ≡ true → (p : List (List ℕ)) × (node : Node) × (fin.get m p ≡ Some node) × (node.number ≡ n)
    by p None e is = let wrong : false ≡ true = sym (ap (is_number n) e) ∙ is in cc
    by p (Some node) e is =
        let same : eqb node.number n ≡ true = sym (ap (is_number n) e) ∙ is in
        let equal : node.number ≡ n = grind (arith, nat_tests) in
        (p, node, e, equal)

-- the number at a path is that of the node there
pub number_is : (m : Nodes) (p : List (List ℕ)) (node : Node) → fin.get m p ≡ Some node → number_at m p ≡ Some node.number
number_is m p node is = ap (option_map (λ (n : Node). n.number)) is

-- the node with a number
pub node_at : (m : Nodes) (p : List (List ℕ)) (n : ℕ) → number_at m p ≡ Some n → (node : Node) × (fin.get m p ≡ Some node) × (node.number ≡ n)
node_at m p n is = by (fin.get m p) refl
  where
    by : (o : Option Node) → fin.get m p ≡ o → (node : Node) × (fin.get m p ≡ Some node) × (node.number ≡ n)
    by None e = let wrong : None ≡ Some n = sym (ap (option_map (λ (n : Node). n.number)) e) ∙ is in cc
    by (Some node) e = (node, e, some_same node.number n (sym (number_is m p node e) ∙ is))
