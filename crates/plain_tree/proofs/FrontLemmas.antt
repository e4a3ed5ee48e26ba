-- The fronts of a path in a valid tree: those that are there, and above them those that aren't.
use Rattle.std.proofs.Common.{◌≡◌, ℕ, zero, suc, ◌-◌, ◌<◌, ◌≤◌, true, false, List, [], ◌∷◌, length, take, Some, None, is_some, sym, ap, ◌∙◌, refl, arith, ⊎_elim}
use Rattle.std.specs.Prelude.{Option}
use Rattle.std.specs.FinMap as fin
use Rattle.std.proofs.lemmas.Bool.{cases_lt}
use Rattle.std.proofs.lemmas.List.{length-take-le}
use Rattle.plain_tree.specs.declared.nodes.Node.{Node}
use Rattle.plain_tree.specs.declared.nodes.Kind.{Kind}
use Rattle.plain_tree.specs.declared.nodes.Kind.TheVariants as kinds
use Rattle.plain_tree.specs.Paths.{Path, is_at_or_below}
use Rattle.plain_tree.specs.Refusals.{why_missing, missing_below}
use Rattle.plain_tree.specs.Tree.{Nodes}
use Rattle.plain_tree.specs.Valid.{AreValid}
use Rattle.plain_tree.proofs.MoveLemmas.{below_Decides}
use Rattle.plain_tree.proofs.Validity.{free_below}

take-take : {A : Type 0} (m n : ℕ) (xs : List A) → m ≤ n → take m (take n xs) ≡ take m xs
take-take zero n xs le = refl
take-take (suc m) zero xs le = absurd (omega arith)
take-take (suc m) (suc n) [] le = refl
take-take (suc m) (suc n) (x ∷ xs) le = ap (λ l. x ∷ l) (take-take m n xs (omega arith))

front_below : (path : Path) (m n : ℕ) → m ≤ n → m ≤ length path → is_at_or_below (take m path) (take n path) ≡ true
front_below path m n le within =
    (below_Decides (take m path) (take n path)).1 (sym (ap (λ k. take k (take n path)) (length-take-le m path within) ∙ take-take m n path le))

none_of : {A : Type 0} (o : Option A) → is_some o ≡ false → o ≡ None
none_of None is = refl
none_of (Some x) is = cc

-- where a front isn't there, no longer one is
pub missing_longer : (nodes : Nodes) (path : Path) (m n : ℕ) → AreValid nodes → is_some (fin.get nodes (take m path)) ≡ false → m ≤ n → n ≤ length path → fin.get nodes (take n path) ≡ None
missing_longer nodes path m n valid none le within =
    free_below nodes (fin.len nodes) valid.0 valid.1 (take m path) (none_of _ none) (n - m) (take n path)
    (omega (arith, length-take-le m path (omega arith), length-take-le n path within)) (front_below path m n le (omega arith))

-- the longest front that is there decides
longest_decides : (nodes : Nodes) (path : Path) (k n : ℕ) → k < n → ((m : ℕ) → k < m → m < n → fin.get nodes (take m path) ≡ None) → why_missing nodes path n ≡ why_missing nodes path (suc k)
longest_decides nodes path k zero lt longest = absurd (omega arith)
longest_decides nodes path k (suc n) lt longest = ⊎_elim
    (λ below. one n (longest n below (omega arith)) ∙ longest_decides nodes path k n below (λ m a b. longest m a (omega arith)))
    (λ at. ap (λ j. why_missing nodes path (suc j)) (omega arith))
    (cases_lt k n)
  where
    one : (j : ℕ) → fin.get nodes (take j path) ≡ None → why_missing nodes path (suc j) ≡ why_missing nodes path j
    one j missing = rw missing refl

found_node : (nodes : Nodes) (path : Path) (k : ℕ) (node : Node) → fin.get nodes (take k path) ≡ Some node → missing_below node.kind ≡ why_missing nodes path (suc k)
found_node nodes path k node is = by node.kind refl
  where
    by : (kind : Kind) → node.kind ≡ kind → missing_below node.kind ≡ why_missing nodes path (suc k)
    by kinds.Dir e = rw (is, e) refl
    by (kinds.File cells) e = rw (is, e) refl
    by (kinds.Link text) e = rw (is, e) refl

-- the longest front that is there says why the path isn't
pub front_decides : (nodes : Nodes) (path : Path) (k : ℕ) (node : Node) → k < length path → fin.get nodes (take k path) ≡ Some node → ((m : ℕ) → k < m → m < length path → fin.get nodes (take m path) ≡ None)
    → missing_below node.kind ≡ why_missing nodes path (length path)
front_decides nodes path k node shorter is longest = found_node nodes path k node is ∙ sym (longest_decides nodes path k (length path) shorter longest)
