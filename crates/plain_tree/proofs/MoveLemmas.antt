-- What moving a node with all below it does to each path.
use Rattle.std.proofs.Common.{Option, ◌≡◌, Bool, true, false, cond, ◌||◌, List, [], ◌∷◌, ◌++◌, length, take, drop, map, Some, None, is_some, sym, ap, ◌∙◌, refl, subst, Decides}
use Rattle.std.specs.declared.cmp.Ordering.{Ordering}
use Rattle.std.specs.declared.cmp.Ordering.TheVariants.{Less, Equal, Greater}
use Rattle.std.specs.Ordering.{is_eq, is_lt}
use Rattle.std.specs.Cmp.{unsigned_Decides, both_ways}
use Rattle.std.proofs.lemmas.Cmp.{tied_itself}
use Rattle.std.proofs.lemmas.Slice.Eq.{slice_eq-Decides}
use Rattle.std.proofs.lemmas.List.{take-append-drop, take_at, drop_at}
use Rattle.std.specs.List.{list_any}
use Rattle.std.specs.FinMap as fin
pub use Rattle.std.proofs.lemmas.Bool.{and_parts as both_true, false_from_ne_true as not_true}
use Rattle.std.proofs.lemmas.Bool.{or_right}
use Rattle.tape_types.proofs.NodeKeys.SortLemmas.{tied}
use Rattle.plain_tree.specs.declared.nodes.Node.{Node}
use Rattle.plain_tree.specs.Paths.{Path, path_cmp, same_path, is_at_or_below, moved_path}
use Rattle.plain_tree.specs.Tree.{Nodes, moved}
use Rattle.plain_tree.proofs.NodeLemmas.{path_total, path_exact}

-- paths, tested and compared
pub same_is : (x y : Path) → same_path x y ≡ true → x ≡ y
same_is x y e = path_exact x y (tied _ e)

-- a path is the same as itself
pub same_self : (x : Path) → same_path x x ≡ true
same_self x = ap is_eq (tied_itself path_total x)

-- paths that are equal pass the test of being the same
pub is_same : (x y : Path) → x ≡ y → same_path x y ≡ true
is_same x y e = subst (λ z. same_path x z ≡ true) e (same_self x)

-- the test of being at or below a path says whether that path is its front
pub below_Decides : (d q : Path) → Decides (is_at_or_below d q) (d ≡ take (length d) q)
below_Decides d q = slice_eq-Decides (λ x y. slice_eq-Decides unsigned_Decides x y _ refl) d (take (length d) q) _ refl

-- a path below another is that path, and more names
pub below_split : (d q : Path) → is_at_or_below d q ≡ true → q ≡ d ++ drop (length d) q
below_split d q e = sym (take-append-drop (length d) q) ∙ ap (λ p. p ++ drop (length d) q) (sym ((below_Decides d q).0 e))

-- a path with more names behind it is at or below it
pub below_join : (d x : Path) → is_at_or_below d (d ++ x) ≡ true
below_join d x = (below_Decides d (d ++ x)).1 (sym (take_at d x (length d) refl))

-- a path at or below the one that moves goes along with it
pub moved_below : (from to k : Path) → is_at_or_below from k ≡ true → moved_path from to k ≡ to ++ drop (length from) k
moved_below from to k e = ap (λ b. cond b (to ++ drop (length from) k) k) e

-- a path that is not at or below the one that moves stays
pub moved_other : (from to k : Path) → is_at_or_below from k ≡ false → moved_path from to k ≡ k
moved_other from to k e = ap (λ b. cond b (to ++ drop (length from) k) k) e

-- removing one path leaves what stands at another
pub other_removed : (m : Nodes) (p q : Path) → same_path q p ≡ false → fin.get (fin.remove m p) q ≡ fin.get m q
other_removed m p q other = fin.get-remove path_total m p q ∙ ap (λ b. cond b None (fin.get m q)) other

-- putting something in at one path leaves what stands at another
pub other_inserted : (m : Nodes) (p q : Path) (node : Node) → same_path q p ≡ false → fin.get (fin.insert m p node) q ≡ fin.get m q
other_inserted m p q node other = fin.get-insert path_total m p node q ∙ ap (λ b. cond b (Some node) (fin.get m q)) other

-- what was put in at a path stands there
pub here_inserted : (m : Nodes) (p q : Path) (node : Node) → same_path q p ≡ true → fin.get (fin.insert m p node) q ≡ Some node
here_inserted m p q node same = fin.get-insert path_total m p node q ∙ ap (λ b. cond b (Some node) (fin.get m q)) same

-- a key of a map is a path where something stands
keys_there : (m : Nodes) (x : Path) → list_any (same_path x) (fin.keys m) ≡ is_some (fin.get m x)
keys_there m x = sym (fin.contains_key-keys m x)

-- a path below all paths of the entries is none of them
pub none_above : {X : Type 0} (es : List (Path × X)) (x : Path) → fin.Entries.below_all path_cmp x es ≡ true → list_any (same_path x) (map (λ e. e.0) es) ≡ false
none_above [] x e = refl
none_above (y ∷ es) x e =
    let parts = both_true (is_lt (path_cmp x y.0)) (fin.Entries.below_all path_cmp x es) e in
    ap (λ b. b || list_any (same_path x) (map (λ e. e.0) es)) (less_apart (path_cmp x y.0) parts.0) ∙ none_above es x parts.1
  where
    less_apart : (r : Ordering) → is_lt r ≡ true → is_eq r ≡ false
    less_apart Less e = refl
    less_apart Equal e = cc
    less_apart Greater e = cc

-- paths that are not the same fail the test of being the same
pub not_same : (x y : Path) → (same_path x y ≡ true → ⊥) → same_path x y ≡ false
not_same x y h = not_true (same_path x y) h

module _ (from to : Path) where
  -- the path from which a path below `to` came
  abbrev pub back : Path → Path
  back q = from ++ drop (length to) q

  end_below : (k q : Path) → is_at_or_below from k ≡ true → same_path q (moved_path from to k) ≡ true → is_at_or_below to q ≡ true
  end_below k q below same = ap (is_at_or_below to) (same_is q (moved_path from to k) same ∙ moved_below from to k below) ∙ below_join to (drop (length from) k)

  -- a path is where another has moved exactly where it came from there
  came_from : (k q : Path) → is_at_or_below from k ≡ true → is_at_or_below to q ≡ true → same_path q (moved_path from to k) ≡ same_path (back q) k
  came_from k q below at = both_ways _ _
      (λ same. is_same (back q) k (
      ap (λ p. from ++ drop (length to) p) (same_is q (moved_path from to k) same ∙ moved_below from to k below)
      ∙ ap (λ r. from ++ r) (drop_at to (drop (length from) k) (length to) refl) ∙ sym (below_split from k below)))
      (λ same. is_same q (moved_path from to k) (
      below_split to q at ∙ ap (λ r. to ++ r) (sym (drop_at from (drop (length to) q) (length from) refl) ∙ ap (drop (length from)) (same_is (back q) k same))
      ∙ sym (moved_below from to k below)))

  -- a path that is traced back is at or below the place that moves
  pub back_below : (q : Path) → is_at_or_below from (back q) ≡ true
  back_below q = below_join from (drop (length to) q)

  -- the map of moved entries, path by path
  pub find_moved : {X : Type 0} (es : List (Path × X)) (q : Path) → ((x : Path) → list_any (same_path x) (map (λ e. e.0) es) ≡ true → is_at_or_below to x ≡ false)
      → fin.find path_cmp q (map (λ e. (moved_path from to e.0, e.1)) es) ≡ cond (is_at_or_below to q) (fin.find path_cmp (back q) es) (cond (is_at_or_below from q) None (fin.find path_cmp q es))
  find_moved {X} [] q apart = nothing (is_at_or_below to q) (is_at_or_below from q)
    where
      nothing : (a b : Bool) → ◌≡◌ {A = Option X} None (cond a None (cond b None None))
      nothing true b = refl
      nothing false true = refl
      nothing false false = refl
  find_moved {X} (e ∷ es) q apart =
      let away : is_at_or_below to e.0 ≡ false = apart e.0 (ap (λ b. b || list_any (same_path e.0) (map (λ e. e.0) es)) (same_self e.0)) in
      let ih = find_moved es q (λ x h. apart x (or_right (same_path x e.0) (list_any (same_path x) (map (λ e. e.0) es)) h)) in
      let step : (a b : Bool) → is_at_or_below to q ≡ a → is_at_or_below from q ≡ b → same_path q (moved_path from to e.0) ≡ cond a (same_path (back q) e.0) (cond b false (same_path q e.0)) = found e.0 q away in
      ap (cond (same_path q (moved_path from to e.0)) (Some e.1)) ih
      ∙ joined (is_at_or_below to q) (is_at_or_below from q) (same_path (back q) e.0) (same_path q e.0) (same_path q (moved_path from to e.0)) e.1 (fin.find path_cmp (back q) es) (fin.find path_cmp q es) (step (is_at_or_below to q) (is_at_or_below from q) refl refl)
    where
      joined : (a b t u s : Bool) (v : X) (x y : Option X) → s ≡ cond a t (cond b false u) → cond s (Some v) (cond a x (cond b None y)) ≡ cond a (cond t (Some v) x) (cond b None (cond u (Some v) y))
      joined true b t u s v x y is = ap (λ s. cond s (Some v) x) is
      joined false true t u s v x y is = ap (λ s. cond s (Some v) None) is
      joined false false t u s v x y is = ap (λ s. cond s (Some v) y) is

      at_end : (k q : Path) → is_at_or_below from k ≡ true → is_at_or_below to q ≡ false → same_path q (moved_path from to k) ≡ false
      at_end k q below away = not_same q (moved_path from to k) (λ same. let wrong : true ≡ false = sym (end_below k q below same) ∙ away in cc)

      inside : (k q : Path) → is_at_or_below from k ≡ true → (a b : Bool) → is_at_or_below to q ≡ a → is_at_or_below from q ≡ b → same_path q (moved_path from to k) ≡ cond a (same_path (back q) k) (cond b false (same_path q k))
      inside k q below true b ta fb = came_from k q below ta
      inside k q below false true ta fb = at_end k q below ta
      inside k q below false false ta fb = at_end k q below ta ∙ sym (not_same q k (λ same. let wrong : true ≡ false = sym below ∙ ap (is_at_or_below from) (sym (same_is q k same)) ∙ fb in cc))

      outside : (k q : Path) → is_at_or_below to k ≡ false → is_at_or_below from k ≡ false → (a b : Bool) → is_at_or_below to q ≡ a → is_at_or_below from q ≡ b → same_path q k ≡ cond a (same_path (back q) k) (cond b false (same_path q k))
      outside k q away other true b ta fb =
          not_same q k (λ same. let wrong : true ≡ false = sym ta ∙ ap (is_at_or_below to) (same_is q k same) ∙ away in cc)
          ∙ sym (not_same (back q) k (λ same. let wrong : true ≡ false = sym (back_below q) ∙ ap (is_at_or_below from) (same_is (back q) k same) ∙ other in cc))
      outside k q away other false true ta fb = not_same q k (λ same. let wrong : true ≡ false = sym fb ∙ ap (is_at_or_below from) (same_is q k same) ∙ other in cc)
      outside k q away other false false ta fb = refl

      found : (k q : Path) → is_at_or_below to k ≡ false → (a b : Bool) → is_at_or_below to q ≡ a → is_at_or_below from q ≡ b → same_path q (moved_path from to k) ≡ cond a (same_path (back q) k) (cond b false (same_path q k))
      found k q away a b ta fb =
          elim (is_at_or_below from k) as (λ t. is_at_or_below from k ≡ t → same_path q (moved_path from to k) ≡ cond a (same_path (back q) k) (cond b false (same_path q k))) [
            | true ↦ λ below. inside k q below a b ta fb
            | false ↦ λ other. ap (same_path q) (moved_other from to k other) ∙ outside k q away other a b ta fb
          ] refl

  -- what stands at each path after a move: what came there, nothing where it left, or what was there
  pub get_moved : (m : Nodes) (q : Path) → ((x : Path) → is_at_or_below to x ≡ true → fin.get m x ≡ None)
      → fin.get (moved from to m) q ≡ cond (is_at_or_below to q) (fin.get m (back q)) (cond (is_at_or_below from q) None (fin.get m q))
  get_moved m q free =
      fin.get-from_entries path_total (map (λ e. (moved_path from to e.0, e.1)) (fin.entries m)) q
      ∙ find_moved (fin.entries m) q (λ x h. not_true (is_at_or_below to x) (λ below. let wrong : true ≡ false = sym h ∙ keys_there m x ∙ ap is_some (free x below) in cc))
      ∙ ap (λ o. cond (is_at_or_below to q) o (cond (is_at_or_below from q) None (fin.find path_cmp q (fin.entries m)))) (sym (fin.get-entries m (back q)))
      ∙ ap (λ o. cond (is_at_or_below to q) (fin.get m (back q)) (cond (is_at_or_below from q) None o)) (sym (fin.get-entries m q))
