-- What is told of a tree's nodes, in the order of their paths.
use Rattle.std.proofs.Common.{Option, ◌≡◌, ◌≢◌, ℕ, zero, suc, T, ◌+◌, ◌<◌, Bool, true, false, cond, List, [], ◌∷◌, ◌++◌, length, take, map, Some, None, is_some, sym, ap, ◌∙◌, refl, arith, ⊎_elim}
use Rattle.std.specs.Option.{option_map}
use Rattle.std.specs.List.{slice_get}
use Rattle.std.specs.FinMap as fin
use Rattle.std.proofs.lemmas.List.{length-append, length-map}
use Rattle.std.proofs.lemmas.Option.{slice_get-map}
use Rattle.file_tree.proofs.EditLemmas.{parent_ends}
use Rattle.index_model.specs.Places.{IsAt}
use Rattle.plain_tree.specs.Paths.{path_cmp, same_path, parent_of, last_name}
use Rattle.plain_tree.proofs.MoveLemmas.{both_true, same_is, is_same, not_true, none_above}
use Rattle.file_tree.specs.declared.nodes.Node.{Node}
use Rattle.file_tree.specs.Tree.{Nodes, number_at}
use Rattle.file_tree.specs.Seen.{Held, held, IsShown}
use Rattle.file_tree.specs.Places.{IsThere}
use Rattle.file_tree.specs.Mounts.{Letters}
use Rattle.index_model.specs.declared.nodes.Node as told
use Rattle.file_tree.specs.Told.{place_of, name_or, told_node_of, told_of, AreApart, ArePlaces}
use Rattle.file_tree.specs.declared.nodes.Spot.{Spot}
use Rattle.name_tries.proofs.ItemLemmas.{some_same}
use Rattle.file_tree.proofs.PathLemmas.{by_last, number_is, node_at}
use Rattle.file_tree.proofs.ShownLemmas.{spot, same_spot}
use Rattle.file_tree.proofs.PlaceLemmas.{there_held, held_within, parent_now}

abbrev Path : Type 0
Path = List (List ℕ)

-- no number stands at two paths
abbrev pub OnePath : Nodes → Type 0
OnePath m = (p q : Path) (n : ℕ) → number_at m p ≡ Some n → number_at m q ≡ Some n → p ≡ q

-- ---- entries of a map

module _ {X : Type 0} where
  -- a key that stands further on is another
  further : (es : List (Path × X)) (k p : Path) (x : X) → fin.Entries.below_all path_cmp k es ≡ true → fin.find path_cmp p es ≡ Some x → same_path p k ≡ false
  further es k p x above found = not_true (same_path p k) (λ same.
      let none : is_some (fin.find path_cmp k es) ≡ false = fin.Entries.is_some-find path_cmp k es ∙ none_above es k above in
      let wrong : true ≡ false = sym (ap is_some found) ∙ ap (λ q. is_some (fin.find path_cmp q es)) (same_is p k same) ∙ none in cc)

  pub entry_found : (es : List (Path × X)) (i : ℕ) (p : Path) (x : X) → fin.is_sorted path_cmp es ≡ true → slice_get es i ≡ Some (p, x) → fin.find path_cmp p es ≡ Some x
  entry_found [] i p x sorted is = cc
  entry_found (e ∷ es) zero p x sorted is =
      let same : e ≡ (p, x) = some_same e (p, x) is in
      ap (λ b. cond b (Some e.1) (fin.find path_cmp p es)) (is_same p e.0 (sym (ap (λ (r : Path × X). r.0) same))) ∙ ap (λ (r : Path × X). Some r.1) same
  entry_found (e ∷ es) (suc i) p x sorted is =
      let parts = both_true (fin.Entries.below_all path_cmp e.0 es) (fin.is_sorted path_cmp es) sorted in
      let rest = entry_found es i p x parts.1 is in
      ap (λ b. cond b (Some e.1) (fin.find path_cmp p es)) (further es e.0 p x parts.0 rest) ∙ rest

  pub found_entry : (es : List (Path × X)) (p : Path) (x : X) → fin.find path_cmp p es ≡ Some x → (i : ℕ) × (slice_get es i ≡ Some (p, x))
  found_entry [] p x found = cc
  found_entry (e ∷ es) p x found = by (same_path p e.0) refl found (found_entry es p x)
    where
      by : (b : Bool) → same_path p e.0 ≡ b → cond b (Some e.1) (fin.find path_cmp p es) ≡ Some x → (fin.find path_cmp p es ≡ Some x → (i : ℕ) × (slice_get es i ≡ Some (p, x))) → (i : ℕ) × (slice_get (e ∷ es) i ≡ Some (p, x))
      by true same f later =
          let key : e.0 ≡ p = sym (same_is p e.0 same) in
          let value : e.1 ≡ x = some_same e.1 x f in
          (0, ap (λ k. Some (k, e.1)) key ∙ ap (λ v. Some (p, v)) value)
      by false same f later = let more = later f in (suc more.0, more.1)

  -- the place of a key
  pub place_entry : (es : List (Path × X)) (i : ℕ) (p : Path) (x : X) → fin.is_sorted path_cmp es ≡ true → slice_get es i ≡ Some (p, x) → place_of p (map (λ e. e.0) es) ≡ i
  place_entry [] i p x sorted is = cc
  place_entry (e ∷ es) zero p x sorted is =
      let same : e ≡ (p, x) = some_same e (p, x) is in
      ap (λ b. cond b 0 (place_of p (map (λ e. e.0) es) + 1)) (is_same p e.0 (sym (ap (λ (r : Path × X). r.0) same)))
  place_entry (e ∷ es) (suc i) p x sorted is =
      let parts = both_true (fin.Entries.below_all path_cmp e.0 es) (fin.is_sorted path_cmp es) sorted in
      let rest : place_of p (map (λ e. e.0) es) ≡ i = place_entry es i p x parts.1 is in
      ap (λ b. cond b 0 (place_of p (map (λ e. e.0) es) + 1)) (further es e.0 p x parts.0 (entry_found es i p x parts.1 is)) ∙ omega (arith, rest)

T_is : (b : Bool) → T b → b ≡ true
T_is true t = refl
T_is false t = absurd t

-- the entries of a map are in the order of their paths
pub sorted_map_entries : (m : Nodes) → fin.is_sorted path_cmp (fin.entries m) ≡ true
sorted_map_entries m = T_is _ (fin.entries_sorted m)

-- an entry of the map is what stands at its path
pub entry_get : (m : Nodes) (i : ℕ) (p : Path) (node : Node) → slice_get (fin.entries m) i ≡ Some (p, node) → fin.get m p ≡ Some node
entry_get m i p node is = fin.get-entries m p ∙ entry_found (fin.entries m) i p node (sorted_map_entries m) is

-- what stands at a path is an entry of the map
pub get_entry : (m : Nodes) (p : Path) (node : Node) → fin.get m p ≡ Some node → (i : ℕ) × (slice_get (fin.entries m) i ≡ Some (p, node))
get_entry m p node is = found_entry (fin.entries m) p node (sym (fin.get-entries m p) ∙ is)

-- the place of an entry is that of its path
pub entry_place : (m : Nodes) (i : ℕ) (p : Path) (node : Node) → slice_get (fin.entries m) i ≡ Some (p, node) → place_of p (fin.keys m) ≡ i
entry_place m i p node is = place_entry (fin.entries m) i p node (sorted_map_entries m) is

-- ---- names and parents

-- the last name of a path with one name more is that name
pub last_is : (p : Path) (x : List ℕ) → last_name (p ++ x ∷ []) ≡ Some x
last_is p x = ap (slice_get (p ++ x ∷ [])) (omega (arith, length-append p (x ∷ []))) ∙ at_end p
  where
    at_end : (p : Path) → slice_get (p ++ x ∷ []) (length p) ≡ Some x
    at_end [] = refl
    at_end (y ∷ p) = at_end p

-- a node that is not the root is told under its last name
pub name_of_other : (m : Nodes) (volume name : List ℕ) (n : ℕ) → n ≢ 0 → number_at m [] ≡ Some 0 → ((p : Path) (x : List ℕ) → number_at m (p ++ x ∷ []) ≡ Some n → name ≡ x) → (p : Path) → number_at m p ≡ Some n → name ≡ name_or volume (last_name p)
name_of_other m volume name n some root named p is = ⊎_elim
    (λ (e : p ≡ []). absurd (some (some_same n 0 (sym is ∙ ap (number_at m) e ∙ root))))
    (λ (more : (u : Path) × (x : List ℕ) × (p ≡ u ++ x ∷ [])).
    named more.0 more.1 (ap (number_at m) (sym more.2) ∙ is) ∙ sym (ap (name_or volume) (ap last_name more.2 ∙ last_is more.0 more.1)))
    (by_last p)

-- the number of the directory of a path is that of what is kept there
pub above_now : (at : Held) (m : Nodes) → IsShown at m → (n : ℕ) (z : Spot) → at n ≡ Some z → (p : Path) → number_at m p ≡ Some n → number_at m (parent_of p) ≡ Some z.parent
above_now at m s n z is p there = ⊎_elim
    (λ (e : p ≡ []).
    let root = node_at m [] 0 s.root in
    let zero_is : n ≡ 0 = some_same n 0 (sym there ∙ ap (number_at m) e ∙ s.root) in
    let same : spot 0 [] root.0 ≡ z = same_spot _ _ (sym (s.rooted root.0 root.1) ∙ ap at (sym zero_is) ∙ is) in
    ap (λ q. number_at m (parent_of q)) e ∙ s.root ∙ ap (λ (k : Spot). Some k.parent) same)
    (λ (more : (u : Path) × (x : List ℕ) × (p ≡ u ++ x ∷ [])).
    ap (λ q. number_at m (parent_of q)) more.2 ∙ ap (number_at m) (parent_ends more.0 more.1)
    ∙ parent_now at m s n z is more.0 more.1 (ap (number_at m) (sym more.2) ∙ there))
    (by_last p)

-- all numbers are below the count of places
pub few : (spots : List (Option Spot)) (m : Nodes) → IsShown (held spots) m → (q : Path) (n : ℕ) → number_at m q ≡ Some n → n < length spots
few spots m s q n there = held_within spots n (there_held (held spots) m s n (q, there))

-- what is told of a node, put together
pub told_is : (letters : Letters) (volume name : List ℕ) (m : Nodes) (places : List ℕ) (path : Path) (n z : Node) (up parent : ℕ) → ArePlaces m places → fin.get m path ≡ Some z → fin.get m path ≡ Some n
    → number_at m (parent_of path) ≡ Some up → slice_get places up ≡ Some parent → name ≡ name_or volume (last_name path) → told_node_of letters parent name z ≡ told_of letters volume (fin.keys m) (path, n)
told_is letters volume name m places path n z up parent are there also above at named =
    ap (λ k. told_node_of letters k name z) (some_same parent (place_of (parent_of path) (fin.keys m)) (sym at ∙ are (parent_of path) up above))
    ∙ ap (λ x. told_node_of letters (place_of (parent_of path) (fin.keys m)) x z) named
    ∙ ap (told_node_of letters (place_of (parent_of path) (fin.keys m)) (name_or volume (last_name path))) (some_same z n (sym there ∙ also))

-- ---- the numbers of all entries

numbers_at : (m : Nodes) (numbers : List ℕ) → numbers ≡ map (λ (e : Path × Node). e.1.number) (fin.entries m) → (place n : ℕ) → IsAt numbers place n → (p : Path) × (node : Node) × (slice_get (fin.entries m) place ≡ Some (p, node)) × (node.number ≡ n)
numbers_at m numbers is place n at = by (slice_get (fin.entries m) place) refl
  where
    by : (o : Option (Path × Node)) → slice_get (fin.entries m) place ≡ o → (p : Path) × (node : Node) × (slice_get (fin.entries m) place ≡ Some (p, node)) × (node.number ≡ n)
    by None e =
        let wrong : Some n ≡ None = sym at ∙ ap (λ l. slice_get l place) is ∙ slice_get-map (λ (e : Path × Node). e.1.number) (fin.entries m) place ∙ ap (option_map (λ (e : Path × Node). e.1.number)) e in cc
    by (Some e) f =
        let same : Some n ≡ Some e.1.number = sym at ∙ ap (λ l. slice_get l place) is ∙ slice_get-map (λ (e : Path × Node). e.1.number) (fin.entries m) place ∙ ap (option_map (λ (e : Path × Node). e.1.number)) f in
        (e.0, e.1, f, sym (some_same n e.1.number same))

module _ (m : Nodes) (numbers : List ℕ) (is : numbers ≡ map (λ (e : Path × Node). e.1.number) (fin.entries m)) where
  -- each number that is listed stands at a path
  pub numbers_there : (place n : ℕ) → IsAt numbers place n → IsThere m n
  numbers_there place n at =
      let found = numbers_at m numbers is place n at in
      (found.0, number_is m found.0 found.1 (entry_get m place found.0 found.1 found.2) ∙ ap (λ k. Some k) found.3)

  -- no number is listed at two places
  pub numbers_apart : OnePath m → AreApart numbers
  numbers_apart one a b n is_a is_b =
      let x = numbers_at m numbers is a n is_a in
      let y = numbers_at m numbers is b n is_b in
      let here = number_is m x.0 x.1 (entry_get m a x.0 x.1 x.2) ∙ ap (λ k. Some k) x.3 in
      let also = number_is m y.0 y.1 (entry_get m b y.0 y.1 y.2) ∙ ap (λ k. Some k) y.3 in
      sym (entry_place m a x.0 x.1 x.2) ∙ ap (λ p. place_of p (fin.keys m)) (one x.0 y.0 n here also) ∙ entry_place m b y.0 y.1 y.2

  -- each number is told the place of its path among all paths
  pub are_places : OnePath m → (places : List ℕ) → ((place n : ℕ) → IsAt numbers place n → IsAt places n place) → ArePlaces m places
  are_places one places at path n there =
      let node = node_at m path n there in
      let found = get_entry m path node.0 node.1 in
      let numbered : IsAt numbers found.0 n = ap (λ l. slice_get l found.0) is ∙ slice_get-map (λ (e : Path × Node). e.1.number) (fin.entries m) found.0 ∙ ap (option_map (λ (e : Path × Node). e.1.number)) found.1 ∙ ap (λ k. Some k) node.2 in
      at found.0 n numbered ∙ ap (λ k. Some k) (sym (entry_place m found.0 path node.0 found.1))

  -- one number more tells one node more
  pub told_step : (f : (Path × Node) → told.Node) (nodes : List told.Node) (i n : ℕ) (new : told.Node) → slice_get numbers i ≡ Some n → nodes ≡ map f (take i (fin.entries m))
      → ((path : Path) (node : Node) → fin.get m path ≡ Some node → node.number ≡ n → new ≡ f (path, node)) → nodes ++ new ∷ [] ≡ map f (take (i + 1) (fin.entries m))
  told_step f nodes i n new at so_far tells =
      let found = numbers_at m numbers is i n at in
      ap (λ l. l ++ new ∷ []) so_far ∙ ap (λ x. map f (take i (fin.entries m)) ++ x ∷ []) (tells found.0 found.1 (entry_get m i found.0 found.1 found.2) found.3)
      ∙ sym (next (fin.entries m) i (found.0, found.1) found.2)
    where
      next : (es : List (Path × Node)) (i : ℕ) (e : Path × Node) → slice_get es i ≡ Some e → map f (take (i + 1) es) ≡ map f (take i es) ++ f e ∷ []
      next [] i e is = cc
      next (x ∷ es) zero e is = ap (λ k. f k ∷ []) (some_same x e is)
      next (x ∷ es) (suc i) e is = ap (λ k. map f (take k (x ∷ es))) more ∙ ap (λ l. f x ∷ l) (next es i e is)
        where
          more : suc i + 1 ≡ suc (i + 1)
          more = omega arith

-- as many numbers are listed as there are nodes
pub count_most : (m : Nodes) (numbers : List ℕ) → numbers ≡ map (λ (e : Path × Node). e.1.number) (fin.entries m) → length numbers ≡ fin.len m
count_most m numbers is = ap length is ∙ length-map (fin.entries m) (λ (e : Path × Node). e.1.number) ∙ sym (fin.len-entries m)
