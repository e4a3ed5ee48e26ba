-- What is in a directory, by the bytes of the names.
use Rattle.std.proofs.Common.{Option, Bool, IsTrue, IsFalse, ◌≡◌, ℕ, zero, suc, ◌+◌, true, false, nat_lt, cond, List, [], ◌∷◌, ◌++◌, length, take, append_assoc, map, Some, None, IsSome, sym, ap, ◌∙◌, refl, subst, arith, inl, inr, ⊎_elim}
use Rattle.std.specs.List.{AllByRecursion}
use Rattle.std.specs.List.Sorted.{IsStrictlySortedBy}
use Rattle.std.specs.Option.{option_map}
use Rattle.std.specs.Ordering.{is_eq, ordering_reverse}
use Rattle.std.specs.declared.cmp.Ordering.{Ordering}
use Rattle.std.specs.declared.cmp.Ordering.TheVariants.{Less, Equal, Greater}
use Rattle.std.specs.FinMap as fin
use Rattle.std.proofs.lemmas.Cmp.{tied_itself, nat_list_cmp_total}
use Rattle.index_model.specs.Places.{IsAt}
use Rattle.plain_tree.specs.declared.calls.Entry.{Entry}
use Rattle.plain_tree.specs.Links.{name_cmp}
use Rattle.plain_tree.specs.Paths.{Name, Path}
use Rattle.plain_tree.specs.Tree as plain
use Rattle.plain_tree.proofs.LinkLemmas.{name_exact}
use Rattle.plain_tree.proofs.ListedLemmas.{pairs, sort_at, listed}
use Rattle.extent_map.specs.Cells.{Tape}
use Rattle.file_tree.specs.declared.nodes.Node.{Node}
use Rattle.file_tree.specs.declared.nodes.Spot.{Spot}
use Rattle.file_tree.specs.Tree.{Nodes, number_at, plain_node_of, plain_nodes, whole}
use Rattle.std.specs.Option.{IfSome, IfNone}
use Rattle.file_tree.specs.Seen.{Held, held, IsShown}
use Rattle.file_tree.proofs.WalkLemmas.{none_past}
use Rattle.file_tree.specs.Listing.{line_of, lines_in, lines_at}
use Rattle.file_tree.specs.Beside.{Key, keys_of}
use Rattle.file_tree.specs.Order.{IsIn, IsRunAt}
use Rattle.name_tries.specs.Keys.{name_of, name_in}
use Rattle.name_tries.specs.Listing.{Ascend, IsListed}
use Rattle.name_tries.proofs.ItemLemmas.{some_same}
use Rattle.file_tree.proofs.PathLemmas.{number_is, node_at}
use Rattle.file_tree.proofs.ShownLemmas.{spot, kept_at, stands_in}
use Rattle.plain_tree.proofs.Validity.{child_listed}
use Rattle.file_tree.proofs.EditLemmas.{parent_ends}
use Rattle.file_tree.proofs.PlainLemmas.{plain_get}
use Rattle.file_tree.proofs.ReadLemmas.{sort_same}
use Rattle.file_tree.proofs.MemberLemmas.{to_all, in_front, in_rest, in_either}
use Rattle.file_tree.proofs.KeyLemmas.{key_at, of_key}
use Rattle.file_tree.proofs.NameLemmas.{near_held}

-- ---- names of a directory

named_in : {X Y : Type 0} (f : X → Y) (x : X) (xs : List X) → IsIn x xs → IsIn (f x) (map f xs)
named_in f x [] none = elim none [ ]
named_in f x (y ∷ xs) (inl same) = inl (ap f same)
named_in f x (y ∷ xs) (inr more) = inr (named_in f x xs more)

names_ascend : (name : ℕ → Name) (ns : List ℕ) → Ascend name ns → IsStrictlySortedBy name_cmp (map name ns)
unfolding IsStrictlySortedBy
names_ascend name [] up = tt
names_ascend name (n ∷ ns) up = (later ns up.0, names_ascend name ns up.1)
  where
    later : (ks : List ℕ) → ((m : ℕ) → IsIn m ks → name_cmp (name n) (name m) ≡ Less) → AllByRecursion (λ y. name_cmp (name n) y ≡ Less) (map name ks)
    later [] up = tt
    later (k ∷ ks) up = (up k (inl refl), later ks (λ m here. up m (inr here)))

module _ (at : Held) (m : Nodes) (s : IsShown at m) (dir : ℕ) (p : Path) (there : number_at m p ≡ Some dir) where
  -- what has a name in the directory stands under it, and what stands there has that name
  named_node : (n : ℕ) (name : Name) → keys_of at n ≡ Some (dir, name) → (z : Spot) × (at n ≡ Some z) × (fin.get m (p ++ name ∷ []) ≡ Some z.node)
  named_node n name is =
      let h = of_key at n (dir, name) is in
      (h.1, h.2, ap (λ (k : Key). fin.get m (p ++ k.1 ∷ [])) (sym h.3) ∙ stands_in at m s n h.1 p h.2 h.0 (there ∙ ap (λ (k : Key). Some k.0) (sym h.3)))

  named_stands : (n : ℕ) (name : Name) → keys_of at n ≡ Some (dir, name) → number_at m (p ++ name ∷ []) ≡ Some n
  named_stands n name is =
      let h = named_node n name is in
      number_is m (p ++ name ∷ []) h.0.node h.2 ∙ ap (λ k. Some k) (s.numbered n h.0 h.1)

  stands_named : (name : Name) (n : ℕ) → number_at m (p ++ name ∷ []) ≡ Some n → keys_of at n ≡ Some (dir, name)
  stands_named name n is =
      let node = node_at m (p ++ name ∷ []) n is in
      let up = node_at m p dir there in
      key_at at n (Some (spot up.0.number name node.0)) (λ e. s.behind p name node.0 node.1 (node.2 ∙ e))
      (ap at (sym node.2) ∙ kept_at at m s p name node.0 up.0 node.1 up.1) ∙ ap (λ k. Some (k, name)) up.2

  -- the numbers in a directory stand there in a run
  pub run_at : (ns : List ℕ) → IsListed (keys_of at) dir ns → IsRunAt m p ns
  run_at ns r = record {
    names = map (name_in (keys_of at)) ns;
    each = all ns r.each;
    every = λ name n is.
        let key = stands_named name n is in
        subst (λ x. IsIn x (map (name_in (keys_of at)) ns)) (ap name_of key) (named_in (name_in (keys_of at)) n ns (r.every n name key));
    ascend = names_ascend (name_in (keys_of at)) ns r.ascend;
  }
    where
      all : (ks : List ℕ) → ((k : ℕ) → IsIn k ks → (name : Name) × (keys_of at k ≡ Some (dir, name)))
          → map (λ (name : Name). number_at m (p ++ name ∷ [])) (map (name_in (keys_of at)) ks) ≡ map (λ k. Some k) ks
      all [] each = refl
      all (k ∷ ks) each =
          let told = each k (inl refl) in
          ap (λ o. o ∷ map (λ (name : Name). number_at m (p ++ name ∷ [])) (map (name_in (keys_of at)) ks)) (ap (λ x. number_at m (p ++ name_of x ∷ [])) told.1 ∙ named_stands k told.0 told.1)
          ∙ ap (λ l. Some k ∷ l) (all ks (λ j here. each j (inr here)))

-- ---- lines

found_line : (es : List Entry) → IsStrictlySortedBy name_cmp (map (λ (e : Entry). e.name) es) → (e : Entry) → IsIn e es → fin.find name_cmp e.name (pairs es) ≡ Some e.sort
unfolding IsStrictlySortedBy
found_line [] sorted e none = elim none [ ]
found_line (x ∷ es) sorted e (inl same) =
    ap (λ z. fin.find name_cmp z.name (pairs (x ∷ es))) same
    ∙ ap (λ r. cond (is_eq r) (Some x.sort) (fin.find name_cmp x.name (pairs es))) (tied_itself nat_list_cmp_total x.name) ∙ ap (λ z. Some z.sort) (sym same)
found_line (x ∷ es) sorted e (inr more) =
    let less = before es sorted.0 more in
    let later : name_cmp e.name x.name ≡ Greater = nat_list_cmp_total.antisymm e.name x.name ∙ ap ordering_reverse less in
    ap (λ r. cond (is_eq r) (Some x.sort) (fin.find name_cmp e.name (pairs es))) later ∙ found_line es sorted.1 e more
  where
    before : (ds : List Entry) → AllByRecursion (λ y. name_cmp x.name y ≡ Less) (map (λ (e : Entry). e.name) ds) → IsIn e ds → name_cmp x.name e.name ≡ Less
    before [] all none = elim none [ ]
    before (d ∷ ds) all (inl same) = ap (λ z. name_cmp x.name z.name) same ∙ all.0
    before (d ∷ ds) all (inr rest) = before ds all.1 rest

no_line : (es : List Entry) (q : Name) → ((e : Entry) → IsIn e es → e.name ≡ q → ⊥) → fin.find name_cmp q (pairs es) ≡ None
no_line [] q none = refl
no_line (x ∷ es) q none = by (name_cmp q x.name) refl ∙ no_line es q (λ e here. none e (inr here))
  where
    by : (r : Ordering) → name_cmp q x.name ≡ r → cond (is_eq (name_cmp q x.name)) (Some x.sort) (fin.find name_cmp q (pairs es)) ≡ fin.find name_cmp q (pairs es)
    by Less e = ap (λ r. cond (is_eq r) (Some x.sort) (fin.find name_cmp q (pairs es))) e
    by Equal e = absurd (none x (inl refl) (sym (name_exact q x.name e)))
    by Greater e = ap (λ r. cond (is_eq r) (Some x.sort) (fin.find name_cmp q (pairs es))) e

line_in : (at : Held) (ns : List ℕ) (n : ℕ) (z : Spot) → at n ≡ Some z → IsIn n ns → IsIn (line_of z) (lines_at at ns)
line_in at [] n z is none = elim none [ ]
line_in at (k ∷ ns) n z is (inl same) = in_front (line_of z) (lines_in (at k)) (lines_at at ns) (subst (λ o. IsIn (line_of z) (lines_in o)) (sym is ∙ ap at same) (inl refl))
line_in at (k ∷ ns) n z is (inr more) = in_rest (line_of z) (lines_in (at k)) (lines_at at ns) (line_in at ns n z is more)

of_line : (at : Held) (ns : List ℕ) (e : Entry) → IsIn e (lines_at at ns) → (n : ℕ) × (z : Spot) × IsIn n ns × (at n ≡ Some z) × (e ≡ line_of z)
of_line at [] e here = elim here [ ]
of_line at (k ∷ ns) e here = ⊎_elim
    (λ (this : IsIn e (lines_in (at k))). let found = one (at k) this in (k, found.0, inl refl, found.1, found.2))
    (λ rest. let more = of_line at ns e rest in (more.0, more.1, inr more.2, more.3, more.4))
    (in_either e (lines_in (at k)) (lines_at at ns) here)
  where
    one : (o : Option Spot) → IsIn e (lines_in o) → (z : Spot) × (o ≡ Some z) × (e ≡ line_of z)
    one None none = absurd none
    one (Some z) (inl same) = (z, refl, same)
    one (Some z) (inr none) = absurd none

line_names : (at : Held) (dir : ℕ) (ns : List ℕ) → ((n : ℕ) → IsIn n ns → (name : Name) × (keys_of at n ≡ Some (dir, name)))
    → map (λ (e : Entry). e.name) (lines_at at ns) ≡ map (name_in (keys_of at)) ns
line_names at dir [] each = refl
line_names at dir (n ∷ ns) each =
    let told = each n (inl refl) in
    let h = of_key at n (dir, told.0) told.1 in
    ap (λ o. map (λ (e : Entry). e.name) (lines_in o ++ lines_at at ns)) h.2 ∙ ap (λ l. h.1.name ∷ l) (line_names at dir ns (λ k here. each k (inr here)))
    ∙ ap (λ x. x ∷ map (name_in (keys_of at)) ns) (ap (λ (k : Key). k.1) h.3 ∙ sym (ap name_of told.1))

-- the lines of what is in a directory are those of the plain tree's listing
pub lines_are : (at : Held) (m : Nodes) → IsShown at m → (dir : ℕ) (ns : List ℕ) → IsListed (keys_of at) dir ns
    → (tape : Tape) (p : Path) → number_at m p ≡ Some dir → lines_at at ns ≡ plain.entries_in (plain_nodes tape m) p
lines_are at m s dir ns r tape p there = listed (lines_at at ns) (plain_nodes tape m) p sorted (λ q. by q (fin.get m (p ++ q ∷ [])) refl)
  where
    sorted : IsStrictlySortedBy name_cmp (map (λ (e : Entry). e.name) (lines_at at ns))
    sorted = subst (IsStrictlySortedBy name_cmp) (sym (line_names at dir ns r.each)) (names_ascend (name_in (keys_of at)) ns r.ascend)

    by : (q : Name) (o : Option Node) → fin.get m (p ++ q ∷ []) ≡ o → fin.find name_cmp q (pairs (lines_at at ns)) ≡ sort_at (fin.get (plain_nodes tape m) (p ++ q ∷ []))
    by q None e =
        no_line (lines_at at ns) q (λ line here named.
        let from = of_line at ns line here in
        let told = r.each from.0 from.2 in
        let h = of_key at from.0 (dir, told.0) told.1 in
        let same : from.1 ≡ h.1 = some_same from.1 h.1 (sym from.3 ∙ h.2) in
        let name : told.0 ≡ q = sym (ap (λ (k : Key). k.1) h.3) ∙ ap (λ (z : Spot). z.name) (sym same) ∙ ap (λ (x : Entry). x.name) (sym from.4) ∙ named in
        let stands = named_stands at m s dir p there from.0 told.0 told.1 in
        let wrong : None ≡ Some from.0 = sym (ap (option_map (λ (n : Node). n.number)) e) ∙ ap (λ x. number_at m (p ++ x ∷ [])) (sym name) ∙ stands in cc)
        ∙ sym (ap sort_at (plain_get tape m (p ++ q ∷ []) ∙ ap (option_map (plain_node_of tape)) e))
    by q (Some node) e =
        let key = stands_named at m s dir p there q node.number (number_is m (p ++ q ∷ []) node e) in
        let up = node_at m p dir there in
        let kept = kept_at at m s p q node up.0 e up.1 in
        let z : Spot = spot up.0.number q node in
        found_line (lines_at at ns) sorted (line_of z) (line_in at ns node.number z kept (r.every node.number q key))
        ∙ ap (λ k. Some k) (sym (sort_same tape node.kind))
        ∙ sym (ap sort_at (plain_get tape m (p ++ q ∷ []) ∙ ap (option_map (plain_node_of tape)) e))

lines_more : (at : Held) (ns : List ℕ) (i n : ℕ) (z : Spot) → IsAt ns i n → at n ≡ Some z → lines_at at (take (suc i) ns) ≡ lines_at at (take i ns) ++ line_of z ∷ []
lines_more at [] i n z is kept = cc
lines_more at (k ∷ ns) zero n z is kept = ap (λ o. lines_in o ++ []) (ap at (some_same k n is) ∙ kept)
lines_more at (k ∷ ns) (suc i) n z is kept =
    ap (λ l. lines_in (at k) ++ l) (lines_more at ns i n z is kept) ∙ sym (append_assoc (lines_in (at k)) (lines_at at (take i ns)) (line_of z ∷ []))

-- one number more adds its line
pub lines_next : (at : Held) (ns : List ℕ) (i n : ℕ) (z : Spot) → IsAt ns i n → at n ≡ Some z → lines_at at (take (i + 1) ns) ≡ lines_at at (take i ns) ++ line_of z ∷ []
lines_next at ns i n z is kept = let e : i + 1 ≡ suc i = omega arith in ap (λ k. lines_at at (take k ns)) e ∙ lines_more at ns i n z is kept

-- ---- what a search tells

-- what a look-up in a directory gives is the number that stands there
pub child_result : (at : Held) (m : Nodes) → IsShown at m → (dir : ℕ) (name asked : Name) (r : Option ℕ) → name ≡ asked
    → IfSome r (λ n. keys_of at n ≡ Some (dir, name)) → IfNone r ((n : ℕ) → keys_of at n ≡ Some (dir, name) → ⊥)
    → (p : Path) → number_at m p ≡ Some dir → number_at m (p ++ asked ∷ []) ≡ r
child_result at m s dir name asked (Some n) same told none p there =
    ap (λ x. number_at m (p ++ x ∷ [])) (sym same) ∙ named_stands at m s dir p there n name told
child_result at m s dir name asked None same told none p there = by (fin.get m (p ++ asked ∷ [])) refl
  where
    by : (o : Option Node) → fin.get m (p ++ asked ∷ []) ≡ o → number_at m (p ++ asked ∷ []) ≡ None
    by None e = ap (option_map (λ (n : Node). n.number)) e
    by (Some node) e =
        let key = stands_named at m s dir p there asked node.number (number_is m (p ++ asked ∷ []) node e) in
        absurd (none node.number (key ∙ ap (λ x. Some (dir, x)) (sym same)))

-- where a path leads to a node, so do those above
pub above_there : (spots : List (Option Spot)) (m : Nodes) → IsShown (held spots) m → (q r : Path) (k : ℕ) → number_at m (q ++ r) ≡ Some k → (j : ℕ) × (number_at m q ≡ Some j)
above_there spots m s q r k is = by (fin.get m q) refl
  where
    by : (o : Option Node) → fin.get m q ≡ o → (j : ℕ) × (number_at m q ≡ Some j)
    by (Some node) e = (node.number, number_is m q node e)
    by None e = let wrong : None ≡ Some k = sym (ap (option_map (λ (n : Node). n.number)) (none_past spots m s q r e)) ∙ is in cc

-- at each number in a directory something is kept
pub all_some : (at : Held) (dir : ℕ) (ns : List ℕ) → IsListed (keys_of at) dir ns → AllByRecursion (λ n. IsSome (at n)) ns
all_some at dir ns r = to_all (λ n. IsSome (at n)) ns (λ n here. let told = r.each n here in near_held at n dir told.0 told.1)

-- ---- whether anything is in a directory

-- whether anything is in a directory is whether its listing has an entry
pub anything_in : (at : Held) (m : Nodes) → IsShown at m → (dir : ℕ) (p : Path) → number_at m p ≡ Some dir → (some : Bool)
    → (IsTrue some → (n : ℕ) × (name : Name) × (keys_of at n ≡ Some (dir, name)))
    → (IsFalse some → (n : ℕ) (name : Name) → keys_of at n ≡ Some (dir, name) → ⊥)
    → some ≡ nat_lt 0 (length (plain.entries_in (plain_nodes whole m) p))
anything_in at m s dir p there true some none =
    let told = some refl in
    let h = named_node at m s dir p there told.0 told.1 told.2 in
    child_listed (plain_nodes whole m) p (p ++ told.1 ∷ []) (plain_node_of whole h.0.node)
    (plain_get whole m (p ++ told.1 ∷ []) ∙ ap (option_map (plain_node_of whole)) h.2) (not_top p told.1) (parent_ends p told.1)
  where
    not_top : (p : Path) (x : Name) → p ++ x ∷ [] ≡ [] → ⊥
    not_top [] x e = cc
    not_top (y ∷ p) x e = cc
anything_in at m s dir p there false some none =
    let empty : IsListed (keys_of at) dir [] = record { each = λ n here. absurd here; every = λ n name is. absurd (none refl n name is); ascend = tt } in
    ap (λ (es : List Entry). nat_lt 0 (length es)) (lines_are at m s dir [] empty whole p there)
