-- A listing has exactly what stands in a directory.
use Rattle.std.proofs.Common.{Option, ◌≡◌, ℕ, zero, suc, T, ◌||◌, ◌+◌, ◌-◌, ◌<◌, Bool, true, false, cond, ◌&&◌, not, eqb, List, [], ◌∷◌, ◌++◌, length, drop, map, get_or, Some, None, sym, ap, ◌∙◌, refl, subst, arith, ⊎_elim, ◌⊎◌, inl, inr}
use Rattle.std.specs.declared.cmp.Ordering.{Ordering}
use Rattle.std.specs.declared.cmp.Ordering.TheVariants.{Less, Equal, Greater}
use Rattle.std.specs.Ordering.{is_lt, nat_cmp, ordering_then}
use Rattle.std.specs.Option.{option_map}
use Rattle.std.specs.List.{filter_map, cons_option, list_any, Contains, slice_get, AllByRecursion}
use Rattle.std.specs.List.Sorted.{IsStrictlySortedBy}
use Rattle.std.specs.Cmp.Lexicographic.{slice_cmp, nat_list_cmp_total}
use Rattle.std.specs.FinMap as fin
use Rattle.std.proofs.lemmas.Cmp.{tied_itself}
use Rattle.std.proofs.lemmas.Bool.Decides.{nat_tests}
use Rattle.std.proofs.lemmas.List.{length-append, length-drop}
use Rattle.plain_tree.specs.declared.nodes.Node.{Node}
use Rattle.plain_tree.specs.declared.calls.Entry.{Entry}
use Rattle.plain_tree.specs.declared.calls.Answer.TheVariants as answers
use Rattle.plain_tree.specs.declared.calls.Call.TheVariants.{Listing}
use Rattle.plain_tree.specs.declared.calls.Refusal.{Refusal}
use Rattle.plain_tree.specs.Paths.{Path, path_cmp, same_path, is_at_or_below, is_below, last_name, name_in}
use Rattle.plain_tree.specs.Tree.{Tree, Nodes, sort_of, entry_in, entries_in}
use Rattle.plain_tree.specs.Refusals.{no_dir}
use Rattle.plain_tree.specs.Calls.{answer, answer_unless}
use Rattle.plain_tree.specs.Laws.{IsExactListing}
use Rattle.plain_tree.proofs.MoveLemmas.{both_true, same_is, same_self, not_true, below_split, below_join, none_above}

abbrev Row : Type 0
Row = Path × Node

-- the name of a child
pub child_name : (dir : Path) (name : List ℕ) → name_in dir (dir ++ name ∷ []) ≡ Some name
child_name dir name =
    let p = dir ++ name ∷ [] in
    let long : length (dir ++ name ∷ []) ≡ length dir + 1 = length-append dir (name ∷ []) in
    let other : eqb (length (dir ++ name ∷ [])) (length dir) ≡ false = grind (arith, nat_tests) in
    let one : eqb (length (dir ++ name ∷ [])) (length dir + 1) ≡ true = grind (arith, nat_tests) in
    ap (λ b. cond ((b && not (eqb (length p) (length dir))) && eqb (length p) (length dir + 1)) (last_name p) None) (below_join dir (name ∷ []))
    ∙ ap (λ b. cond (not b && eqb (length p) (length dir + 1)) (last_name p) None) other ∙ ap (λ b. cond b (last_name p) None) one
    ∙ ap (slice_get p) (omega arith) ∙ at_end dir name
  where
    at_end : (dir : Path) (name : List ℕ) → slice_get (dir ++ name ∷ []) (length dir) ≡ Some name
    at_end [] name = refl
    at_end (x ∷ dir) name = at_end dir name

-- a path that has a name in a directory is that of a child
child_path : (dir p : Path) (name : List ℕ) → name_in dir p ≡ Some name → p ≡ dir ++ name ∷ []
child_path dir p name e =
    elim (is_below dir p && eqb (length p) (length dir + 1)) as (λ b. (is_below dir p && eqb (length p) (length dir + 1)) ≡ b → cond b (last_name p) None ≡ Some name → p ≡ dir ++ name ∷ []) [
      | true ↦ λ test named.
          let parts = both_true (is_below dir p) (eqb (length p) (length dir + 1)) test in
          let below = (both_true (is_at_or_below dir p) (not (eqb (length p) (length dir))) parts.0).0 in
          let long : length p ≡ length dir + 1 = grind (arith, nat_tests) in
          let rest = drop (length dir) p in
          let split : p ≡ dir ++ drop (length dir) p = below_split dir p below in
          let single = one_name (drop (length dir) p) (omega (arith, length-drop (length dir) p)) in
          let whole : p ≡ dir ++ single.0 ∷ [] = split ∙ ap (λ r. dir ++ r) single.1 in
          let last : Some single.0 ≡ Some name = sym (ap (λ q. slice_get q (length p - 1)) whole ∙ ap (slice_get (dir ++ single.0 ∷ [])) (omega arith) ∙ at_end dir single.0) ∙ named in
          whole ∙ ap (λ n. dir ++ n ∷ []) (same_name single.0 name last)
      | false ↦ λ test named. cc
    ] refl e
  where
    one_name : (r : Path) → length r ≡ 1 → (n : List ℕ) × (r ≡ n ∷ [])
    one_name [] e = absurd (omega arith)
    one_name (x ∷ []) e = (x, refl)
    one_name (x ∷ y ∷ r) e = absurd (omega arith)

    at_end : (dir : Path) (name : List ℕ) → slice_get (dir ++ name ∷ []) (length dir) ≡ Some name
    at_end [] name = refl
    at_end (x ∷ dir) name = at_end dir name

    same_name : (a b : List ℕ) → ◌≡◌ {A = Option (List ℕ)} (Some a) (Some b) → a ≡ b
    same_name a b e = cc

-- an entry of a list
here : (x : Entry) (xs : List Entry) → Contains (x ∷ xs) x
here x xs = (0, omega arith, refl)

further : (o : Option Entry) (xs : List Entry) (x : Entry) → Contains xs x → Contains (cons_option o xs) x
further None xs x c = c
further (Some y) xs x c = (suc c.0, omega (arith, c.1), c.2)

first_or_rest : (y : Entry) (xs : List Entry) (x : Entry) → Contains (y ∷ xs) x → (y ≡ x) ⊎ Contains xs x
first_or_rest y xs x c = by c.0 c.1 c.2
  where
    by : (k : ℕ) → k < length (y ∷ xs) → get_or (y ∷ xs) k x ≡ x → (y ≡ x) ⊎ Contains xs x
    by zero lt e = inl e
    by (suc k) lt e = inr (k, omega arith, e)

-- each child that is found has its line
complete_in : (es : List Row) (dir : Path) (name : List ℕ) (node : Node) → fin.find path_cmp (dir ++ name ∷ []) es ≡ Some node → Contains (filter_map (entry_in dir) es) (record { sort = sort_of node.kind; name = name })
complete_in [] dir name node found = cc
complete_in (e ∷ es) dir name node found =
    elim (same_path (dir ++ name ∷ []) e.0) as (λ b. same_path (dir ++ name ∷ []) e.0 ≡ b → cond b (Some e.1) (fin.find path_cmp (dir ++ name ∷ []) es) ≡ Some node → Contains (cons_option (entry_in dir e) (filter_map (entry_in dir) es)) (record { sort = sort_of node.kind; name = name })) [
      | true ↦ λ same f.
          let line : Entry = record { sort = sort_of node.kind; name = name } in
          let named : name_in dir e.0 ≡ Some name = ap (name_in dir) (sym (same_is (dir ++ name ∷ []) e.0 same)) ∙ child_name dir name in
          let node_is : e.1 ≡ node = cc in
          let entry : entry_in dir e ≡ Some line = ap (option_map (λ name. record { sort = sort_of e.1.kind; name = name })) named ∙ ap (λ (n : Node). Some (record { sort = sort_of n.kind; name = name })) node_is in
          subst (λ (o : Option Entry). Contains (cons_option o (filter_map (entry_in dir) es)) line) (sym entry) (here line (filter_map (entry_in dir) es))
      | false ↦ λ other f. further (entry_in dir e) (filter_map (entry_in dir) es) _ (complete_in es dir name node f)
    ] refl found

-- what a line says
pub line_says : (dir : Path) (e : Row) (line : Entry) → entry_in dir e ≡ Some line → (e.0 ≡ dir ++ line.name ∷ []) × (line.sort ≡ sort_of e.1.kind)
line_says dir e line is = by (name_in dir e.0) refl is
  where
    by : (o : Option (List ℕ)) → name_in dir e.0 ≡ o → option_map (λ name. record { sort = sort_of e.1.kind; name = name }) o ≡ Some line → (e.0 ≡ dir ++ line.name ∷ []) × (line.sort ≡ sort_of e.1.kind)
    by None named f = cc
    by (Some name) named f =
        let made : Entry = record { sort = sort_of e.1.kind; name = name } in
        let same : made ≡ line = cc in
        (child_path dir e.0 name named ∙ ap (λ (x : Entry). dir ++ x.name ∷ []) same, sym (ap (λ (x : Entry). x.sort) same))

none_found : (es : List Row) (q : Path) → list_any (same_path q) (map (λ e. e.0) es) ≡ false → fin.find path_cmp q es ≡ None
none_found [] q e = refl
none_found (x ∷ es) q e =
    elim (same_path q x.0) as (λ b. (b || list_any (same_path q) (map (λ e. e.0) es)) ≡ false → cond b (Some x.1) (fin.find path_cmp q es) ≡ None) [
      | true ↦ λ e. cc
      | false ↦ λ e. none_found es q e
    ] e

-- each line is of a child that is found
sound_in : (es : List Row) (dir : Path) (line : Entry) → fin.is_sorted path_cmp es ≡ true → Contains (filter_map (entry_in dir) es) line → (node : Node) × (fin.find path_cmp (dir ++ line.name ∷ []) es ≡ Some node) × (line.sort ≡ sort_of node.kind)
sound_in [] dir line sorted c = absurd (omega (arith, c.1))
sound_in (e ∷ es) dir line sorted c =
    let parts = both_true (fin.Entries.below_all path_cmp e.0 es) (fin.is_sorted path_cmp es) sorted in
    let later : Contains (filter_map (entry_in dir) es) line → (node : Node) × (fin.find path_cmp (dir ++ line.name ∷ []) (e ∷ es) ≡ Some node) × (line.sort ≡ sort_of node.kind) = λ c.
    let rest = sound_in es dir line parts.1 c in
    let apart : same_path (dir ++ line.name ∷ []) e.0 ≡ false = not_true (same_path (dir ++ line.name ∷ []) e.0) (λ same.
    let wrong : None ≡ Some rest.0 = sym (none_found es e.0 (none_above es e.0 parts.0)) ∙ ap (λ q. fin.find path_cmp q es) (sym (same_is (dir ++ line.name ∷ []) e.0 same)) ∙ rest.1 in cc) in
    (rest.0, ap (λ b. cond b (Some e.1) (fin.find path_cmp (dir ++ line.name ∷ []) es)) apart ∙ rest.1, rest.2) in
    elim (entry_in dir e) as (λ o. entry_in dir e ≡ o → Contains (cons_option o (filter_map (entry_in dir) es)) line → (node : Node) × (fin.find path_cmp (dir ++ line.name ∷ []) (e ∷ es) ≡ Some node) × (line.sort ≡ sort_of node.kind)) [
      | None ↦ λ is c. later c
      | Some first ↦ λ is c. ⊎_elim
          (λ same.
          let says = line_says dir e line (is ∙ ap (λ (x : Entry). Some x) same) in
          (e.1, ap (λ b. cond b (Some e.1) (fin.find path_cmp (dir ++ line.name ∷ []) es)) (ap (same_path (dir ++ line.name ∷ [])) says.0 ∙ same_self (dir ++ line.name ∷ [])), says.1))
          later (first_or_rest first (filter_map (entry_in dir) es) line c)
    ] refl c

-- children of one directory are in the order of their names
pub cmp_children : (dir : Path) (a b : List ℕ) → path_cmp (dir ++ a ∷ []) (dir ++ b ∷ []) ≡ slice_cmp nat_cmp a b
cmp_children [] a b = last (slice_cmp nat_cmp a b)
  where
    last : (r : Ordering) → ordering_then r Equal ≡ r
    last Less = refl
    last Equal = refl
    last Greater = refl
cmp_children (x ∷ dir) a b = ap (λ r. ordering_then r (path_cmp (dir ++ a ∷ []) (dir ++ b ∷ []))) (tied_itself nat_list_cmp_total x) ∙ cmp_children dir a b

is_less : (r : Ordering) → is_lt r ≡ true → r ≡ Less
is_less Less e = refl
is_less Equal e = cc
is_less Greater e = cc

names_above : (es : List Row) (dir p : Path) (name : List ℕ) → p ≡ dir ++ name ∷ [] → fin.Entries.below_all path_cmp p es ≡ true → AllByRecursion (λ y. slice_cmp nat_cmp name y ≡ Less) (map (λ (e : Entry). e.name) (filter_map (entry_in dir) es))
names_above [] dir p name is above = tt
names_above (e ∷ es) dir p name is above =
    let parts = both_true (is_lt (path_cmp p e.0)) (fin.Entries.below_all path_cmp p es) above in
    let rest = names_above es dir p name is parts.1 in
    elim (entry_in dir e) as (λ o. entry_in dir e ≡ o → AllByRecursion (λ y. slice_cmp nat_cmp name y ≡ Less) (map (λ (e : Entry). e.name) (cons_option o (filter_map (entry_in dir) es)))) [
      | None ↦ λ _. rest
      | Some line ↦ λ entry. (sym (cmp_children dir name line.name) ∙ ap (λ q. path_cmp q (dir ++ line.name ∷ [])) (sym is) ∙ ap (path_cmp p) (sym (line_says dir e line entry).0) ∙ is_less (path_cmp p e.0) parts.0, rest)
    ] refl

names_ascend : (es : List Row) (dir : Path) → fin.is_sorted path_cmp es ≡ true → IsStrictlySortedBy (slice_cmp nat_cmp) (map (λ (e : Entry). e.name) (filter_map (entry_in dir) es))
unfolding IsStrictlySortedBy
names_ascend [] dir sorted = tt
names_ascend (e ∷ es) dir sorted =
    let parts = both_true (fin.Entries.below_all path_cmp e.0 es) (fin.is_sorted path_cmp es) sorted in
    let rest = names_ascend es dir parts.1 in
    elim (entry_in dir e) as (λ o. entry_in dir e ≡ o → IsStrictlySortedBy (slice_cmp nat_cmp) (map (λ (e : Entry). e.name) (cons_option o (filter_map (entry_in dir) es)))) [
      | None ↦ λ _. rest
      | Some line ↦ λ entry. (names_above es dir e.0 line.name (line_says dir e line entry).0 parts.0, rest)
    ] refl

sorted_entries : (m : Nodes) → fin.is_sorted path_cmp (fin.entries m) ≡ true
sorted_entries m = is_true (fin.is_sorted path_cmp (fin.entries m)) (fin.entries_sorted m)
  where
    is_true : (b : Bool) → T b → b ≡ true
    is_true true h = refl
    is_true false h = absurd h

-- the entries of a directory are just the nodes that stand directly in it
pub exact : (m : Nodes) (dir : Path) → IsExactListing m dir (entries_in m dir)
exact m dir = record {
  complete = λ name node found. complete_in (fin.entries m) dir name node (sym (fin.get-entries m (dir ++ name ∷ [])) ∙ found);
  sound = λ line c. let s = sound_in (fin.entries m) dir line (sorted_entries m) c in (s.0, fin.get-entries m (dir ++ line.name ∷ []) ∙ s.1, s.2);
  ascends = names_ascend (fin.entries m) dir (sorted_entries m);
}

-- what a listing answers is just what stands directly in the directory
pub listing_exact : (t : Tree) (dir : Path) (entries : List Entry) → answer t (Listing dir) ≡ answers.Names entries → IsExactListing t.nodes dir entries
listing_exact t dir entries e =
    elim (no_dir t.nodes dir) as (λ (r : Option Refusal). answer_unless r (answers.Names (entries_in t.nodes dir)) ≡ answers.Names entries → IsExactListing t.nodes dir entries) [
      | None ↦ λ f. let same : entries_in t.nodes dir ≡ entries = cc in subst (λ (l : List Entry). IsExactListing t.nodes dir l) same (exact t.nodes dir)
      | Some refusal ↦ λ f. cc
    ] e
