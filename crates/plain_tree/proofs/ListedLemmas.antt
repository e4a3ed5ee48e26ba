-- The lines that links show of a directory are those of the map's listing.
use Rattle.std.proofs.Common.{Option, ◌≡◌, ℕ, T, Bool, true, false, cond, ◌&&◌, List, [], ◌∷◌, ◌++◌, map, Some, None, sym, ap, ◌∙◌, refl}
use Rattle.std.specs.declared.cmp.Ordering.TheVariants.{Less}
use Rattle.std.specs.Ordering.{is_eq, is_lt}
use Rattle.std.specs.Option.{option_map}
use Rattle.std.specs.List.{filter_map, cons_option, AllByRecursion}
use Rattle.std.specs.List.Sorted.{IsStrictlySortedBy}
use Rattle.std.specs.Cmp.Lexicographic.{nat_list_cmp_total}
use Rattle.std.specs.Map.{lookup}
use Rattle.std.specs.FinMap as fin
use Rattle.plain_tree.specs.declared.nodes.Node.{Node}
use Rattle.plain_tree.specs.declared.calls.Entry.{Entry}
use Rattle.plain_tree.specs.declared.calls.Sort.{Sort}
use Rattle.plain_tree.specs.Paths.{Path, path_cmp, same_path, name_in}
use Rattle.plain_tree.specs.Tree.{Nodes, sort_of, entry_in, entries_in}
use Rattle.plain_tree.specs.Links.{Names, name_cmp, under, lines, line_of}
use Rattle.plain_tree.proofs.MoveLemmas.{same_is, not_same}
use Rattle.plain_tree.proofs.LinkLemmas.{name_exact}
use Rattle.plain_tree.proofs.ListingLemmas.{child_name, line_says, cmp_children, exact}

abbrev pub pair : Entry → List ℕ × Sort
pair e = (e.name, e.sort)

-- the names and sorts of entries
abbrev pub pairs : List Entry → List (List ℕ × Sort)
pairs es = map pair es

-- the sort of the node, where one is there
abbrev pub sort_at : Option Node → Option Sort
sort_at o = option_map (λ (n : Node). sort_of n.kind) o

unpaired : (es : List Entry) → map (λ (p : List ℕ × Sort). record { sort = p.1; name = p.0 }) (pairs es) ≡ es
unpaired [] = refl
unpaired (e ∷ es) = ap (λ l. e ∷ l) (unpaired es)

below_pairs : (es : List Entry) (k : List ℕ) → AllByRecursion (λ y. name_cmp k y ≡ Less) (map (λ (e : Entry). e.name) es) → fin.Entries.below_all name_cmp k (pairs es) ≡ true
below_pairs [] k later = refl
below_pairs (e ∷ es) k later = ap (λ r. is_lt r && fin.Entries.below_all name_cmp k (pairs es)) later.0 ∙ below_pairs es k later.1

sorted_pairs : (es : List Entry) → IsStrictlySortedBy name_cmp (map (λ (e : Entry). e.name) es) → fin.is_sorted name_cmp (pairs es) ≡ true
unfolding IsStrictlySortedBy
sorted_pairs [] sorted = refl
sorted_pairs (e ∷ es) sorted = ap (λ b. b && fin.is_sorted name_cmp (pairs es)) (below_pairs es e.name sorted.0) ∙ sorted_pairs es sorted.1

-- the sort under a name, in the lines of links
found_line : (o : Option Names) (q : List ℕ) → fin.find name_cmp q (pairs (lines o)) ≡ sort_at (under o q)
found_line None q = refl
found_line (Some names) q = by names.entries
  where
    by : (es : List (List ℕ × Node)) → fin.find name_cmp q (pairs (map line_of es)) ≡ sort_at (lookup (λ k. is_eq (name_cmp q k)) es)
    by [] = refl
    by (e ∷ es) = elim (is_eq (name_cmp q e.0)) as (λ b. cond b (Some (sort_of e.1.kind)) (fin.find name_cmp q (pairs (map line_of es))) ≡ sort_at (cond b (Some e.1) (lookup (λ k. is_eq (name_cmp q k)) es))) [
      | true ↦ refl
      | false ↦ by es
    ]

-- the sort under a name, in the listing of the map
found_entry : (es : List (Path × Node)) (dir : Path) (q : List ℕ) → fin.find name_cmp q (pairs (filter_map (entry_in dir) es)) ≡ sort_at (fin.find path_cmp (dir ++ q ∷ []) es)
found_entry [] dir q = refl
found_entry (e ∷ es) dir q =
    elim (entry_in dir e) as (λ o. entry_in dir e ≡ o → fin.find name_cmp q (pairs (cons_option o (filter_map (entry_in dir) es))) ≡ sort_at (cond (same_path (dir ++ q ∷ []) e.0) (Some e.1) (fin.find path_cmp (dir ++ q ∷ []) es))) [
      | None ↦ λ none.
          let apart : same_path (dir ++ q ∷ []) e.0 ≡ false = not_same (dir ++ q ∷ []) e.0 (λ same.
          let named : name_in dir e.0 ≡ Some q = ap (name_in dir) (sym (same_is (dir ++ q ∷ []) e.0 same)) ∙ child_name dir q in
          unlike none (ap (option_map (λ name. record { sort = sort_of e.1.kind; name = name })) named)) in
          found_entry es dir q ∙ ap (λ b. sort_at (cond b (Some e.1) (fin.find path_cmp (dir ++ q ∷ []) es))) (sym apart)
      | Some line ↦ λ is.
          let says = line_says dir e line is in
          let test : same_path (dir ++ q ∷ []) e.0 ≡ is_eq (name_cmp q line.name) = ap (same_path (dir ++ q ∷ [])) says.0 ∙ ap is_eq (cmp_children dir q line.name) in
          by (is_eq (name_cmp q line.name)) line says.1 (found_entry es dir q) ∙ ap (λ b. sort_at (cond b (Some e.1) (fin.find path_cmp (dir ++ q ∷ []) es))) (sym test)
    ] refl
  where
    unlike : {o : Option Entry} {x : Entry} → o ≡ None → o ≡ Some x → ⊥
    unlike {o} {x} none some = let wrong : None ≡ Some x = sym none ∙ some in cc

    by : (b : Bool) (line : Entry) → line.sort ≡ sort_of e.1.kind → fin.find name_cmp q (pairs (filter_map (entry_in dir) es)) ≡ sort_at (fin.find path_cmp (dir ++ q ∷ []) es) → cond b (Some line.sort) (fin.find name_cmp q (pairs (filter_map (entry_in dir) es))) ≡ sort_at (cond b (Some e.1) (fin.find path_cmp (dir ++ q ∷ []) es))
    by true line says rest = ap (λ s. Some s) says
    by false line says rest = rest

is_T : (b : Bool) → b ≡ true → T b
is_T true e = tt
is_T false e = cc

-- lines that ascend, and show of each name what the map has, are those of the listing
pub listed : (es : List Entry) (m : Nodes) (dir : Path) → IsStrictlySortedBy name_cmp (map (λ (e : Entry). e.name) es) → ((q : List ℕ) → fin.find name_cmp q (pairs es) ≡ sort_at (fin.get m (dir ++ q ∷ []))) → es ≡ entries_in m dir
listed es m dir ascend same =
    let one : pairs es ≡ pairs (entries_in m dir) = fin.Entries.same_entries name_cmp nat_list_cmp_total name_exact (pairs es) (pairs (entries_in m dir))
    (is_T _ (sorted_pairs es ascend)) (is_T _ (sorted_pairs (entries_in m dir) (exact m dir).ascends))
    (λ q. same q ∙ ap sort_at (fin.get-entries m (dir ++ q ∷ [])) ∙ sym (found_entry (fin.entries m) dir q)) in
    sym (unpaired es) ∙ ap (map (λ (p : List ℕ × Sort). record { sort = p.1; name = p.0 })) one ∙ unpaired (entries_in m dir)

-- both have the same lines where they have the same nodes
pub listed_same : (o : Option Names) (m : Nodes) (dir : Path) → IsStrictlySortedBy name_cmp (map (λ (e : Entry). e.name) (lines o)) → ((name : List ℕ) → fin.get m (dir ++ name ∷ []) ≡ under o name) → lines o ≡ entries_in m dir
listed_same o m dir ascend same = listed (lines o) m dir ascend (λ q. found_line o q ∙ ap sort_at (sym (same q)))
