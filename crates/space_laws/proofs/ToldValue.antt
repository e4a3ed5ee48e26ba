-- The value of an index that tells one is that value.
use Rattle.std.proofs.Common.{◌≡◌, ◌≢◌, ℕ, zero, suc, ◌+◌, ◌<◌, ◌≤◌, ◌++◌, Bool, true, false, cond, List, [], ◌∷◌, length, map, Option, Some, refl, ap, ◌∙◌, arith, length-append}
use Rattle.std.specs.Prelude.{◌==◌, ◌&&◌, nat_lt, filter}
use Rattle.std.specs.List.{enumerate_from}
use Rattle.std.specs.Option.{option_map, unwrap_or}
use Rattle.std.proofs.lemmas.Bool.{ne_eqb}
use Rattle.std.proofs.lemmas.Bool.Decides.{nat_tests}
use Rattle.std.proofs.lemmas.List.{append-nil, length-map}
use Rattle.std.proofs.lemmas.List.Elements.{filter-append}
use Rattle.index_model.specs.Canonical.{canonical}
use Rattle.index_model.specs.Values.{IndexValue, NodeFacts, NodeValue, Nodes, Tells, all_nodes, count, directory, facts_of, file, link, listed, no_nodes, value_in, value_of as node_value, volume_of}
use Rattle.index_model.specs.declared.indexes.Index.{Index}
use Rattle.index_model.specs.declared.nodes.NodeKind.{NodeKind}
use Rattle.index_model.specs.declared.nodes.NodeKind.TheVariants as kinds
use Rattle.index_model.specs.declared.nodes.Node.{Node}
use Rattle.space_laws.specs.Laws.{ValuesAreTold}
use Rattle.space_laws.specs.Files.{canon, followed, gathered, nodes_in, value_of, with_root}

abbrev Entry : Type 0
Entry = ℕ × NodeValue

-- the nodes in a list with their places, as the document has them, and those alone that stand in the directory itself
abbrev entries : (parent at : ℕ) → Nodes → List Entry
entries parent at no_nodes = []
entries parent at (directory facts inside behind) =
    (at, value_in parent facts kinds.Dir) ∷ (entries at (at + 1) inside ++ entries parent (at + 1 + count inside) behind)
entries parent at (file facts bytes extents behind) = (at, value_in parent facts (kinds.File bytes extents)) ∷ entries parent (at + 1) behind
entries parent at (link facts text behind) = (at, value_in parent facts (kinds.Link text)) ∷ entries parent (at + 1) behind

abbrev tops : (parent at : ℕ) → Nodes → List Entry
tops parent at no_nodes = []
tops parent at (directory facts inside behind) = (at, value_in parent facts kinds.Dir) ∷ tops parent (at + 1 + count inside) behind
tops parent at (file facts bytes extents behind) = (at, value_in parent facts (kinds.File bytes extents)) ∷ tops parent (at + 1) behind
tops parent at (link facts text behind) = (at, value_in parent facts (kinds.Link text)) ∷ tops parent (at + 1) behind

-- it stands in this directory
abbrev is_in : ℕ → Entry → Bool
is_in parent e = e.1.parent == parent && nat_lt 0 e.0

-- ---- which of them stand in a directory

yes : (parent at : ℕ) (facts : NodeFacts) (kind : NodeKind) → parent < at → is_in parent (at, value_in parent facts kind) ≡ true
yes parent at facts kind less = grind (arith, nat_tests)

never : (parent other at : ℕ) (facts : NodeFacts) (kind : NodeKind) → parent ≢ other → is_in other (at, value_in parent facts kind) ≡ false
never parent other at facts kind differ = ap (λ b. b && nat_lt 0 at) (ne_eqb parent other differ)

keep : (d : ℕ) (e : Entry) (es more : List Entry) → is_in d e ≡ true → filter (is_in d) es ≡ more → filter (is_in d) (e ∷ es) ≡ e ∷ more
keep d e es more is rest = ap (λ b. cond b (e ∷ filter (is_in d) es) (filter (is_in d) es)) is ∙ ap (λ (l : List Entry). e ∷ l) rest

drop_it : (d : ℕ) (e : Entry) (es more : List Entry) → is_in d e ≡ false → filter (is_in d) es ≡ more → filter (is_in d) (e ∷ es) ≡ more
drop_it d e es more is rest = ap (λ b. cond b (e ∷ filter (is_in d) es) (filter (is_in d) es)) is ∙ rest

-- none of them stands in a directory before all of them, but their own
none_low : (ns : Nodes) (parent at d : ℕ) → parent ≢ d → d < at → filter (is_in d) (entries parent at ns) ≡ []
none_low no_nodes parent at d differ less = refl
none_low (directory facts inside behind) parent at d differ less =
    drop_it d (at, value_in parent facts kinds.Dir) (entries at (at + 1) inside ++ entries parent (at + 1 + count inside) behind) []
    (never parent d at facts kinds.Dir differ)
    (filter-append (is_in d) (entries at (at + 1) inside) (entries parent (at + 1 + count inside) behind)
    ∙ ap (λ (l : List Entry). l ++ filter (is_in d) (entries parent (at + 1 + count inside) behind)) (none_low inside at (at + 1) d (λ e. omega (arith, e, less)) (omega (arith, less)))
    ∙ none_low behind parent (at + 1 + count inside) d differ (omega (arith, less)))
none_low (file facts bytes extents behind) parent at d differ less =
    drop_it d (at, value_in parent facts (kinds.File bytes extents)) (entries parent (at + 1) behind) []
    (never parent d at facts (kinds.File bytes extents) differ) (none_low behind parent (at + 1) d differ (omega (arith, less)))
none_low (link facts text behind) parent at d differ less =
    drop_it d (at, value_in parent facts (kinds.Link text)) (entries parent (at + 1) behind) []
    (never parent d at facts (kinds.Link text) differ) (none_low behind parent (at + 1) d differ (omega (arith, less)))

-- nor in one behind all of them
none_high : (ns : Nodes) (parent at d : ℕ) → parent ≢ d → at + count ns ≤ d → filter (is_in d) (entries parent at ns) ≡ []
none_high no_nodes parent at d differ le = refl
none_high (directory facts inside behind) parent at d differ le =
    drop_it d (at, value_in parent facts kinds.Dir) (entries at (at + 1) inside ++ entries parent (at + 1 + count inside) behind) []
    (never parent d at facts kinds.Dir differ)
    (filter-append (is_in d) (entries at (at + 1) inside) (entries parent (at + 1 + count inside) behind)
    ∙ ap (λ (l : List Entry). l ++ filter (is_in d) (entries parent (at + 1 + count inside) behind)) (none_high inside at (at + 1) d (λ e. omega (arith, e, le)) (omega (arith, le)))
    ∙ none_high behind parent (at + 1 + count inside) d differ (omega (arith, le)))
none_high (file facts bytes extents behind) parent at d differ le =
    drop_it d (at, value_in parent facts (kinds.File bytes extents)) (entries parent (at + 1) behind) []
    (never parent d at facts (kinds.File bytes extents) differ) (none_high behind parent (at + 1) d differ (omega (arith, le)))
none_high (link facts text behind) parent at d differ le =
    drop_it d (at, value_in parent facts (kinds.Link text)) (entries parent (at + 1) behind) []
    (never parent d at facts (kinds.Link text) differ) (none_high behind parent (at + 1) d differ (omega (arith, le)))

-- in their own directory stand those that have no other between
own : (ns : Nodes) (parent at : ℕ) → parent < at → filter (is_in parent) (entries parent at ns) ≡ tops parent at ns
own no_nodes parent at less = refl
own (directory facts inside behind) parent at less =
    keep parent (at, value_in parent facts kinds.Dir) (entries at (at + 1) inside ++ entries parent (at + 1 + count inside) behind) (tops parent (at + 1 + count inside) behind)
    (yes parent at facts kinds.Dir less)
    (filter-append (is_in parent) (entries at (at + 1) inside) (entries parent (at + 1 + count inside) behind)
    ∙ ap (λ (l : List Entry). l ++ filter (is_in parent) (entries parent (at + 1 + count inside) behind)) (none_low inside at (at + 1) parent (λ e. omega (arith, e, less)) (omega (arith, less)))
    ∙ own behind parent (at + 1 + count inside) (omega (arith, less)))
own (file facts bytes extents behind) parent at less =
    keep parent (at, value_in parent facts (kinds.File bytes extents)) (entries parent (at + 1) behind) (tops parent (at + 1) behind)
    (yes parent at facts (kinds.File bytes extents) less) (own behind parent (at + 1) (omega (arith, less)))
own (link facts text behind) parent at less =
    keep parent (at, value_in parent facts (kinds.Link text)) (entries parent (at + 1) behind) (tops parent (at + 1) behind)
    (yes parent at facts (kinds.Link text) less) (own behind parent (at + 1) (omega (arith, less)))

-- ---- each directory's own, among all

-- for each directory of this range, all of a list are those of a part of it
abbrev IsPart : (all part : List Entry) → (from to : ℕ) → Type 0
IsPart all part from to = (d : ℕ) → from ≤ d → d < to → filter (is_in d) all ≡ filter (is_in d) part

-- each directory among these has just its own nodes among all
abbrev HasOwn : List Entry → ℕ → Nodes → Type 0
HasOwn all at no_nodes = Unit {0}
HasOwn all at (directory facts inside behind) =
    (filter (is_in at) all ≡ tops at (at + 1) inside) × HasOwn all (at + 1) inside × HasOwn all (at + 1 + count inside) behind
HasOwn all at (file facts bytes extents behind) = HasOwn all (at + 1) behind
HasOwn all at (link facts text behind) = HasOwn all (at + 1) behind

abbrev head_of : ℕ → ℕ → NodeFacts → Entry
head_of parent at facts = (at, value_in parent facts kinds.Dir)

abbrev first_of : ℕ → Nodes → List Entry
first_of at inside = entries at (at + 1) inside

abbrev second_of : ℕ → ℕ → Nodes → Nodes → List Entry
second_of parent at inside behind = entries parent (at + 1 + count inside) behind

has_own : (ns : Nodes) (all : List Entry) (parent at : ℕ) → parent < at → IsPart all (entries parent at ns) at (at + count ns) → HasOwn all at ns
has_own no_nodes all parent at less part = tt
has_own (directory facts inside behind) all parent at less part = (
  part at (omega arith) (omega arith) ∙ here,
  has_own inside all at (at + 1) (omega arith) (λ d low high. part d (omega (arith, low)) (omega (arith, high)) ∙ within d low high),
  has_own behind all parent (at + 1 + count inside) (omega (arith, less)) (λ d low high. part d (omega (arith, low)) (omega (arith, high)) ∙ later d low),
)
  where
    here : filter (is_in at) ((head_of parent at facts) ∷ ((first_of at inside) ++ (second_of parent at inside behind))) ≡ tops at (at + 1) inside
    here = drop_it at (head_of parent at facts) ((first_of at inside) ++ (second_of parent at inside behind)) (tops at (at + 1) inside) (never parent at at facts kinds.Dir (λ e. omega (arith, e, less)))
        (filter-append (is_in at) (first_of at inside) (second_of parent at inside behind)
        ∙ ap (λ (l : List Entry). filter (is_in at) (first_of at inside) ++ l) (none_low behind parent (at + 1 + count inside) at (λ e. omega (arith, e, less)) (omega arith))
        ∙ append-nil (filter (is_in at) (first_of at inside))
        ∙ own inside at (at + 1) (omega arith))

    within : (d : ℕ) → at + 1 ≤ d → d < at + 1 + count inside → filter (is_in d) ((head_of parent at facts) ∷ ((first_of at inside) ++ (second_of parent at inside behind))) ≡ filter (is_in d) (first_of at inside)
    within d low high = drop_it d (head_of parent at facts) ((first_of at inside) ++ (second_of parent at inside behind)) (filter (is_in d) (first_of at inside)) (never parent d at facts kinds.Dir (λ e. omega (arith, e, less, low)))
        (filter-append (is_in d) (first_of at inside) (second_of parent at inside behind)
        ∙ ap (λ (l : List Entry). filter (is_in d) (first_of at inside) ++ l) (none_low behind parent (at + 1 + count inside) d (λ e. omega (arith, e, less, low)) high)
        ∙ append-nil (filter (is_in d) (first_of at inside)))

    later : (d : ℕ) → at + 1 + count inside ≤ d → filter (is_in d) ((head_of parent at facts) ∷ ((first_of at inside) ++ (second_of parent at inside behind))) ≡ filter (is_in d) (second_of parent at inside behind)
    later d low = drop_it d (head_of parent at facts) ((first_of at inside) ++ (second_of parent at inside behind)) (filter (is_in d) (second_of parent at inside behind)) (never parent d at facts kinds.Dir (λ e. omega (arith, e, less, low)))
        (filter-append (is_in d) (first_of at inside) (second_of parent at inside behind)
        ∙ ap (λ (l : List Entry). l ++ filter (is_in d) (second_of parent at inside behind)) (none_high inside at (at + 1) d (λ e. omega (arith, e, low)) low))
has_own (file facts bytes extents behind) all parent at less part =
    has_own behind all parent (at + 1) (omega (arith, less)) (λ d low high. part d (omega (arith, low)) (omega (arith, high))
    ∙ drop_it d (at, value_in parent facts (kinds.File bytes extents)) (entries parent (at + 1) behind) (filter (is_in d) (entries parent (at + 1) behind))
    (never parent d at facts (kinds.File bytes extents) (λ e. omega (arith, e, less, low))) refl)
has_own (link facts text behind) all parent at less part =
    has_own behind all parent (at + 1) (omega (arith, less)) (λ d low high. part d (omega (arith, low)) (omega (arith, high))
    ∙ drop_it d (at, value_in parent facts (kinds.Link text)) (entries parent (at + 1) behind) (filter (is_in d) (entries parent (at + 1) behind))
    (never parent d at facts (kinds.Link text) (λ e. omega (arith, e, less, low))) refl)

-- ---- gathered again

abbrev followed_value : NodeFacts → NodeKind → (inside behind : Nodes) → Nodes
followed_value facts kinds.Dir inside behind = directory facts inside behind
followed_value facts (kinds.File size extents) inside behind = file facts size extents behind
followed_value facts (kinds.Link text) inside behind = link facts text behind

abbrev gather : (ℕ → Nodes) → List Entry → Nodes
gather inside [] = no_nodes
gather inside (e ∷ behind) = followed_value e.1.facts e.1.kind (inside e.0) (gather inside behind)

abbrev gather_in : ℕ → List Entry → ℕ → Nodes
gather_in zero all parent = no_nodes
gather_in (suc depth) all parent = gather (gather_in depth all) (filter (is_in parent) all)

-- a list of nodes is gathered again, where each directory's own are, to a depth
abbrev AreGathered : ℕ → Type 0
AreGathered depth = (ns : Nodes) (all : List Entry) (parent at : ℕ) → count ns < depth → filter (is_in parent) all ≡ tops parent at ns → HasOwn all at ns
    → gather_in depth all parent ≡ ns

gathers_tops : (depth : ℕ) → AreGathered depth → (ns : Nodes) (all : List Entry) (parent at : ℕ) → count ns ≤ depth → HasOwn all at ns
    → gather (gather_in depth all) (tops parent at ns) ≡ ns
gathers_tops depth ih no_nodes all parent at le has = refl
gathers_tops depth ih (directory facts inside behind) all parent at le has =
    ap (λ (n : Nodes). directory facts n (gather (gather_in depth all) (tops parent (at + 1 + count inside) behind)))
    (ih inside all at (at + 1) (omega (arith, le)) has.0 has.1)
    ∙ ap (λ (n : Nodes). directory facts inside n) (gathers_tops depth ih behind all parent (at + 1 + count inside) (omega (arith, le)) has.2)
gathers_tops depth ih (file facts bytes extents behind) all parent at le has =
    ap (λ (n : Nodes). file facts bytes extents n) (gathers_tops depth ih behind all parent (at + 1) (omega (arith, le)) has)
gathers_tops depth ih (link facts text behind) all parent at le has =
    ap (λ (n : Nodes). link facts text n) (gathers_tops depth ih behind all parent (at + 1) (omega (arith, le)) has)

gathers : (depth : ℕ) → AreGathered depth
gathers zero ns all parent at less tops_are has = absurd (omega (arith, less))
gathers (suc depth) ns all parent at less tops_are has =
    ap (λ (l : List Entry). gather (gather_in depth all) l) tops_are ∙ gathers_tops depth (gathers depth) ns all parent at (omega (arith, less)) has

-- ---- the nodes of the index in place of their values

abbrev valued : List (ℕ × Node) → List Entry
valued es = map (λ e. (e.0, node_value e.1)) es

pick_valued : (b : Bool) (e : ℕ × Node) (rest : List (ℕ × Node)) (more : List Entry) → valued rest ≡ more
    → valued (cond b (e ∷ rest) rest) ≡ cond b ((e.0, node_value e.1) ∷ more) more
pick_valued true e rest more ih = ap (λ (l : List Entry). (e.0, node_value e.1) ∷ l) ih
pick_valued false e rest more ih = ih

filter_valued : (parent : ℕ) (es : List (ℕ × Node)) → valued (filter (λ e. e.1.parent == parent && nat_lt 0 e.0) es) ≡ filter (is_in parent) (valued es)
filter_valued parent [] = refl
filter_valued parent (e ∷ es) =
    pick_valued (e.1.parent == parent && nat_lt 0 e.0) e (filter (λ e. e.1.parent == parent && nat_lt 0 e.0) es) (filter (is_in parent) (valued es)) (filter_valued parent es)

same_followed : (node : Node) (kind : NodeKind) (inside behind : Nodes) → followed node kind inside behind ≡ followed_value (facts_of node) kind inside behind
same_followed node kinds.Dir inside behind = refl
same_followed node (kinds.File size extents) inside behind = refl
same_followed node (kinds.Link text) inside behind = refl

gathered_same : (f g : ℕ → Nodes) → ((d : ℕ) → f d ≡ g d) → (es : List (ℕ × Node)) → gathered f es ≡ gather g (valued es)
gathered_same f g same [] = refl
gathered_same f g same (e ∷ es) =
    same_followed e.1 e.1.kind (f e.0) (gathered f es)
    ∙ ap (λ (n : Nodes). followed_value (facts_of e.1) e.1.kind n (gathered f es)) (same e.0)
    ∙ ap (λ (n : Nodes). followed_value (facts_of e.1) e.1.kind (g e.0) n) (gathered_same f g same es)

nodes_in_same : (depth : ℕ) (all : List (ℕ × Node)) (parent : ℕ) → nodes_in depth all parent ≡ gather_in depth (valued all) parent
nodes_in_same zero all parent = refl
nodes_in_same (suc depth) all parent =
    gathered_same (nodes_in depth all) (gather_in depth (valued all)) (nodes_in_same depth all) (filter (λ e. e.1.parent == parent && nat_lt 0 e.0) all)
    ∙ ap (λ (l : List Entry). gather (gather_in depth (valued all)) l) (filter_valued parent all)

valued_enumerate : (n : ℕ) (xs : List Node) → valued (enumerate_from n xs) ≡ enumerate_from n (map node_value xs)
valued_enumerate n [] = refl
valued_enumerate n (x ∷ xs) = ap (λ (l : List Entry). (n, node_value x) ∷ l) (valued_enumerate (n + 1) xs)

enumerate_append : (n : ℕ) (xs ys : List NodeValue) → enumerate_from n (xs ++ ys) ≡ enumerate_from n xs ++ enumerate_from (n + length xs) ys
enumerate_append n [] ys = let none : n ≡ n + 0 = omega arith in ap (λ (m : ℕ). enumerate_from m ys) none
enumerate_append n (x ∷ xs) ys =
    let at : n + 1 + length xs ≡ n + length (x ∷ xs) = omega arith in
    ap (λ (l : List Entry). (n, x) ∷ l) (enumerate_append (n + 1) xs ys ∙ ap (λ (m : ℕ). enumerate_from (n + 1) xs ++ enumerate_from m ys) at)

length_listed : (ns : Nodes) (parent at : ℕ) → length (listed parent at ns) ≡ count ns
length_listed no_nodes parent at = refl
length_listed (directory facts inside behind) parent at =
    omega (arith, length-append (listed at (at + 1) inside) (listed parent (at + 1 + count inside) behind), length_listed inside at (at + 1), length_listed behind parent (at + 1 + count inside))
length_listed (file facts bytes extents behind) parent at = omega (arith, length_listed behind parent (at + 1))
length_listed (link facts text behind) parent at = omega (arith, length_listed behind parent (at + 1))

entries_are : (ns : Nodes) (parent at : ℕ) → enumerate_from at (listed parent at ns) ≡ entries parent at ns
entries_are no_nodes parent at = refl
entries_are (directory facts inside behind) parent at =
    ap (λ (l : List Entry). (at, value_in parent facts kinds.Dir) ∷ l)
    (enumerate_append (at + 1) (listed at (at + 1) inside) (listed parent (at + 1 + count inside) behind)
    ∙ ap (λ (n : ℕ). enumerate_from (at + 1) (listed at (at + 1) inside) ++ enumerate_from (at + 1 + n) (listed parent (at + 1 + count inside) behind)) (length_listed inside at (at + 1))
    ∙ ap (λ (l : List Entry). l ++ enumerate_from (at + 1 + count inside) (listed parent (at + 1 + count inside) behind)) (entries_are inside at (at + 1))
    ∙ ap (λ (l : List Entry). entries at (at + 1) inside ++ l) (entries_are behind parent (at + 1 + count inside)))
entries_are (file facts bytes extents behind) parent at =
    ap (λ (l : List Entry). (at, value_in parent facts (kinds.File bytes extents)) ∷ l) (entries_are behind parent (at + 1))
entries_are (link facts text behind) parent at =
    ap (λ (l : List Entry). (at, value_in parent facts (kinds.Link text)) ∷ l) (entries_are behind parent (at + 1))

-- ---- the whole

module _ (v : IndexValue) where
  abbrev every : List Entry
  every = (0, value_in 0 v.root kinds.Dir) ∷ entries 0 1 v.inside

  root_tops : filter (is_in 0) every ≡ tops 0 1 v.inside
  root_tops = own v.inside 0 1 (omega arith)

  root_part : IsPart every (entries 0 1 v.inside) 1 (1 + count v.inside)
  root_part d low high = drop_it d (0, value_in 0 v.root kinds.Dir) (entries 0 1 v.inside) (filter (is_in d) (entries 0 1 v.inside))
      (never 0 d 0 v.root kinds.Dir (λ e. omega (arith, e, low))) refl

  inside_is : (nodes : List Node) → map node_value nodes ≡ all_nodes v → nodes_in (length nodes) (enumerate_from 0 nodes) 0 ≡ v.inside
  inside_is nodes told =
      let long : count v.inside < length nodes = omega (arith, length-map nodes node_value, ap (λ (l : List NodeValue). length l) told, length_listed v.inside 0 1) in
      nodes_in_same (length nodes) (enumerate_from 0 nodes) 0
      ∙ ap (λ (l : List Entry). gather_in (length nodes) l 0) (valued_enumerate 0 nodes ∙ ap (λ (l : List NodeValue). enumerate_from 0 l) told
      ∙ ap (λ (l : List Entry). (0, value_in 0 v.root kinds.Dir) ∷ l) (entries_are v.inside 0 1))
      ∙ gathers (length nodes) v.inside every 0 1 long root_tops (has_own v.inside every 0 1 (omega arith) root_part)

  with_root_is : (index : Index) (nodes : List Node) → volume_of index ≡ v.volume → map node_value nodes ≡ all_nodes v → with_root index nodes ≡ Some v
  with_root_is index [] volume told = absurd (let no : [] ≡ all_nodes v = told in cc no)
  with_root_is index (root ∷ more) volume told =
      let first : node_value root ≡ value_in 0 v.root kinds.Dir = cc in
      let facts : facts_of root ≡ v.root = ap (λ (n : NodeValue). n.facts) first in
      let inside = inside_is (root ∷ more) told in
      λ t. Some (record { volume = volume t; root = facts t; inside = inside t })

told_value : (index : Index) (v : IndexValue) → Tells index v → value_of index ≡ Some v
told_value index v h = with_root_is v index index.nodes h.volume h.nodes

-- an index and a value that it tells have the same canonical form
pub told_text : (index : Index) (v : IndexValue) → Tells index v → canon index ≡ canonical v
told_text index v h = ap (λ (o : Option IndexValue). unwrap_or (option_map canonical o) []) (told_value index v h)

-- the value of an index that tells one is that value
pub values_are_told : ValuesAreTold
values_are_told = record { value = told_value; text = told_text }
