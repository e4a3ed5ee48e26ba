-- What is kept beside the places through each change.
use Rattle.std.proofs.Common.{Option, ◌≡◌, ◌≢◌, ℕ, ◌<◌, ◌≤◌, true, false, cond, eqb, List, [], ◌∷◌, ◌++◌, length, Some, None, IsSome, is_some, sym, ap, ◌∙◌, refl, subst, arith, inl, inr, ⊎_elim}
use Rattle.std.proofs.lemmas.Bool.Decides.{nat_tests}
use Rattle.std.specs.FinMap as fin
use Rattle.plain_tree.specs.Paths.{Name, Path, parent_of}
use Rattle.plain_tree.proofs.SeenLemmas.{unlike}
use Rattle.name_tries.specs.declared.tries.Tries.{Tries}
use Rattle.file_tree.specs.declared.nodes.Spot.{Spot}
use Rattle.file_tree.specs.declared.nodes.Node.{Node}
use Rattle.file_tree.specs.Tree.{Nodes, number_at}
use Rattle.file_tree.specs.Seen.{Held, held, IsKept, IsShown}
use Rattle.file_tree.specs.Places.{Stored, IsStored, IsSetIn, IsChangedIn, IsThere}
use Rattle.file_tree.specs.Beside.{Key, key_in, keys_of, KeysDiffer, IsNode, AreNamed, CanName, IsIndexed}
use Rattle.file_tree.specs.Order.{IsIn, AreEmpty}
use Rattle.name_tries.proofs.ItemLemmas.{some_same, none_not}
use Rattle.file_tree.proofs.PathLemmas.{number_is, node_at}
use Rattle.file_tree.proofs.ShownLemmas.{stands, stands_in}
use Rattle.file_tree.proofs.PlaceLemmas.{there_held, held_within}
use Rattle.file_tree.proofs.ToldLemmas.{above_now}
use Rattle.file_tree.proofs.MemberLemmas.{in_front, in_rest, in_either}
use Rattle.file_tree.proofs.KeyLemmas.{key_at, of_key, changed_named}

-- where something is kept, it is some node under its name
pub is_there : (at : Held) (n : ℕ) → IsSome (at n) → (z : Spot) × (at n ≡ Some z)
is_there at n some = by (at n) refl
  where
    by : (o : Option Spot) → at n ≡ o → (z : Spot) × (at n ≡ Some z)
    by None e = let wrong : false ≡ true = sym (ap is_some e) ∙ some in cc
    by (Some z) e = (z, e)

-- the same without what is kept at one number
abbrev pub without : Held → ℕ → Held
without at n m = cond (eqb m n) None (at m)

-- taking out what is kept at a number leaves it empty, and all others as they were
pub taken_out : (at : Held) (n : ℕ) → IsKept at (without at n) n None
taken_out at n = record {
  here = let same : eqb n n ≡ true = grind (arith, nat_tests) in ap (λ b. cond b None (at n)) same;
  others = λ m apart. let fails : eqb m n ≡ false = grind (arith, nat_tests, apart) in ap (λ b. cond b None (at m)) fails;
}

-- ---- empty places

-- the empty places are still empty where nothing came to them
pub empty_more : (at next : Held) (bound more : ℕ) (ns : List ℕ) → bound ≤ more → ((n : ℕ) → IsIn n ns → at n ≡ None → next n ≡ None) → AreEmpty at bound ns → AreEmpty next more ns
empty_more at next bound more [] le same all = tt
empty_more at next bound more (n ∷ ns) le same all = (omega (arith, all.0, le), same n (inl refl) all.1, all.2, empty_more at next bound more ns le (λ m here. same m (inr here)) all.3)

-- the last of the empty places is empty, and no other of them is the same
pub empty_last : (at : Held) (bound : ℕ) (ns : List ℕ) (n : ℕ) → AreEmpty at bound (ns ++ n ∷ []) → (n < bound) × (at n ≡ None) × (IsIn n ns → ⊥) × AreEmpty at bound ns
empty_last at bound [] n all = (all.0, all.1, λ none. none, tt)
empty_last at bound (m ∷ ns) n all =
    let more = empty_last at bound ns n all.3 in (
      more.0,
      more.1,
      λ here. ⊎_elim (λ (e : n ≡ m). all.2 (in_rest m ns (n ∷ []) (inl (sym e)))) (λ rest. more.2 rest) here,
      (all.0, all.1, λ here. all.2 (in_front m ns (n ∷ []) here), more.3),
    )

empty_push : (at : Held) (bound : ℕ) (ns : List ℕ) (n : ℕ) → AreEmpty at bound ns → n < bound → at n ≡ None → (IsIn n ns → ⊥) → AreEmpty at bound (ns ++ n ∷ [])
empty_push at bound [] n all lt none apart = (lt, none, λ here. here, tt)
empty_push at bound (m ∷ ns) n all lt none apart = (
  all.0,
  all.1,
  λ here. ⊎_elim (λ old. all.2 old) (λ (new : IsIn m (n ∷ [])). ⊎_elim (λ (e : m ≡ n). apart (inl (sym e))) (λ no_more. no_more) new) (in_either m ns (n ∷ []) here),
  empty_push at bound ns n all.3 lt none (λ here. apart (inr here)),
)

all_none : (at : Held) (bound : ℕ) (ns : List ℕ) → AreEmpty at bound ns → (n : ℕ) → IsIn n ns → at n ≡ None
all_none at bound [] all n here = elim here [ ]
all_none at bound (m ∷ ns) all n (inl e) = ap at e ∙ all.1
all_none at bound (m ∷ ns) all n (inr more) = all_none at bound ns all.3 n more

-- ---- all that is kept beside the places

-- a number at a path other than the root's is that of a node
pub node_there : (spots : List (Option Spot)) (m : Nodes) → IsShown (held spots) m → (p : Path) (x : Name) (n : ℕ) → number_at m (p ++ x ∷ []) ≡ Some n → IsNode (held spots) n
node_there spots m s p x n is =
    let node = node_at m (p ++ x ∷ []) n is in
    (λ e. s.behind p x node.0 node.1 (node.2 ∙ e), there_held (held spots) m s n (p ++ x ∷ [], is))

-- the root is kept
root_held : (spots : List (Option Spot)) (m : Nodes) → IsShown (held spots) m → (n : ℕ) → n ≡ 0 → held spots n ≡ None → ⊥
root_held spots m s n zero_is none =
    let root = node_at m [] 0 s.root in
    let here = s.rooted root.0 root.1 in
    unlike (held spots 0) (record { parent = 0; name = []; node = root.0 }) (ap (held spots) (sym zero_is) ∙ none) here

-- no two nodes stand under one name
pub keys_differ : (spots : List (Option Spot)) (m : Nodes) → IsShown (held spots) m → KeysDiffer (held spots)
keys_differ spots m s a b key a_is b_is =
    let x = of_key (held spots) a key a_is in
    let y = of_key (held spots) b key b_is in
    let keys : key_in x.1 ≡ key_in y.1 = x.3 ∙ sym y.3 in
    let up = parent_there a x.1 x.2 in
    let a_here = stands_in (held spots) m s a x.1 up.0 x.2 x.0 up.1 in
    let b_here = stands_in (held spots) m s b y.1 up.0 y.2 y.0 (up.1 ∙ ap (λ (k : Key). Some k.0) keys) in
    let one : x.1.node ≡ y.1.node = some_same _ _ (sym a_here ∙ ap (λ n. fin.get m (up.0 ++ n ∷ [])) (ap (λ (k : Key). k.1) keys) ∙ b_here) in
    sym (s.numbered a x.1 x.2) ∙ ap (λ (n : Node). n.number) one ∙ s.numbered b y.1 y.2
  where
    parent_there : (n : ℕ) (z : Spot) → held spots n ≡ Some z → (p : Path) × (number_at m p ≡ Some z.parent)
    parent_there n z is = let found = stands (held spots) m s n z is in (parent_of found.0, above_now (held spots) m s n z is found.0 (number_is m found.0 z.node found.1 ∙ ap (λ k. Some k) found.2))

-- a change of a node in its place leaves names and empty places as they were
pub changed_indexed : (P : Node → Node → Type 0) (spots next : List (Option Spot)) (names : Tries) (free : List ℕ) (free_room n : ℕ)
    → IsIndexed spots names free free_room → IsChangedIn spots next n P → IsIndexed next names free free_room
changed_indexed P spots next names free free_room n i c = record {
  names_in = changed_named P spots next n c names i.names_in;
  empty = empty_more (held spots) (held next) (length spots) (length next) free (omega (arith, c.long))
      (λ k here none. c.kept.others k (λ e. unlike (held spots n) c.old (ap (held spots) (sym e) ∙ none) c.was) ∙ none) i.empty;
  places = omega (arith, i.places, c.filled, c.long);
  names_fit = omega (arith, i.names_fit, c.long);
  dirs_fit = i.dirs_fit;
  few_names = i.few_names;
  free_fits = omega (arith, i.free_fits, c.long);
}

-- a directory has a number that is below the count of places
pub dir_below : (spots : List (Option Spot)) (m : Nodes) → IsShown (held spots) m → (n : ℕ) (z : Spot) → held spots n ≡ Some z → z.parent < length spots
dir_below spots m s n z is =
    let found = stands (held spots) m s n z is in
    let up = above_now (held spots) m s n z is found.0 (number_is m found.0 z.node found.1 ∙ ap (λ k. Some k) found.2) in
    held_within spots z.parent (there_held (held spots) m s z.parent (parent_of found.0, up))

-- there is a trie for each directory
dir_within : (spots : List (Option Spot)) (names : Tries) (free : List ℕ) (free_room : ℕ) → IsIndexed spots names free free_room
    → (m : Nodes) → IsShown (held spots) m → (dir : ℕ) → IsThere m dir → dir < length names.roots.items
dir_within spots names free free_room i m s dir there = omega (arith, held_within spots dir (there_held (held spots) m s dir there), i.names_fit, i.dirs_fit)

-- what is kept shows the nodes as the tree has them now
pub shown_now : (spots : List (Option Spot)) (count : ℕ) (before now : Stored) → IsStored spots count before.nodes → before ≡ now
    → IsShown (held spots) now.nodes
shown_now spots count before now stored is = (subst (λ (t : Stored). IsStored spots count t.nodes) is stored).shown

-- so there is a trie for a directory of it
pub dir_fits : (spots : List (Option Spot)) (names : Tries) (free : List ℕ) (free_room : ℕ) → IsIndexed spots names free free_room
    → (count : ℕ) (before now : Stored) → IsStored spots count before.nodes → before ≡ now
    → (dir : ℕ) → IsThere now.nodes dir → dir < length names.roots.items
dir_fits spots names free free_room i count before now stored is dir there =
    dir_within spots names free free_room i now.nodes (shown_now spots count before now stored is) dir there

-- no node has a name under which nothing stands
no_key : (at : Held) (m : Nodes) → IsShown at m → (p : Path) (dir : ℕ) (name : Name) → number_at m p ≡ Some dir → fin.get m (p ++ name ∷ []) ≡ None
    → (k : ℕ) → keys_of at k ≡ Some (dir, name) → ⊥
no_key at m s p dir name there free k is =
    let h = of_key at k (dir, name) is in
    let here = stands_in at m s k h.1 p h.2 h.0 (there ∙ ap (λ (x : Key). Some x.0) (sym h.3)) in
    none_not (fin.get m (p ++ name ∷ [])) h.1.node free (ap (λ (x : Key). fin.get m (p ++ x.1 ∷ [])) (sym h.3) ∙ here)

-- nor has one after one was taken out
no_key_without : (at : Held) (n dir : ℕ) (name : Name) → ((k : ℕ) → keys_of at k ≡ Some (dir, name) → ⊥)
    → (k : ℕ) → keys_of (without at n) k ≡ Some (dir, name) → ⊥
no_key_without at n dir name none k is =
    let h = of_key (without at n) k (dir, name) is in
    none k (key_at at k (Some h.1) h.0 (still h.1 h.2) ∙ ap (λ x. Some x) h.3)
  where
    still : (z : Spot) → without at n k ≡ Some z → at k ≡ Some z
    still z = elim (eqb k n) as (λ b. cond b None (at k) ≡ Some z → at k ≡ Some z) [
      | true ↦ λ wrong. absurd (none_not None z refl wrong)
      | false ↦ λ same. same
    ]

-- what is kept at a number now can come under its name
into_names : (names : Tries) (at : Held) (next : List (Option Spot)) (n : ℕ) (z : Spot) → AreNamed names at → at n ≡ None → n ≢ 0
    → IsKept at (held next) n (Some z) → n < length names.owned.items → z.parent < length names.roots.items
    → ((k : ℕ) → keys_of at k ≡ Some (z.parent, z.name) → ⊥) → CanName names next at (held next) n
into_names names at next n z old free other kept within low apart = record {
  old = old;
  free = free;
  other = other;
  spot = z;
  kept = kept;
  there = λ k y is. is;
  within = within;
  below = low;
  apart = apart;
}

module _ (spots next : List (Option Spot)) (names : Tries) (free : List ℕ) (free_room : ℕ) (i : IsIndexed spots names free free_room)
    (m : Nodes) (s : IsShown (held spots) m) (n : ℕ) (z : Spot) (kept : IsKept (held spots) (held next) n (Some z))
    (up : Path) (stands : number_at m up ≡ Some z.parent) (none : fin.get m (up ++ z.name ∷ []) ≡ None) where
  -- a new node
  pub new_name : held spots n ≡ None → n < length names.owned.items → CanName names next (held spots) (held next) n
  new_name unused within = into_names names (held spots) next n z i.names_in unused (λ e. root_held spots m s n e unused) kept within
      (dir_within spots names free free_room i m s z.parent (up, stands)) (no_key (held spots) m s up z.parent z.name stands none)

  -- one that was taken out from under its old name
  pub next_name : IsNode (held spots) n → (out : Tries) → AreNamed out (without (held spots) n) → length out.owned.items ≡ length names.owned.items
      → length out.roots.items ≡ length names.roots.items → CanName out next (without (held spots) n) (held next) n
  next_name node out less numbers dirs = into_names out (without (held spots) n) next n z less (taken_out (held spots) n).here node.0 again
      (omega (arith, held_within spots n node.1, numbers, i.names_fit))
      (omega (arith, dir_within spots names free free_room i m s z.parent (up, stands), dirs))
      (no_key_without (held spots) n z.parent z.name (no_key (held spots) m s up z.parent z.name stands none))
    where
      again : IsKept (without (held spots) n) (held next) n (Some z)
      again = record { here = kept.here; others = λ k apart. kept.others k apart ∙ sym ((taken_out (held spots) n).others k apart) }

-- a number that is taken out is one more empty place
pub one_more_empty : (spots next : List (Option Spot)) (free more : List ℕ) (n : ℕ) → AreEmpty (held spots) (length spots) free → IsSome (held spots n)
    → IsSetIn spots next n None → length next ≡ length spots → more ≡ free ++ n ∷ [] → AreEmpty (held next) (length next) more
one_more_empty spots next free more n empty some set slots is =
    let spot = is_there (held spots) n some in
    let within = held_within spots n some in
    subst (AreEmpty (held next) (length next)) (sym is) (empty_push (held next) (length next) free n
    (empty_more (held spots) (held next) (length spots) (length next) free (omega (arith, slots)) (λ m here none. set.kept.others m (λ e. unlike (held spots n) spot.0 (ap (held spots) (sym e) ∙ none) spot.1) ∙ none) empty)
    (omega (arith, within, slots)) set.kept.here (λ here. unlike (held spots n) spot.0 (all_none (held spots) (length spots) free empty n here) spot.1))

-- places that stay empty while another node moves
pub still_empty : (spots next : List (Option Spot)) (free : List ℕ) (n : ℕ) (o : Option Spot) → AreEmpty (held spots) (length spots) free → IsSome (held spots n)
    → IsKept (held spots) (held next) n o → length next ≡ length spots → AreEmpty (held next) (length next) free
still_empty spots next free n o empty some kept slots =
    let spot = is_there (held spots) n some in
    empty_more (held spots) (held next) (length spots) (length next) free (omega (arith, slots)) (λ m here none. kept.others m (λ e. unlike (held spots n) spot.0 (ap (held spots) (sym e) ∙ none) spot.1) ∙ none) empty
