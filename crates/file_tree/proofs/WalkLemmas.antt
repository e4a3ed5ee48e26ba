-- Where paths lead in what is kept is what the map has.
use Rattle.std.proofs.Common.{Option, ◌≡◌, ◌≢◌, ℕ, zero, suc, Bool, true, false, cond, ◌&&◌, not, eqb, nat_eq, List, [], ◌∷◌, ◌++◌, Some, None, sym, ap, ◌∙◌, refl, Decides, slice_get}
use Rattle.std.specs.Cmp.{unsigned_Decides}
use Rattle.std.specs.Cmp.Lexicographic.{pointwise}
use Rattle.std.specs.FinMap as fin
use Rattle.std.proofs.lemmas.Slice.Eq.{slice_eq-Decides}
use Rattle.std.proofs.lemmas.List.{append-nil}
use Rattle.std.proofs.lemmas.Bool.{eqb-true, eq-eqb, ne_eqb}
use Rattle.plain_tree.proofs.MoveLemmas.{both_true}
use Rattle.plain_tree.proofs.SeenLemmas.{unlike, snoc}
use Rattle.file_tree.specs.declared.nodes.Node.{Node}
use Rattle.file_tree.specs.declared.nodes.Spot.{Spot}
use Rattle.file_tree.specs.Tree.{Nodes}
use Rattle.file_tree.specs.Seen.{held, IsShown, is_child, child, node_in, walk, Seen}
use Rattle.file_tree.proofs.PathLemmas.{same_nodes, number_is, node_at}
use Rattle.file_tree.proofs.ShownLemmas.{spot, dir_of, kept_at, stands, stands_in}

-- the test of being the same name says whether two are the same
pub name_Decides : (x y : List ℕ) → Decides (pointwise nat_eq x y) (x ≡ y)
name_Decides x y = slice_eq-Decides unsigned_Decides x y _ refl

-- the test of a child, and what it says
child_says : (dir : ℕ) (name : List ℕ) (z : Spot) → is_child dir name (Some z) ≡ true → (z.node.number ≢ 0) × (z.parent ≡ dir) × (z.name ≡ name)
child_says dir name z is =
    let a = both_true (not (eqb z.node.number 0) && eqb z.parent dir) (pointwise nat_eq z.name name) is in
    let b = both_true (not (eqb z.node.number 0)) (eqb z.parent dir) a.0 in
    (λ zero_is. let wrong : false ≡ true = sym (ap not (eq-eqb z.node.number 0 zero_is)) ∙ b.0 in cc, eqb-true z.parent dir b.1, (name_Decides z.name name).0 a.1)

says_child : (dir : ℕ) (name : List ℕ) (z : Spot) → z.node.number ≢ 0 → z.parent ≡ dir → z.name ≡ name → is_child dir name (Some z) ≡ true
says_child dir name z some parent named =
    ap (λ b. not b && eqb z.parent dir && pointwise nat_eq z.name name) (ne_eqb z.node.number 0 some)
    ∙ ap (λ b. b && pointwise nat_eq z.name name) (eq-eqb z.parent dir parent) ∙ (name_Decides z.name name).1 named

held_at : (spots : List (Option Spot)) (n : ℕ) (z : Spot) → slice_get spots n ≡ Some (Some z) → held spots n ≡ Some z
held_at spots n z is = rw is refl

-- the first child is kept at some number, and where there is none, none is kept
child_held : (spots : List (Option Spot)) (dir : ℕ) (name : List ℕ) (z : Spot) → child spots dir name ≡ Some z → (is_child dir name (Some z) ≡ true) × ((n : ℕ) × (held spots n ≡ Some z))
child_held [] dir name z is = cc
child_held (o ∷ spots) dir name z is = by (is_child dir name o) refl (child_held spots dir name z)
  where
    by : (b : Bool) → is_child dir name o ≡ b → (child spots dir name ≡ Some z → (is_child dir name (Some z) ≡ true) × ((n : ℕ) × (held spots n ≡ Some z))) → (is_child dir name (Some z) ≡ true) × ((n : ℕ) × (held (o ∷ spots) n ≡ Some z))
    by true e later =
        let same : o ≡ Some z = sym (ap (λ b. cond b o (child spots dir name)) e) ∙ is in
        (ap (is_child dir name) (sym same) ∙ e, (0, same))
    by false e later = let more = later (sym (ap (λ b. cond b o (child spots dir name)) e) ∙ is) in (more.0, (suc more.1.0, more.1.1))

no_child : (spots : List (Option Spot)) (dir : ℕ) (name : List ℕ) (n : ℕ) (z : Spot) → child spots dir name ≡ None → held spots n ≡ Some z → is_child dir name (Some z) ≡ true → ⊥
no_child [] dir name n z none is this = cc
no_child (o ∷ spots) dir name zero z none is this =
    let same : o ≡ Some z = is in
    let wrong : o ≡ None = sym (ap (λ b. cond b o (child spots dir name)) (ap (is_child dir name) same ∙ this)) ∙ none in
    unlike o z wrong same
no_child (o ∷ spots) dir name (suc n) z none is this = no_child spots dir name n z (by (is_child dir name o) refl) is this
  where
    not_none : (o : Option Spot) → is_child dir name o ≡ true → o ≡ None → ⊥
    not_none None e f = let wrong : false ≡ true = e in cc
    not_none (Some z) e f = cc

    by : (b : Bool) → is_child dir name o ≡ b → child spots dir name ≡ None
    by true e = absurd (not_none o e (sym (ap (λ b. cond b o (child spots dir name)) e) ∙ none))
    by false e = sym (ap (λ b. cond b o (child spots dir name)) e) ∙ none

walk_none : (spots : List (Option Spot)) (path : List (List ℕ)) → walk spots None path ≡ None
walk_none spots [] = refl
walk_none spots (x ∷ path) = refl

module _ (spots : List (Option Spot)) (m : Nodes) (s : IsShown (held spots) m) where
  -- the child of a directory that is there
  pub child_is : (p : List (List ℕ)) (x : List ℕ) (dir : Node) → fin.get m p ≡ Some dir → fin.get m (p ++ x ∷ []) ≡ node_in (child spots dir.number x)
  child_is p x dir there = by (child spots dir.number x) (fin.get m (p ++ x ∷ [])) refl refl
    where
      by : (c : Option Spot) (o : Option Node) → child spots dir.number x ≡ c → fin.get m (p ++ x ∷ []) ≡ o → fin.get m (p ++ x ∷ []) ≡ node_in (child spots dir.number x)
      by (Some z) o e f =
          let kept = child_held spots dir.number x z e in
          let says = child_says dir.number x z kept.0 in
          let stood = stands (held spots) m s kept.1.0 z kept.1.1 in
          let here = stands_in (held spots) m s kept.1.0 z p kept.1.1 (λ zero_is. says.0 (stood.2 ∙ zero_is)) (number_is m p dir there ∙ ap (λ k. Some k) (sym says.1)) in
          ap (λ y. fin.get m (p ++ y ∷ [])) (sym says.2) ∙ here ∙ sym (ap node_in e)
      by None None e f = f ∙ sym (ap node_in e)
      by None (Some n) e f = absurd (no_child spots dir.number x n.number (spot dir.number x n) e (kept_at (held spots) m s p x n dir f there) (says_child dir.number x (spot dir.number x n) (s.behind p x n f) refl refl))

  -- where nothing stands at a path, nothing stands below it
  pub none_past : (p q : List (List ℕ)) → fin.get m p ≡ None → fin.get m (p ++ q) ≡ None
  none_past p [] none = ap (fin.get m) (append-nil p) ∙ none
  none_past p (x ∷ q) none = ap (fin.get m) (sym (snoc p q x)) ∙ none_past (p ++ x ∷ []) q (by (fin.get m (p ++ x ∷ [])) refl)
    where
      by : (o : Option Node) → fin.get m (p ++ x ∷ []) ≡ o → fin.get m (p ++ x ∷ []) ≡ None
      by None e = e
      by (Some n) e = let dir = dir_of (held spots) m s p x n e in absurd (unlike (fin.get m p) dir.0 none dir.1)

  pub walk_from : (p q : List (List ℕ)) (n : Node) → fin.get m p ≡ Some n → fin.get m (p ++ q) ≡ walk spots (Some n) q
  walk_from p [] n is = ap (fin.get m) (append-nil p) ∙ is
  walk_from p (x ∷ q) n is = ap (fin.get m) (sym (snoc p q x)) ∙ by (fin.get m (p ++ x ∷ [])) refl (walk_from (p ++ x ∷ []) q) ∙ ap (λ o. walk spots o q) (child_is p x n is)
    where
      by : (o : Option Node) → fin.get m (p ++ x ∷ []) ≡ o → ((k : Node) → fin.get m (p ++ x ∷ []) ≡ Some k → fin.get m ((p ++ x ∷ []) ++ q) ≡ walk spots (Some k) q) → fin.get m ((p ++ x ∷ []) ++ q) ≡ walk spots (fin.get m (p ++ x ∷ [])) q
      by None e again = none_past (p ++ x ∷ []) q e ∙ sym (walk_none spots q) ∙ ap (λ o. walk spots o q) (sym e)
      by (Some k) e again = again k e ∙ ap (λ o. walk spots o q) (sym e)

  pub walks : (q : List (List ℕ)) → fin.get m q ≡ walk spots (node_in (held spots 0)) q
  walks q =
      let root = node_at m [] 0 s.root in
      walk_from [] q root.0 root.1 ∙ ap (λ o. walk spots (node_in o) q) (sym (s.rooted root.0 root.1))

  -- the map that is kept is the one that paths lead through
  pub seen : Seen spots
  seen = (m, walks)

  -- no other map is seen
  pub only : (n : Nodes) → ((q : List (List ℕ)) → fin.get n q ≡ walk spots (node_in (held spots 0)) q) → n ≡ m
  only n by = same_nodes n m (λ q. by q ∙ sym (walks q))
