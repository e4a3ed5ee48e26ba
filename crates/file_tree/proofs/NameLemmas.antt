-- A node comes under its name in its directory.
use Rattle.std.proofs.Common.{Option, ◌≡◌, ◌≢◌, ℕ, ◌<◌, List, length, Some, None, IsSome, is_some, sym, ap, ◌∙◌, refl, subst}
use Rattle.std.specs.Option.{option_map}
use Rattle.name_tries.specs.Keys.{Keys, AreTries, IsKeyed, CanPutFirst, CanPut, CanCut, name_in, name_of, number_in}
use Rattle.name_tries.specs.Tries.{Trie, nearest_in}
use Rattle.name_tries.specs.Ways.{IsTowards}
use Rattle.name_tries.specs.declared.forks.Near.{Near}
use Rattle.name_tries.specs.declared.tries.Tries.{Tries}
use Rattle.name_tries.proofs.ItemLemmas.{some_same, none_not}
use Rattle.file_tree.specs.declared.nodes.Spot.{Spot}
use Rattle.file_tree.specs.Beside.{Key, keys_of, IsNode, AreNamed, CanName}
use Rattle.file_tree.specs.Seen.{Held, held, IsKept}
use Rattle.file_tree.proofs.KeyLemmas.{key_at, of_key, keys_kept}
use Rattle.plain_tree.specs.Paths.{Name}

no_trie : (x : Name) (o : Option Trie) → option_map (nearest_in x) o ≡ None → o ≡ None
no_trie x None e = refl
no_trie x (Some t) e = cc

a_trie : (x : Name) (o : Option Trie) (n : ℕ) → option_map (nearest_in x) o ≡ Some n → (t : Trie) × (o ≡ Some t) × (nearest_in x t ≡ n)
a_trie x None n e = cc
a_trie x (Some t) n e = (t, refl, some_same (nearest_in x t) n e)

-- what has some name in a directory is kept
pub near_held : (at : Held) (m dir : ℕ) (other : Name) → keys_of at m ≡ Some (dir, other) → IsSome (at m)
near_held at m dir other is = let h = of_key at m (dir, other) is in ap is_some h.2

module _ (names : Tries) (spots : List (Option Spot)) (at next : Held) (n : ℕ) (q : CanName names spots at next n) (z : Spot) (is : held spots n ≡ Some z)
    (x : Name) (spelled : x ≡ z.name) where
  same : q.spot ≡ z
  same = some_same q.spot z (sym (q.there n q.spot q.kept.here) ∙ is)

  keys : ◌≡◌ {A = Key} (q.spot.parent, q.spot.name) (z.parent, x)
  keys = ap (λ (s : Spot). (s.parent, s.name)) same ∙ ap (λ y. (z.parent, y)) (sym spelled)

  -- the directory of the node has a root among the tries
  pub low : z.parent < length names.roots.items
  low = subst (λ (s : Spot). s.parent < length names.roots.items) same q.below

  -- the number gets the node's name in its directory, and others keep theirs
  pub is_keyed : IsKeyed (keys_of at) (keys_of next) n (Some (z.parent, x))
  is_keyed = subst (λ (k : Key). IsKeyed (keys_of at) (keys_of next) n (Some k)) keys (keys_kept at next n (Some q.spot) q.other q.kept)

  module _ (r : Option Near) (leads : (keys : Keys) (w : AreTries names keys)
      → option_map number_in r ≡ option_map (nearest_in x) (w.shape z.parent)) where
    -- the directory has nothing in it
    pub can_put_first : r ≡ None → CanPutFirst names (keys_of at) z.parent n
    can_put_first none = record {
      are = q.old;
      none = no_trie x (q.old.shape z.parent) (sym (leads (keys_of at) q.old) ∙ ap (option_map number_in) none);
      free = key_at at n None q.other q.free;
      within = q.within;
      below = low;
    }

    -- another node is the nearest one
    module _ (near : Near) (some : r ≡ Some near)
        (found : (keys : Keys) → AreTries names keys → (other : Name) × (keys near.number ≡ Some (z.parent, other))) where
      abbrev m : ℕ
      m = near.number

      beside : (w : Spot) × (at m ≡ Some w) × (held spots m ≡ Some w) × (keys_of at m ≡ Some (z.parent, w.name))
      beside =
          let f = found (keys_of at) q.old in
          let h = of_key at m (z.parent, f.0) f.1 in
          let apart : m ≢ n = λ e. none_not (at m) h.1 (ap at e ∙ q.free) h.2 in
          (h.1, h.2, q.there m h.1 (q.kept.others m apart ∙ h.2), f.1 ∙ ap (λ (k : Key). Some (z.parent, k.1)) (sym h.3))

      -- something is kept at the number that is nearest by name
      pub near_there : IsSome (held spots m)
      near_there = ap is_some beside.2

      -- the node may be put beside the number that is nearest by name
      pub can_put : (w : Spot) → held spots m ≡ Some w → (y : Name) → y ≡ w.name
          → ((keys : Keys) (w : AreTries names keys) (t : Trie) → w.shape z.parent ≡ Some t → IsTowards names.forks.items near.from x t)
          → CanPut names (keys_of at) z.parent n x near y
      can_put w there y named from =
          let t = a_trie x (q.old.shape z.parent) m (sym (leads (keys_of at) q.old) ∙ ap (option_map number_in) some) in
          let one : beside.0 ≡ w = some_same beside.0 w (sym beside.2 ∙ there) in
          let is_y : beside.0.name ≡ y = ap (λ (s : Spot). s.name) one ∙ sym named in
          record {
            are = q.old;
            trie = t.0;
            shape = t.1;
            nearest = ap (name_in (keys_of at)) t.2 ∙ ap name_of beside.3 ∙ is_y;
            from = from (keys_of at) q.old t.0 t.1;
            apart = λ e. q.apart m (beside.3 ∙ ap (λ s. Some (z.parent, s)) (is_y ∙ sym e) ∙ ap (λ k. Some k) (sym keys));
            free = key_at at n None q.other q.free;
            within = q.within;
          }

-- a node goes from under its name
pub can_cut : (names : Tries) (at : Held) (n : ℕ) → AreNamed names at → IsNode at n → (z : Spot) → at n ≡ Some z → (x : Name) → x ≡ z.name
    → CanCut names (keys_of at) z.parent n x
can_cut names at n w there z is x spelled = record {
  are = w;
  there = key_at at n (Some z) there.0 is ∙ ap (λ y. Some (z.parent, y)) (sym spelled);
}

-- a node that is taken out has no name any more
pub cut_keyed : (at : Held) (n : ℕ) → IsNode at n → (next : Held) → IsKept at next n None → IsKeyed (keys_of at) (keys_of next) n None
cut_keyed at n there next kept = keys_kept at next n None there.0 kept

-- ---- a name is sought

-- it is that of the nearest one
pub child_there : (at : Held) (dir : ℕ) (name : Name) (m : ℕ) (other : Name) → keys_of at m ≡ Some (dir, other) → (z : Spot) → at m ≡ Some z → z.name ≡ name
    → keys_of at m ≡ Some (dir, name)
child_there at dir name m other told z is named =
    let h = of_key at m (dir, other) told in
    let same : h.1 ≡ z = some_same h.1 z (sym h.2 ∙ is) in
    told ∙ ap (λ (k : Key). Some (dir, k.1)) (sym h.3) ∙ ap (λ (s : Spot). Some (dir, s.name)) same ∙ ap (λ x. Some (dir, x)) named

-- the nearest one has another name, or there is none
pub child_missing : (at : Held) (dir : ℕ) (name : Name) (r : Option ℕ) → ((n : ℕ) → keys_of at n ≡ Some (dir, name) → r ≡ Some n)
    → ((m : ℕ) (z : Spot) → r ≡ Some m → at m ≡ Some z → z.name ≢ name) → (n : ℕ) → keys_of at n ≡ Some (dir, name) → ⊥
child_missing at dir name r only differ n told =
    let h = of_key at n (dir, name) told in differ n h.1 (only n told) h.2 (ap (λ (k : Key). k.1) h.3)
