-- All that is kept comes under names, one number after the other.
use Rattle.std.proofs.Common.{Option, ◌≡◌, ◌≢◌, ℕ, ◌+◌, ◌<◌, ◌≤◌, true, false, cond, nat_lt, List, length, Some, None, is_some, sym, ap, ◌∙◌, refl, subst, arith, inl, inr, ⊎_elim}
use Rattle.std.proofs.lemmas.Bool.Decides.{nat_tests}
use Rattle.std.proofs.lemmas.Bool.{cases_eq, cases_lt}
use Rattle.name_tries.specs.Keys.{AreTries}
use Rattle.name_tries.specs.declared.tries.Tries.{Tries}
use Rattle.name_tries.proofs.ItemLemmas.{none_not}
use Rattle.file_tree.specs.declared.nodes.Spot.{Spot}
use Rattle.file_tree.specs.Beside.{key_in, keys_of, KeysDiffer, AreNamed, CanName}
use Rattle.file_tree.specs.Seen.{Held, held, IsKept}
use Rattle.file_tree.proofs.KeyLemmas.{key_at, no_root_key, key_same, of_key, named_same}
use Rattle.file_tree.proofs.PlaceLemmas.{held_past}

-- what is kept at the numbers below one
abbrev pub until : ℕ → Held → Held
until k at n = cond (nat_lt n k) (at n) None

inside : (k : ℕ) (at : Held) (n : ℕ) → n < k → until k at n ≡ at n
inside k at n lt = let holds : nat_lt n k ≡ true = grind (arith, nat_tests, lt) in ap (λ b. cond b (at n) None) holds

outside : (k : ℕ) (at : Held) (n : ℕ) → k ≤ n → until k at n ≡ None
outside k at n le = let fails : nat_lt n k ≡ false = grind (arith, nat_tests, le) in ap (λ b. cond b (at n) None) fails

free_now : (k : ℕ) (at : Held) → until k at k ≡ None
free_now k at = outside k at k (omega arith)

-- what is kept at one number comes to it
one_more : (k : ℕ) (at : Held) → IsKept (until k at) (until (k + 1) at) k (at k)
one_more k at = record {
  here = inside (k + 1) at k (omega arith);
  others = λ n apart. ⊎_elim
      (λ (low : n < k). inside (k + 1) at n (omega (arith, low)) ∙ sym (inside k at n low))
      (λ (high : k ≤ n). outside (k + 1) at n (omega (arith, high, apart)) ∙ sym (outside k at n high))
      (cases_lt n k);
}

until_held : (k : ℕ) (at : Held) (n : ℕ) (z : Spot) → until k at n ≡ Some z → at n ≡ Some z
until_held k at n z is = ⊎_elim
    (λ (low : n < k). sym (inside k at n low) ∙ is)
    (λ (high : k ≤ n). absurd (none_not (until k at n) z (outside k at n high) is))
    (cases_lt n k)

-- what is not something that is kept is nothing
pub not_there : (at : Held) (n : ℕ) → is_some (at n) ≡ false → at n ≡ None
not_there at n none = by (at n) refl none
  where
    by : (o : Option Spot) → at n ≡ o → is_some (at n) ≡ false → at n ≡ None
    by None e none = e
    by (Some z) e none = let wrong : true ≡ false = sym (ap is_some e) ∙ none in cc

-- below 1 there is no node, and below the count of the places there are all
no_keys : (at : Held) (n : ℕ) → keys_of (until 1 at) n ≡ None
no_keys at n = elim (cases_eq n 0) [
  | inl e ↦ no_root_key (until 1 at) n e
  | inr other ↦ key_at (until 1 at) n None other (outside 1 at n (omega (arith, other)))
]

no_more_keys : (k : ℕ) (at : Held) → at k ≡ None → (n : ℕ) → keys_of (until (k + 1) at) n ≡ keys_of (until k at) n
no_more_keys k at none n = key_same (until k at) (until (k + 1) at) n (elim (cases_eq n k) [
  | inl e ↦ ap (until (k + 1) at) e ∙ (one_more k at).here ∙ none ∙ sym (free_now k at) ∙ ap (until k at) (sym e)
  | inr apart ↦ (one_more k at).others n apart
])

all_keys : (spots : List (Option Spot)) (k : ℕ) → length spots ≤ k → (n : ℕ) → keys_of (held spots) n ≡ keys_of (until k (held spots)) n
all_keys spots k all n = key_same (until k (held spots)) (held spots) n (⊎_elim
    (λ (low : n < k). sym (inside k (held spots) n low))
    (λ (high : k ≤ n). held_past spots n (omega (arith, high, all)) ∙ sym (outside k (held spots) n high))
    (cases_lt n k))

-- the names so far
pub record AreSpelled (spots : List (Option Spot)) (names : Tries) (k : ℕ) : Type 0 where
  pub named : AreNamed names (until k (held spots))
  pub dirs : length spots ≤ length names.roots.items
  pub numbers : length names.owned.items ≡ length spots

module _ (spots : List (Option Spot)) where
  -- before the first number nothing comes under a name
  pub spell_first : (names : Tries) → AreTries names (λ n. None) → length spots ≤ length names.roots.items → length names.owned.items ≡ length spots
      → AreSpelled spots names 1
  spell_first names w dirs numbers = record {
    named = named_same names (λ n. None) (keys_of (until 1 (held spots))) w (no_keys (held spots));
    dirs = dirs;
    numbers = numbers;
  }

  module _ (names : Tries) (k : ℕ) (g : AreSpelled spots names k) where
    -- a number at which nothing is kept is passed
    pub spell_none : held spots k ≡ None → AreSpelled spots names (k + 1)
    spell_none none = record {
      named = named_same names (keys_of (until k (held spots))) (keys_of (until (k + 1) (held spots))) g.named (no_more_keys k (held spots) none);
      dirs = g.dirs;
      numbers = g.numbers;
    }

    -- once all numbers are passed, all nodes come under their names
    pub spelled : length spots ≤ k → AreNamed names (held spots)
    spelled all = named_same names (keys_of (until k (held spots))) (keys_of (held spots)) g.named (all_keys spots k all)

    module _ (z : Spot) (other : k ≢ 0) (is : held spots k ≡ Some z) where
      -- the node at the next number may come under its name
      pub spell_can : KeysDiffer (held spots) → k < length spots → z.parent < length spots
          → CanName names spots (until k (held spots)) (until (k + 1) (held spots)) k
      spell_can differ within below = record {
        old = g.named;
        free = free_now k (held spots);
        other = other;
        spot = z;
        kept = subst (IsKept (until k (held spots)) (until (k + 1) (held spots)) k) is (one_more k (held spots));
        there = until_held (k + 1) (held spots);
        within = omega (arith, within, g.numbers);
        below = omega (arith, below, g.dirs);
        apart = λ j same.
            let h = of_key (until k (held spots)) j (key_in z) same in
            let there = until_held k (held spots) j h.1 h.2 in
            let one : j ≡ k = differ j k (key_in z)
            (key_at (held spots) j (Some h.1) h.0 there ∙ ap (λ x. Some x) h.3) (key_at (held spots) k (Some z) other is) in
            none_not (until k (held spots) j) h.1 (ap (until k (held spots)) one ∙ free_now k (held spots)) h.2;
      }

      -- a node that has come under its name is passed
      pub spell_some : (new : Tries) → AreNamed new (until (k + 1) (held spots)) → length new.roots.items ≡ length names.roots.items
          → length new.owned.items ≡ length names.owned.items → AreSpelled spots new (k + 1)
      spell_some new named dirs numbers = record { named = named; dirs = omega (arith, g.dirs, dirs); numbers = numbers ∙ g.numbers }
