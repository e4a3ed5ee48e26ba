-- The directory and the name of each node that is kept at a number.
use Rattle.std.proofs.Common.{Option, ◌≡◌, ◌≢◌, ℕ, true, false, cond, eqb, List, Some, None, sym, ap, ◌∙◌, refl, subst, arith, inl, inr}
use Rattle.std.specs.Option.{option_map}
use Rattle.std.proofs.lemmas.Bool.Decides.{nat_tests}
use Rattle.std.proofs.lemmas.Bool.{cases_eq}
use Rattle.name_tries.specs.Keys.{Keys, AreTries, IsKeyed}
use Rattle.name_tries.specs.declared.tries.Tries.{Tries}
use Rattle.name_tries.proofs.ItemLemmas.{some_same}
use Rattle.file_tree.specs.declared.nodes.Node.{Node}
use Rattle.file_tree.specs.declared.nodes.Spot.{Spot}
use Rattle.file_tree.specs.Beside.{Key, key_in, keys_of, AreNamed}
use Rattle.file_tree.specs.Places.{IsChangedIn}
use Rattle.file_tree.specs.Seen.{Held, held, IsKept}

-- the key of a number other than the root's is that of what is kept there
pub key_at : (at : Held) (n : ℕ) (o : Option Spot) → n ≢ 0 → at n ≡ o → keys_of at n ≡ option_map key_in o
key_at at n o other is =
    let fails : eqb n 0 ≡ false = grind (arith, nat_tests, other) in
    ap (λ b. cond b None (option_map key_in (at n))) fails ∙ ap (option_map key_in) is

-- the root has no key
pub no_root_key : (at : Held) (n : ℕ) → n ≡ 0 → keys_of at n ≡ None
no_root_key at n zero_is =
    let holds : eqb n 0 ≡ true = grind (arith, nat_tests, zero_is) in
    ap (λ b. cond b None (option_map key_in (at n))) holds

-- where the same is kept, the key is the same
pub key_same : (at next : Held) (n : ℕ) → next n ≡ at n → keys_of next n ≡ keys_of at n
key_same at next n same = ap (λ s. cond (eqb n 0) None (option_map key_in s)) same

-- a key is that of a node
pub of_key : (at : Held) (n : ℕ) (key : Key) → keys_of at n ≡ Some key → (n ≢ 0) × (z : Spot) × (at n ≡ Some z) × (key_in z ≡ key)
of_key at n key is = let k = kept (at n) refl in (other, k.0, k.1, k.2)
  where
    other : n ≢ 0
    other zero_is = let wrong : None ≡ Some key = sym (no_root_key at n zero_is) ∙ is in cc

    kept : (o : Option Spot) → at n ≡ o → (z : Spot) × (at n ≡ Some z) × (key_in z ≡ key)
    kept None e = let wrong : None ≡ Some key = sym (key_at at n None other e) ∙ is in cc
    kept (Some z) e = (z, e, some_same (key_in z) key (sym (key_at at n (Some z) other e) ∙ is))

-- a change of what is kept at one number changes the key of that one
pub keys_kept : (at next : Held) (n : ℕ) (o : Option Spot) → n ≢ 0 → IsKept at next n o
    → IsKeyed (keys_of at) (keys_of next) n (option_map key_in o)
keys_kept at next n o other kept = record {
  here = key_at next n o other kept.here;
  others = λ k apart. key_same at next k (kept.others k apart);
}

-- what keys there are counts, not how they are told
pub named_same : (names : Tries) (f g : Keys) → AreTries names f → ((n : ℕ) → g n ≡ f n) → AreTries names g
named_same names f g w same = subst (AreTries names) (λ i n. sym (same n) i) w

-- a node is changed where it stands
pub changed_named : (P : Node → Node → Type 0) (before next : List (Option Spot)) (n : ℕ) → IsChangedIn before next n P
    → (names : Tries) → AreNamed names (held before) → AreNamed names (held next)
changed_named P before next n c names w = named_same names (keys_of (held before)) (keys_of (held next)) w same
  where
    same : (k : ℕ) → keys_of (held next) k ≡ keys_of (held before) k
    same k = elim (cases_eq k n) [
      | inl e ↦ ap (λ s. cond (eqb k 0) None (option_map key_in s)) (ap (held next) e ∙ c.kept.here)
          ∙ sym (ap (λ s. cond (eqb k 0) None (option_map key_in s)) (ap (held before) e ∙ c.was))
      | inr apart ↦ key_same (held before) (held next) k (c.kept.others k apart)
    ]
