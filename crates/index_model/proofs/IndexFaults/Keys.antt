-- What a set knows after one more key.
use Rattle.std.proofs.Common.{◌≡◌, ℕ, [], Bool, true, false, not, refl, sym, ◌∙◌, arith}
use Rattle.std.proofs.lemmas.Bool.Decides.{nat_tests}
use Rattle.std.specs.BTreeMap.{is_at}
use Rattle.std.specs.BTreeSet.{BTreeSet, contains, Updates}
use Rattle.std.specs.Ordering.{nat_cmp}
use Rattle.std.specs.declared.cmp.Ordering.{Ordering}
use Rattle.index_model.proofs.IndexFaults.Firsts.{false_true}

-- the set has exactly the keys that there are
pub record Knows {K : Type 0} (has : K → Bool) (There : K → Type 0) : Type 0 where
  pub found : (key : K) → has key ≡ true → There key
  pub there : (key : K) → There key → has key ≡ true

-- an empty set knows that there is no key
pub knows_none : {K : Type 0} (cmp : K → K → Ordering) (seen : BTreeSet K) (There : K → Type 0) → seen.keys ≡ [] → ((key : K) → There key → ⊥) → Knows (contains cmp seen) There
knows_none {K} cmp seen There none nothing = record {
  found = λ key has. absurd (false_true (sym (is_empty key) ∙ has));
  there = λ key there. absurd (nothing key there);
}
  where
    is_empty : (key : K) → contains cmp seen key ≡ false
    is_empty key = rw none refl

module _ {K : Type 0} (cmp : K → K → Ordering) (seen new : BTreeSet K) (key : K) (There Later : K → Type 0) where
  -- a key is there later where it was there, or is this one
  pub knows_more : Updates cmp seen new key true
      → Knows (contains cmp seen) There
      → ((k : K) → There k → Later k)
      → ((k : K) → is_at (cmp key) k ≡ true → Later k)
      → ((k : K) → is_at (cmp key) k ≡ false → Later k → There k)
      → Knows (contains cmp new) Later
  knows_more put knows stays is_later was = record { found = found; there = there }
    where
      found_by : (k : K) (b : Bool) → is_at (cmp key) k ≡ b → contains cmp new k ≡ true → Later k
      found_by k true at has = is_later k at
      found_by k false at has = stays k (knows.found k (sym (put.2 k at) ∙ has))

      found : (k : K) → contains cmp new k ≡ true → Later k
      found k has = found_by k (is_at (cmp key) k) refl has

      there_by : (k : K) (b : Bool) → is_at (cmp key) k ≡ b → Later k → contains cmp new k ≡ true
      there_by k true at later = put.0 k ∙ rw at refl
      there_by k false at later = put.2 k at ∙ knows.there k (was k at later)

      there : (k : K) → Later k → contains cmp new k ≡ true
      there k later = there_by k (is_at (cmp key) k) refl later

-- numbers that compare as equal are equal
pub number_is : (a b : ℕ) → is_at (nat_cmp a) b ≡ true → a ≡ b
number_is a b at = grind (arith, nat_tests, at)

-- equal numbers compare as equal
pub number_itself : (a b : ℕ) → a ≡ b → is_at (nat_cmp a) b ≡ true
number_itself a b same = grind (arith, nat_tests, same)

-- what `insert` answers says whether the key was there
pub was_had : (added had : Bool) → added ≡ false → added ≡ not had → had ≡ true
was_had added true is e = refl
was_had added false is e = absurd (false_true (sym is ∙ e))

-- a key that was added was not there before
pub was_free : (added had : Bool) → added ≡ true → added ≡ not had → had ≡ false
was_free added false is e = refl
was_free added true is e = absurd (false_true (sym e ∙ is))
