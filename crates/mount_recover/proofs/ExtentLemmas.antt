-- Whether extents lie before the ends.
use Rattle.std.proofs.Common.{ℕ, zero, suc, ◌+◌, ◌≤◌, ◌≡◌, List, [], ◌∷◌, ◌++◌, length, take, drop, slice_get, Some, refl, sym, ap, subst, arith}
use Rattle.std.specs.List.{AllByRecursion}
use Rattle.index_model.specs.declared.nodes.Node.{Node}
use Rattle.ltfs_label.specs.declared.Label.{Label}
use Rattle.cartridge_meaning.specs.Meaning.{FitsNode}
use Rattle.mount_recover.specs.Lasts.{IsFirstOutside}

module _ {X : Type 0} (P : X → Type 0) where
  -- what holds of all elements holds of the one at a place
  pub all_at : (xs : List X) (i : ℕ) (x : X) → slice_get xs i ≡ Some x → AllByRecursion P xs → P x
  all_at [] i x is all = absurd (cc is)
  all_at (y ∷ xs) zero x is all = let same : y ≡ x = cc is in subst P same all.0
  all_at (y ∷ xs) (suc i) x is all = all_at xs i x is all.1

  more : (xs : List X) (i : ℕ) (x : X) → slice_get xs i ≡ Some x → AllByRecursion P (take i xs) → P x → AllByRecursion P (take (suc i) xs)
  more [] i x is all holds = absurd (cc is)
  more (y ∷ xs) zero x is all holds = let same : x ≡ y = sym (let back : y ≡ x = cc is in back) in (subst P same holds, tt)
  more (y ∷ xs) (suc i) x is all holds = (all.0, more xs i x is all.1 holds)

  -- what holds of the first elements and of the next one holds of them together
  pub all_more : (xs : List X) (i : ℕ) (x : X) → slice_get xs i ≡ Some x → AllByRecursion P (take i xs) → P x → AllByRecursion P (take (i + 1) xs)
  all_more xs i x is all holds =
      let next : suc i ≡ i + 1 = omega arith in subst (λ (n : ℕ). AllByRecursion P (take n xs)) next (more xs i x is all holds)

  -- what holds of as many first elements as there are holds of all
  pub all_whole : (n : ℕ) (xs : List X) → length xs ≤ n → AllByRecursion P (take n xs) → AllByRecursion P xs
  all_whole n [] le all = tt
  all_whole zero (x ∷ xs) le all = absurd (omega (arith, le))
  all_whole (suc n) (x ∷ xs) le all = (all.0, all_whole n xs (omega (arith, le)) all.1)

-- a list is what stands before a place, what stands there, and what follows
pub parted : {X : Type 0} (xs : List X) (i : ℕ) (x : X) → slice_get xs i ≡ Some x → xs ≡ take i xs ++ x ∷ drop (suc i) xs
parted [] i x is = absurd (cc is)
parted (y ∷ xs) zero x is = let same : y ≡ x = cc is in ap (λ (z : _). z ∷ xs) same
parted (y ∷ xs) (suc i) x is = ap (λ (l : List _). y ∷ l) (parted xs i x is)

-- the first node with an extent outside
pub first_outside : (label : Label) (ip dp : ℕ) (nodes : List Node) (i : ℕ) (node : Node) → slice_get nodes i ≡ Some node
    → AllByRecursion (FitsNode label ip dp) (take i nodes) → ¬ FitsNode label ip dp node → IsFirstOutside label ip dp nodes node.uid
first_outside label ip dp nodes i node is all outside = record {
  before = take i nodes;
  node = node;
  behind = drop (suc i) nodes;
  parts = parted nodes i node is;
  within = all;
  outside = outside;
  told = refl;
}
