-- The newest number of each owner: found, put in, put in the place of another, and taken out.
use Rattle.std.proofs.Common.{◌≡◌, ◌≢◌, ℕ, zero, suc, ◌<◌, ◌≤◌, Bool, true, false, cond, nat_eq, ltb, List, [], ◌∷◌, length, get_or, set, Option, Some, None, refl, ap, sym, subst, ◌∙◌, arith}
use Rattle.std.proofs.lemmas.Bool.{eq-eqb, eqb-true, ltb-true, ltb-false}
use Rattle.std.proofs.lemmas.Bool.Decides.{nat_tests}
use Rattle.std.specs.List.{AllByRecursion, insert, remove}
use Rattle.std.specs.List.Sorted.{IsPartitionedBy, IsPartitionPoint}
use Rattle.head_queue.specs.declared.newest.Owned.{Owned}
use Rattle.head_queue.specs.Newest.{lookup, Ascending}

-- so many stand before an owner, and the others don't
pub record IsPlace (xs : List Owned) (o at : ℕ) : Type 0 where
  pub below : (k : ℕ) (d : Owned) → k < at → (get_or xs k d).owner < o
  pub above : (k : ℕ) (d : Owned) → at ≤ k → k < length xs → o ≤ (get_or xs k d).owner

-- ---- tests

-- where both numbers are equal, the first of two choices is taken
pub one : (x y : Option ℕ) (a b : ℕ) → a ≡ b → cond (nat_eq a b) x y ≡ x
one x y a b e = ap (λ (t : Bool). cond t x y) (eq-eqb a b e)

-- where both numbers differ, the second of two choices is taken
pub other : (x y : Option ℕ) (a b : ℕ) → a ≢ b → cond (nat_eq a b) x y ≡ y
other x y a b ne = elim (nat_eq a b) as (λ t. nat_eq a b ≡ t → cond t x y ≡ y) [
  | true ↦ λ e. absurd (ne (eqb-true a b e))
  | false ↦ λ e. refl
] refl

-- two tests for numbers that differ may come in either order
pub turned : (x y z : Option ℕ) (p a b : ℕ) → a ≢ b → cond (nat_eq p a) x (cond (nat_eq p b) y z) ≡ cond (nat_eq p b) y (cond (nat_eq p a) x z)
turned x y z p a b ne = elim (nat_eq p a) as (λ t. nat_eq p a ≡ t → cond t x (cond (nat_eq p b) y z) ≡ cond (nat_eq p b) y (cond t x z)) [
  | true ↦ λ e. sym (other y x p b (λ f. ne (sym (eqb-true p a e) ∙ f)))
  | false ↦ λ e. refl
] refl

-- ---- places

all_at : (P : Owned → Type 0) (xs : List Owned) (k : ℕ) (d : Owned) → AllByRecursion P xs → k < length xs → P (get_or xs k d)
all_at P [] k d h lt = absurd (omega arith)
all_at P (x ∷ xs) zero d h lt = h.0
all_at P (x ∷ xs) (suc k) d h lt = all_at P xs k d h.1 (omega arith)

stays : (a b o : ℕ) → a < b → ltb b o ≡ true → ltb a o ≡ true
stays a b o lt h = grind (arith, nat_tests)

-- owners in ascending order are parted by any owner
pub partitioned : (xs : List Owned) (o : ℕ) → Ascending xs → IsPartitionedBy (λ (x : Owned). ltb x.owner o) xs
partitioned [] o h i j d le lt does = absurd (omega arith)
partitioned (x ∷ xs) o h zero zero d le lt does = does
partitioned (x ∷ xs) o h zero (suc j) d le lt does = stays x.owner (get_or xs j d).owner o (all_at (λ (y : Owned). x.owner < y.owner) xs j d h.0 (omega arith)) does
partitioned (x ∷ xs) o h (suc i) zero d le lt does = absurd (omega arith)
partitioned (x ∷ xs) o h (suc i) (suc j) d le lt does = partitioned xs o h.1 i j d (omega arith) (omega arith) does

-- where the list is parted by an owner is that owner's place
pub place : (xs : List Owned) (o at : ℕ) → IsPartitionPoint (λ (x : Owned). ltb x.owner o ≡ true) (λ (x : Owned). ltb x.owner o ≡ false) xs at → IsPlace xs o at
place xs o at parts = record {
  below = λ k d lt. ltb-true (get_or xs k d).owner o (parts.0 k d (omega arith) lt);
  above = λ k d le lt. ltb-false (get_or xs k d).owner o (parts.1 k d le lt);
}

next : (x : Owned) (xs : List Owned) (o at : ℕ) → IsPlace (x ∷ xs) o (suc at) → IsPlace xs o at
next x xs o at p = record { below = λ k d lt. p.below (suc k) d (omega arith); above = λ k d le lt. p.above (suc k) d (omega arith) (omega arith) }

-- ---- lookups

-- an owner that stands at its place has the number beside it
pub found : (xs : List Owned) (o at : ℕ) (d : Owned) → IsPlace xs o at → at < length xs → (get_or xs at d).owner ≡ o → lookup o xs ≡ Some (get_or xs at d).node
found [] o at d p lt is = absurd (omega arith)
found (x ∷ xs) o zero d p lt is = one (Some x.node) (lookup o xs) o x.owner (sym is)
found (x ∷ xs) o (suc at) d p lt is =
    other (Some x.node) (lookup o xs) o x.owner (λ e. let low : x.owner < o = p.below 0 d (omega arith) in omega arith)
    ∙ found xs o at d (next x xs o at p) (omega arith) is

past_none : (o : ℕ) (xs : List Owned) → AllByRecursion (λ (x : Owned). o < x.owner) xs → lookup o xs ≡ None
past_none o [] h = refl
past_none o (x ∷ xs) h = other (Some x.node) (lookup o xs) o x.owner (λ e. let lt : o < x.owner = h.0 in omega arith) ∙ past_none o xs h.1

past_all : (o p : ℕ) (xs : List Owned) → o ≤ p → AllByRecursion (λ (x : Owned). p < x.owner) xs → AllByRecursion (λ (x : Owned). o < x.owner) xs
past_all o p [] le h = tt
past_all o p (x ∷ xs) le h = (let lt : p < x.owner = h.0 in omega arith, past_all o p xs le h.1)

-- an owner that doesn't stand at its place has no number
pub absent : (xs : List Owned) (o at : ℕ) (d : Owned) → Ascending xs → IsPlace xs o at → (at < length xs → (get_or xs at d).owner ≢ o) → lookup o xs ≡ None
absent [] o at d h p ne = refl
absent (x ∷ xs) o zero d h p ne =
    let le : o ≤ x.owner = p.above 0 d (omega arith) (omega arith) in
    let differ : x.owner ≢ o = ne (omega arith) in
    let lt : o < x.owner = omega arith in
    past_none o (x ∷ xs) (lt, past_all o x.owner xs le h.0)
absent (x ∷ xs) o (suc at) d h p ne =
    other (Some x.node) (lookup o xs) o x.owner (λ e. let low : x.owner < o = p.below 0 d (omega arith) in omega arith)
    ∙ absent xs o at d h.1 (next x xs o at p) (λ lt. ne (omega arith))

-- ---- changes

-- a new pair in an owner's place changes that owner's number alone
pub told_there : (xs : List Owned) (o at : ℕ) (v d : Owned) → IsPlace xs o at → at < length xs → (get_or xs at d).owner ≡ o → v.owner ≡ o
    → (p : ℕ) → lookup p (set xs at v) ≡ cond (nat_eq p o) (Some v.node) (lookup p xs)
told_there [] o at v d pl lt is same p = absurd (omega arith)
told_there (x ∷ xs) o zero v d pl lt is same p =
    ap (λ (n : ℕ). cond (nat_eq p n) (Some v.node) (lookup p xs)) same
    ∙ elim (nat_eq p o) as (λ t. nat_eq p o ≡ t → cond t (Some v.node) (lookup p xs) ≡ cond t (Some v.node) (cond (nat_eq p x.owner) (Some x.node) (lookup p xs))) [
      | true ↦ λ e. refl
      | false ↦ λ e. sym (other (Some x.node) (lookup p xs) p x.owner (λ f. let t : nat_eq p o ≡ true = eq-eqb p o (f ∙ is) in cc))
    ] refl
told_there (x ∷ xs) o (suc at) v d pl lt is same p =
    ap (λ (q : Option ℕ). cond (nat_eq p x.owner) (Some x.node) q) (told_there xs o at v d (next x xs o at pl) (omega arith) is same p)
    ∙ turned (Some x.node) (Some v.node) (lookup p xs) p x.owner o (λ e. let low : x.owner < o = pl.below 0 d (omega arith) in omega arith)

-- a pair put in at an owner's place gives that owner its number and changes no other
pub told_new : (xs : List Owned) (o at : ℕ) (v d : Owned) → IsPlace xs o at → at ≤ length xs → v.owner ≡ o
    → (p : ℕ) → lookup p (insert xs at v) ≡ cond (nat_eq p o) (Some v.node) (lookup p xs)
told_new xs o zero v d pl le same p = ap (λ (n : ℕ). cond (nat_eq p n) (Some v.node) (lookup p xs)) same
told_new [] o (suc at) v d pl le same p = absurd (omega arith)
told_new (x ∷ xs) o (suc at) v d pl le same p =
    ap (λ (q : Option ℕ). cond (nat_eq p x.owner) (Some x.node) q) (told_new xs o at v d (next x xs o at pl) (omega arith) same p)
    ∙ turned (Some x.node) (Some v.node) (lookup p xs) p x.owner o (λ e. let low : x.owner < o = pl.below 0 d (omega arith) in omega arith)

-- a pair taken out at an owner's place takes that owner's number and changes no other
pub told_gone : (xs : List Owned) (o at : ℕ) (d : Owned) → Ascending xs → IsPlace xs o at → at < length xs → (get_or xs at d).owner ≡ o
    → (p : ℕ) → lookup p (remove xs at) ≡ cond (nat_eq p o) None (lookup p xs)
told_gone [] o at d h pl lt is p = absurd (omega arith)
told_gone (x ∷ xs) o zero d h pl lt is p = elim (nat_eq p o) as (λ t. nat_eq p o ≡ t → lookup p xs ≡ cond t None (cond (nat_eq p x.owner) (Some x.node) (lookup p xs))) [
  | true ↦ λ e. past_none p xs (past_all p x.owner xs (let f : p ≡ o = eqb-true p o e in omega arith) h.0)
  | false ↦ λ e. sym (other (Some x.node) (lookup p xs) p x.owner (λ f. let t : nat_eq p o ≡ true = eq-eqb p o (f ∙ is) in cc))
] refl
told_gone (x ∷ xs) o (suc at) d h pl lt is p =
    ap (λ (q : Option ℕ). cond (nat_eq p x.owner) (Some x.node) q) (told_gone xs o at d h.1 (next x xs o at pl) (omega arith) is p)
    ∙ turned (Some x.node) None (lookup p xs) p x.owner o (λ e. let low : x.owner < o = pl.below 0 d (omega arith) in omega arith)

-- ---- the order stays

owners_set : (a : ℕ) (xs : List Owned) (at : ℕ) (v : Owned) → a < v.owner → AllByRecursion (λ (y : Owned). a < y.owner) xs → AllByRecursion (λ (y : Owned). a < y.owner) (set xs at v)
owners_set a [] at v lt h = tt
owners_set a (x ∷ xs) zero v lt h = (lt, h.1)
owners_set a (x ∷ xs) (suc at) v lt h = (h.0, owners_set a xs at v lt h.1)

-- a new pair in its owner's place leaves the owners ascending
pub ascending_there : (xs : List Owned) (o at : ℕ) (v d : Owned) → Ascending xs → IsPlace xs o at → at < length xs → (get_or xs at d).owner ≡ o → v.owner ≡ o → Ascending (set xs at v)
ascending_there [] o at v d h pl lt is same = tt
ascending_there (x ∷ xs) o zero v d h pl lt is same = (subst (λ (n : ℕ). AllByRecursion (λ (y : Owned). n < y.owner) xs) (is ∙ sym same) h.0, h.1)
ascending_there (x ∷ xs) o (suc at) v d h pl lt is same =
    (owners_set x.owner xs at v (let low : x.owner < o = pl.below 0 d (omega arith) in omega arith) h.0, ascending_there xs o at v d h.1 (next x xs o at pl) (omega arith) is same)

owners_new : (a : ℕ) (xs : List Owned) (at : ℕ) (v : Owned) → a < v.owner → AllByRecursion (λ (y : Owned). a < y.owner) xs → AllByRecursion (λ (y : Owned). a < y.owner) (insert xs at v)
owners_new a xs zero v lt h = (lt, h)
owners_new a [] (suc at) v lt h = (lt, tt)
owners_new a (x ∷ xs) (suc at) v lt h = (h.0, owners_new a xs at v lt h.1)

-- a pair put in at the place of a new owner leaves the owners ascending
pub ascending_new : (xs : List Owned) (o at : ℕ) (v d : Owned) → Ascending xs → IsPlace xs o at → at ≤ length xs → (at < length xs → (get_or xs at d).owner ≢ o) → v.owner ≡ o → Ascending (insert xs at v)
ascending_new [] o zero v d h pl le ne same = (tt, tt)
ascending_new [] o (suc at) v d h pl le ne same = absurd (omega arith)
ascending_new (x ∷ xs) o zero v d h pl le ne same =
    let upto : o ≤ x.owner = pl.above 0 d (omega arith) (omega arith) in
    let differ : x.owner ≢ o = ne (omega arith) in
    let lt : v.owner < x.owner = omega arith in
    ((lt, past_all v.owner x.owner xs (omega arith) h.0), h)
ascending_new (x ∷ xs) o (suc at) v d h pl le ne same =
    (owners_new x.owner xs at v (let low : x.owner < o = pl.below 0 d (omega arith) in omega arith) h.0, ascending_new xs o at v d h.1 (next x xs o at pl) (omega arith) (λ lt. ne (omega arith)) same)

owners_gone : (a : ℕ) (xs : List Owned) (at : ℕ) → AllByRecursion (λ (y : Owned). a < y.owner) xs → AllByRecursion (λ (y : Owned). a < y.owner) (remove xs at)
owners_gone a [] zero h = tt
owners_gone a [] (suc at) h = tt
owners_gone a (x ∷ xs) zero h = h.1
owners_gone a (x ∷ xs) (suc at) h = (h.0, owners_gone a xs at h.1)

-- a pair taken out leaves the owners ascending
pub ascending_gone : (xs : List Owned) (at : ℕ) → Ascending xs → Ascending (remove xs at)
ascending_gone [] zero h = tt
ascending_gone [] (suc at) h = tt
ascending_gone (x ∷ xs) zero h = h.1
ascending_gone (x ∷ xs) (suc at) h = (owners_gone x.owner xs at h.0, ascending_gone xs at h.1)

-- ---- in the words of the code

-- within a list no value is needed for places outside
pub whichever : (xs : List Owned) (k : ℕ) (d e : Owned) → k < length xs → get_or xs k d ≡ get_or xs k e
whichever [] k d e lt = absurd (omega arith)
whichever (x ∷ xs) zero d e lt = refl
whichever (x ∷ xs) (suc k) d e lt = whichever xs k d e (omega arith)

-- taking its number from an owner that has none changes nothing
pub told_none : (xs : List Owned) (o : ℕ) → lookup o xs ≡ None → (p : ℕ) → lookup p xs ≡ cond (nat_eq p o) None (lookup p xs)
told_none xs o none p = elim (nat_eq p o) as (λ t. nat_eq p o ≡ t → lookup p xs ≡ cond t None (lookup p xs)) [
  | true ↦ λ e. ap (λ (n : ℕ). lookup n xs) (eqb-true p o e) ∙ none
  | false ↦ λ e. refl
] refl
