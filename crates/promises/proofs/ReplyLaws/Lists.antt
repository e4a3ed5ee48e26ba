-- Lists that go on, and what is said of their places.
use Rattle.std.specs.Prelude.{Option, filter_map, ◌≡◌, ◌⊎◌, ◌<◌, ◌≤◌, ◌+◌, ◌&&◌, ℕ, zero, suc, Bool, true, false, List, [], ◌∷◌, ◌++◌, length, fold, Some, None, slice_get, slice_index_or, Contains}
use Rattle.std.specs.List.{enumerate_from, flat_map}
use Rattle.std.proofs.Common.{refl, sym, ap, ◌∙◌, arith, inl, inr}
use Rattle.std.proofs.lemmas.List.{append_cancel_left}
pub use Rattle.std.proofs.lemmas.Option.{slice_get_within as get_within}
use Rattle.std.proofs.lemmas.Option.{same_Some}

-- ---- lists with their places

-- two lists numbered together are the first, and the second from its length on
pub enumerate_append : {X : Type 0} (n : ℕ) (xs ys : List X) → enumerate_from n (xs ++ ys) ≡ enumerate_from n xs ++ enumerate_from (n + length xs) ys
enumerate_append n [] ys = let e : n ≡ n + 0 = omega arith in ap (λ k. enumerate_from k ys) e
enumerate_append n (x ∷ xs) ys =
    let e : n + 1 + length xs ≡ n + suc (length xs) = omega arith in
    ap (λ more. (n, x) ∷ more) (enumerate_append (n + 1) xs ys ∙ ap (λ k. enumerate_from (n + 1) xs ++ enumerate_from k ys) e)

-- one element more, at the next place
pub enumerate_next : {X : Type 0} (xs : List X) (x : X) → enumerate_from 0 (xs ++ x ∷ []) ≡ enumerate_from 0 xs ++ (length xs, x) ∷ []
enumerate_next xs x =
    let e : 0 + length xs ≡ length xs = omega arith in
    enumerate_append 0 xs (x ∷ []) ∙ ap (λ k. enumerate_from 0 xs ++ (k, x) ∷ []) e

-- two functions that agree at each place of a list
pub fold_same : {X S : Type 0} (f h : S → ℕ × X → S) (n : ℕ) (xs : List X) (s : S) → ((k : ℕ) (t : S) (x : X) → k < n + length xs → f t (k, x) ≡ h t (k, x))
    → fold f s (enumerate_from n xs) ≡ fold h s (enumerate_from n xs)
fold_same f h n [] s same = refl
fold_same f h n (x ∷ xs) s same =
    ap (λ t. fold f t (enumerate_from (n + 1) xs)) (same n s x (omega arith))
    ∙ fold_same f h (n + 1) xs (h s (n, x)) (λ k t y less. same k t y (omega (arith, less)))

-- what is made of each place is the same where it is the same at each
pub flat_map_same : {X Y : Type 0} (f h : ℕ × X → List Y) (n : ℕ) (xs : List X) → ((k : ℕ) (x : X) → k < n + length xs → f (k, x) ≡ h (k, x))
    → flat_map f (enumerate_from n xs) ≡ flat_map h (enumerate_from n xs)
flat_map_same f h n [] same = refl
flat_map_same f h n (x ∷ xs) same =
    ap (λ ys. ys ++ flat_map f (enumerate_from (n + 1) xs)) (same n x (omega arith))
    ∙ ap (λ ys. h (n, x) ++ ys) (flat_map_same f h (n + 1) xs (λ k y less. same k y (omega (arith, less))))

-- ---- what is scanned

-- ---- what stands at a place

-- a place at which nothing stands is past the list
pub get_past : {X : Type 0} (xs : List X) (k : ℕ) → slice_get xs k ≡ None → length xs ≤ k
get_past [] k e = omega arith
get_past (x ∷ xs) zero e = cc
get_past (x ∷ xs) (suc k) e = omega (arith, get_past xs k e)

-- a place of a list with one element more is one of its own, or the last
pub get_next : {X : Type 0} (xs : List X) (y : X) (k : ℕ) (x : X) → slice_get (xs ++ y ∷ []) k ≡ Some x → ((k < length xs) × (slice_get xs k ≡ Some x)) ⊎ ((k ≡ length xs) × (y ≡ x))
get_next [] y zero x e = inr (refl, same_Some y x e)
get_next [] y (suc k) x e = cc
get_next (z ∷ zs) y zero x e = inl (omega arith, e)
get_next (z ∷ zs) y (suc k) x e = by (get_next zs y k x e)
  where
    by : ((k < length zs) × (slice_get zs k ≡ Some x)) ⊎ ((k ≡ length zs) × (y ≡ x)) → ((suc k < length (z ∷ zs)) × (slice_get (z ∷ zs) (suc k) ≡ Some x)) ⊎ ((suc k ≡ length (z ∷ zs)) × (y ≡ x))
    by (inl (less, at)) = inl (omega (arith, less), at)
    by (inr (is, same)) = inr (omega (arith, is), same)

first_same : {X : Type 0} (x y : X) → x ∷ [] ≡ y ∷ [] → x ≡ y
first_same x y e = cc

-- the element by which a list goes on
pub next_same : {X : Type 0} (xs : List X) (x y : X) → xs ++ x ∷ [] ≡ xs ++ y ∷ [] → x ≡ y
next_same xs x y e = first_same x y (append_cancel_left xs (x ∷ []) (y ∷ []) e)

-- ---- tests

-- of two truths together, the first is true
pub and_first : (a b : Bool) → (a && b) ≡ true → a ≡ true
and_first true b e = refl
and_first false b e = cc

-- of two truths together, the second is true
pub and_second : (a b : Bool) → (a && b) ≡ true → b ≡ true
and_second true b e = e
and_second false b e = cc

-- ---- what is picked from a list

-- an element that brings nothing adds nothing in front
pub picks_none : {X Y : Type 0} (f : X → Option Y) (x : X) (xs : List X) → f x ≡ None → filter_map f (x ∷ xs) ≡ filter_map f xs
picks_none f x xs none = rw none refl

-- an element that brings something adds it in front
pub picks_some : {X Y : Type 0} (f : X → Option Y) (x : X) (xs : List X) (y : Y) → f x ≡ Some y → filter_map f (x ∷ xs) ≡ y ∷ filter_map f xs
picks_some f x xs y some = rw some refl

-- ---- a list cut at an element

head_same : {X : Type 0} (x y : X) (xs ys : List X) → x ∷ xs ≡ y ∷ ys → x ≡ y
head_same x y xs ys e = cc

tail_same : {X : Type 0} (x y : X) (xs ys : List X) → x ∷ xs ≡ y ∷ ys → xs ≡ ys
tail_same x y xs ys e = cc

-- an element of a list that goes on stands in the list, or behind it
pub split : {X : Type 0} (xs ys front : List X) (e : X) (rest : List X) → xs ++ ys ≡ front ++ e ∷ rest → ((tail : List X) × (xs ≡ front ++ e ∷ tail)) ⊎ ((mid : List X) × (front ≡ xs ++ mid) × (ys ≡ mid ++ e ∷ rest))
split [] ys front e rest h = inr (front, refl, h)
split (x ∷ xs) ys [] e rest h = inl (xs, ap (λ y. y ∷ xs) (head_same x e (xs ++ ys) rest h))
split {X = X} (x ∷ xs) ys (f ∷ front) e rest h = by (split xs ys front e rest (tail_same x f (xs ++ ys) (front ++ e ∷ rest) h))
  where
    same : x ≡ f
    same = head_same x f (xs ++ ys) (front ++ e ∷ rest) h

    by : ((tail : List X) × (xs ≡ front ++ e ∷ tail)) ⊎ ((mid : List X) × (front ≡ xs ++ mid) × (ys ≡ mid ++ e ∷ rest)) → ((tail : List X) × (x ∷ xs ≡ (f ∷ front) ++ e ∷ tail)) ⊎ ((mid : List X) × (f ∷ front ≡ (x ∷ xs) ++ mid) × (ys ≡ mid ++ e ∷ rest))
    by (inl old) = inl (old.0, ap (λ more. x ∷ more) old.1 ∙ ap (λ y. y ∷ (front ++ e ∷ old.0)) same)
    by (inr new) = inr (new.0, ap (λ more. f ∷ more) new.1 ∙ ap (λ y. y ∷ (xs ++ new.0)) (sym same), new.2)

-- ---- what a list contains

-- the first element is in its list
pub in_first : {X : Type 0} (x : X) (xs : List X) → Contains (x ∷ xs) x
in_first x xs = (zero, omega arith, refl)

-- what is in the rest is in the list
pub in_rest : {X : Type 0} (x : X) (xs : List X) (y : X) → Contains xs y → Contains (x ∷ xs) y
in_rest x xs y has = (suc has.0, omega (arith, has.1), has.2)

-- what is in a list is the first element or in the rest
pub in_cases : {X : Type 0} (x : X) (xs : List X) (y : X) → Contains (x ∷ xs) y → (x ≡ y) ⊎ Contains xs y
in_cases {X = X} x xs y has = by has.0 has.1 has.2
  where
    by : (k : ℕ) → k < length (x ∷ xs) → slice_index_or (x ∷ xs) k y ≡ y → (x ≡ y) ⊎ Contains xs y
    by zero less e = inl e
    by (suc k) less e = inr (k, omega (arith, less), e)

-- nothing is in the empty list
pub in_none : {X : Type 0} (y : X) → Contains [] y → ⊥
in_none y has = omega (arith, has.1)

-- the first place behind a list
pub get_behind : {X : Type 0} (xs ys : List X) → slice_get (xs ++ ys) (length xs) ≡ slice_get ys 0
get_behind [] ys = refl
get_behind (x ∷ xs) ys = get_behind xs ys
