-- Lists that grow at their end.
use Rattle.std.specs.Prelude.{◌≡◌, ◌⊎◌, ◌||◌, not, ℕ, zero, suc, ◌+◌, ◌≤◌, ◌<◌, Bool, true, false, cond, List, [], ◌∷◌, ◌++◌, drop, filter, filter_map, length, Option, Some, None, slice_get}
use Rattle.std.specs.List.{after_first, enumerate_from, list_all, list_any, range_with_len, zip}
use Rattle.std.proofs.Common.{⊎_elim, inl, inr, refl, sym, ap, subst, ◌∙◌, arith, length-append}
use Rattle.std.proofs.lemmas.List.Elements.{filter_map-append}
use Rattle.std.proofs.lemmas.Option.{same_Some}
use Rattle.head_queue.specs.EventLaws.Trail.{both}

-- one more at the end of a list gets the next number
pub enumerate-push : {X : Type 0} (n : ℕ) (xs : List X) (y : X) → enumerate_from n (xs ++ y ∷ []) ≡ enumerate_from n xs ++ (n + length xs, y) ∷ []
enumerate-push n [] y = let same : n ≡ n + 0 = omega arith in ap (λ m. (m, y) ∷ []) same
enumerate-push n (x ∷ xs) y =
    let same : n + 1 + length xs ≡ n + length (x ∷ xs) = omega arith in
    ap (λ l. (n, x) ∷ l) (enumerate-push (n + 1) xs y ∙ ap (λ m. enumerate_from (n + 1) xs ++ (m, y) ∷ []) same)

-- one more at the end of two lists of one length makes one pair more
pub zip-push : {X Y : Type 0} (xs : List X) (ys : List Y) (x : X) (y : Y) → length ys ≡ length xs → zip (xs ++ x ∷ []) (ys ++ y ∷ []) ≡ zip xs ys ++ (x, y) ∷ []
zip-push [] [] x y e = refl
zip-push [] (b ∷ ys) x y e = absurd (omega (arith, e))
zip-push (a ∷ xs) [] x y e = absurd (omega (arith, e))
zip-push (a ∷ xs) (b ∷ ys) x y e = ap (λ l. (a, b) ∷ l) (zip-push xs ys x y (omega (arith, e)))

-- a pair at a place is what both lists have there
pub zip-get : {X Y : Type 0} (xs : List X) (ys : List Y) (k : ℕ) → slice_get (zip xs ys) k ≡ both (slice_get xs k) (slice_get ys k)
zip-get [] ys k = by (slice_get ys k)
  where
    by : {X Y : Type 0} (o : Option Y) → None ≡ both {X = X} None o
    by None = refl
    by (Some y) = refl
zip-get (x ∷ xs) [] zero = refl
zip-get (x ∷ xs) [] (suc k) = by (slice_get xs k)
  where
    by : {X Y : Type 0} (o : Option X) → None ≡ both {Y = Y} o None
    by None = refl
    by (Some y) = refl
zip-get (x ∷ xs) (y ∷ ys) zero = refl
zip-get (x ∷ xs) (y ∷ ys) (suc k) = zip-get xs ys k

-- a range that is one longer has one number more at its end
pub range-push : (a n : ℕ) → range_with_len a (suc n) ≡ range_with_len a n ++ (a + n) ∷ []
range-push a zero = let same : a ≡ a + 0 = omega arith in ap (λ m. m ∷ []) same
range-push a (suc n) =
    let same : a + 1 + n ≡ a + suc n = omega arith in
    ap (λ l. a ∷ l) (range-push (a + 1) n ∙ ap (λ m. range_with_len (a + 1) n ++ m ∷ []) same)

-- an element of a list with one more stood there, or is the last
pub at_push : {X : Type 0} (xs : List X) (y z : X) (k : ℕ) → slice_get (xs ++ y ∷ []) k ≡ Some z → (slice_get xs k ≡ Some z) ⊎ ((k ≡ length xs) × (y ≡ z))
at_push [] y z zero e = inr (refl, same_Some y z e)
at_push [] y z (suc k) e = cc
at_push (x ∷ xs) y z zero e = inl e
at_push (x ∷ xs) y z (suc k) e = ⊎_elim (λ h. inl h) (λ h. inr (ap suc h.0, h.1)) (at_push xs y z k e)

-- what stood in a list stands in a longer one
pub at_more : {X : Type 0} (xs ys : List X) (k : ℕ) (x : X) → slice_get xs k ≡ Some x → slice_get (xs ++ ys) k ≡ Some x
at_more [] ys k x e = cc
at_more (a ∷ xs) ys zero x e = e
at_more (a ∷ xs) ys (suc k) x e = at_more xs ys k x e

-- an element that is there
pub at_some : {X : Type 0} (xs : List X) (k : ℕ) → k < length xs → (x : X) × (slice_get xs k ≡ Some x)
at_some [] k less = absurd (omega (arith, less))
at_some (x ∷ xs) zero less = (x, refl)
at_some (x ∷ xs) (suc k) less = at_some xs k (omega (arith, less))

-- ---- tests

-- what passes no filter is not lost by it
pub any_filter : {X : Type 0} (p q : X → Bool) (xs : List X) → list_any p (filter q xs) ≡ true → list_any p xs ≡ true
any_filter p q [] h = h
any_filter p q (x ∷ xs) h = by (q x) (p x) h (any_filter p q xs)
  where
    by : (b c : Bool) → list_any p (cond b (x ∷ filter q xs) (filter q xs)) ≡ true → (list_any p (filter q xs) ≡ true → list_any p xs ≡ true) → (p x || list_any p xs) ≡ true
    by b c h more = at (p x) b refl h
      where
        at : (c b : Bool) → p x ≡ c → list_any p (cond b (x ∷ filter q xs) (filter q xs)) ≡ true → (c || list_any p xs) ≡ true
        at true b is h = refl
        at false true is h = more (sym (ap (λ c. c || list_any p (filter q xs)) is) ∙ h)
        at false false is h = more h

-- a test that implies another finds the same after filtering by that other
pub any_filter_same : {X : Type 0} (p q : X → Bool) (xs : List X) → ((x : X) → p x ≡ true → q x ≡ true) → list_any p (filter q xs) ≡ list_any p xs
any_filter_same p q [] w = refl
any_filter_same p q (x ∷ xs) w = by (q x) (p x) refl refl (any_filter_same p q xs w)
  where
    by : (b c : Bool) → q x ≡ b → p x ≡ c → list_any p (filter q xs) ≡ list_any p xs → list_any p (cond b (x ∷ filter q xs) (filter q xs)) ≡ (c || list_any p xs)
    by true c is isp more = ap (λ d. d || list_any p (filter q xs)) isp ∙ ap (λ l. c || l) more
    by false true is isp more = absurd (let no : true ≡ false = sym (w x isp) ∙ is in cc)
    by false false is isp more = more

-- ---- what stands behind the first that passes

after_first-here : {X : Type 0} (p : X → Bool) (x : X) (xs : List X) → p x ≡ true → after_first p (x ∷ xs) ≡ xs
after_first-here p x xs is = ap (λ (b : Bool). drop (cond (not b) (1 + Rattle.std.specs.List.prefix_len (λ y. not (p y)) xs) 0 + 1) (x ∷ xs)) is

-- where the first doesn't pass, what comes after the first that passes lies in the rest
pub after_first-later : {X : Type 0} (p : X → Bool) (x : X) (xs : List X) → p x ≡ false → after_first p (x ∷ xs) ≡ after_first p xs
after_first-later p x xs is =
    ap (λ (b : Bool). drop (cond (not b) (1 + Rattle.std.specs.List.prefix_len (λ y. not (p y)) xs) 0 + 1) (x ∷ xs)) is
    ∙ ap (λ n. drop n (x ∷ xs)) (one (Rattle.std.specs.List.prefix_len (λ y. not (p y)) xs))
  where
    one : (n : ℕ) → 1 + n + 1 ≡ suc (n + 1)
    one n = omega arith

-- where none passes, what stands behind the first of a longer list stands there in the rest
pub after_first-none : {X : Type 0} (p : X → Bool) (xs ys : List X) → list_any p xs ≡ false → after_first p (xs ++ ys) ≡ after_first p ys
after_first-none p [] ys none = refl
after_first-none p (x ∷ xs) ys none = by (p x) refl none (after_first-none p xs ys)
  where
    by : (b : Bool) → p x ≡ b → (b || list_any p xs) ≡ false → (list_any p xs ≡ false → after_first p (xs ++ ys) ≡ after_first p ys)
        → after_first p (x ∷ (xs ++ ys)) ≡ after_first p ys
    by true is h more = absurd (cc)
    by false is h more = after_first-later p x (xs ++ ys) is ∙ more h

-- of what is counted behind the first no more is there than in the whole
pub count_after : {X Y : Type 0} (p : X → Bool) (f : X → Option Y) (xs : List X) → length (filter_map f (after_first p xs)) ≤ length (filter_map f xs)
count_after p f [] = omega arith
count_after {X = X} {Y = Y} p f (x ∷ xs) = by (p x) refl (count_after p f xs)
  where
    one : (xs : List X) → length (filter_map f xs) ≤ length (filter_map f (x ∷ xs))
    one xs = at (f x)
      where
        at : (o : Option Y) → length (filter_map f xs) ≤ length (Rattle.std.specs.List.cons_option o (filter_map f xs))
        at None = omega arith
        at (Some y) = omega arith

    by : (b : Bool) → p x ≡ b → length (filter_map f (after_first p xs)) ≤ length (filter_map f xs) → length (filter_map f (after_first p (x ∷ xs))) ≤ length (filter_map f (x ∷ xs))
    by true is more = subst (λ l. length (filter_map f l) ≤ length (filter_map f (x ∷ xs))) (sym (after_first-here p x xs is)) (one xs)
    by false is more = subst (λ l. length (filter_map f l) ≤ length (filter_map f (x ∷ xs))) (sym (after_first-later p x xs is)) (omega (arith, one xs, more))

-- and behind the first of a longer list no more than behind the first and in the rest
pub count_after_more : {X Y : Type 0} (p : X → Bool) (f : X → Option Y) (xs ys : List X)
    → length (filter_map f (after_first p (xs ++ ys))) ≤ length (filter_map f (after_first p xs)) + length (filter_map f ys)
count_after_more p f [] ys = omega (arith, count_after p f ys)
count_after_more p f (x ∷ xs) ys = by (p x) refl (count_after_more p f xs ys)
  where
    by : (b : Bool) → p x ≡ b → length (filter_map f (after_first p (xs ++ ys))) ≤ length (filter_map f (after_first p xs)) + length (filter_map f ys)
        → length (filter_map f (after_first p (x ∷ (xs ++ ys)))) ≤ length (filter_map f (after_first p (x ∷ xs))) + length (filter_map f ys)
    by true is more =
        subst (λ l. length (filter_map f l) ≤ length (filter_map f (after_first p (x ∷ xs))) + length (filter_map f ys)) (sym (after_first-here p x (xs ++ ys) is))
        (subst (λ l. length (filter_map f (xs ++ ys)) ≤ length (filter_map f l) + length (filter_map f ys)) (sym (after_first-here p x xs is))
        (omega (arith, ap length (filter_map-append f xs ys), length-append (filter_map f xs) (filter_map f ys))))
    by false is more =
        subst (λ l. length (filter_map f l) ≤ length (filter_map f (after_first p (x ∷ xs))) + length (filter_map f ys)) (sym (after_first-later p x (xs ++ ys) is))
        (subst (λ l. length (filter_map f (after_first p (xs ++ ys))) ≤ length (filter_map f l) + length (filter_map f ys)) (sym (after_first-later p x xs is))
        more)
