-- A history is no longer than its script, and shorter as long as a session has a call left.
use Rattle.std.specs.Prelude.{ℕ, ◌≡◌, ◌==◌, ◌+◌, ◌≤◌, ◌<◌, Bool, true, false, cond, List, [], ◌∷◌, filter, length}
use Rattle.std.proofs.Common.{refl, sym, ap, subst, ◌∙◌, arith}
use Rattle.std.proofs.lemmas.Bool.{eq-eqb, eqb-true}
use Rattle.std.proofs.lemmas.List.{length-map}
use Rattle.plain_tree.specs.History.{numbers_of}
use Rattle.plain_tree.specs.declared.calls.Placed.{Placed}
use Rattle.session_script.specs.Grammar.{calls_of}
use Rattle.session_script.specs.declared.scripts.ScriptLine.{ScriptLine}
use Rattle.promises.specs.ServingPromise.Served.{IsPlacedSoFar}

-- ---- how many elements have a number

module _ {X : Type 0} (f : X → ℕ) where
  abbrev count_of : ℕ → List X → ℕ
  count_of w xs = length (filter (λ (x : X). f x == w) xs)

  -- all but the first that has it
  abbrev less_one : ℕ → List X → List X
  less_one w [] = []
  less_one w (x ∷ xs) = cond (f x == w) xs (x ∷ less_one w xs)

  count_more : (w : ℕ) (x : X) (xs : List X) → count_of w (x ∷ xs) ≡ cond (f x == w) 1 0 + count_of w xs
  count_more w x xs = by (f x == w)
    where
      by : (b : Bool)
          → length (cond b (x ∷ filter (λ (y : X). f y == w) xs) (filter (λ (y : X). f y == w) xs))
          ≡ cond b 1 0 + count_of w xs
      by true = omega arith
      by false = omega arith

  length_less : (w : ℕ) (xs : List X) → 1 ≤ count_of w xs → length (less_one w xs) + 1 ≡ length xs
  length_less w [] some = absurd (omega (arith, some))
  length_less w (x ∷ xs) some = by (f x == w) refl (λ s. length_less w xs s)
    where
      by : (b : Bool) → (f x == w) ≡ b → (1 ≤ count_of w xs → length (less_one w xs) + 1 ≡ length xs)
          → length (cond b xs (x ∷ less_one w xs)) + 1 ≡ length (x ∷ xs)
      by true is rest = omega arith
      by false is rest =
          let more : count_of w (x ∷ xs) ≡ 0 + count_of w xs =
          count_more w x xs ∙ ap (λ b. cond b 1 0 + count_of w xs) is in
          omega (arith, rest (omega (arith, more, some)))

  count_less : (w v : ℕ) (xs : List X) → 1 ≤ count_of w xs
      → count_of v (less_one w xs) + cond (w == v) 1 0 ≡ count_of v xs
  count_less w v [] some = absurd (omega (arith, some))
  count_less w v (x ∷ xs) some = by (f x == w) refl (λ s. count_less w v xs s)
    where
      by : (b : Bool) → (f x == w) ≡ b
          → (1 ≤ count_of w xs → count_of v (less_one w xs) + cond (w == v) 1 0 ≡ count_of v xs)
          → count_of v (cond b xs (x ∷ less_one w xs)) + cond (w == v) 1 0 ≡ count_of v (x ∷ xs)
      by true is rest =
          let more : count_of v (x ∷ xs) ≡ cond (w == v) 1 0 + count_of v xs =
          count_more v x xs ∙ ap (λ n. cond (n == v) 1 0 + count_of v xs) (eqb-true (f x) w is) in
          omega (arith, more)
      by false is rest =
          let left : count_of w (x ∷ xs) ≡ 0 + count_of w xs =
          count_more w x xs ∙ ap (λ b. cond b 1 0 + count_of w xs) is in
          let had = rest (omega (arith, left, some)) in
          omega (arith, had, count_more v x xs, count_more v x (less_one w xs))

-- ---- lists of which one has no more elements of any number

module _ {X Y : Type 0} (f : X → ℕ) (g : Y → ℕ) where
  no_longer : (xs : List X) (ys : List Y) → ((w : ℕ) → count_of f w xs ≤ count_of g w ys) → length xs ≤ length ys
  no_longer [] ys all = omega arith
  no_longer (x ∷ xs) ys all =
      let here : count_of f (f x) (x ∷ xs) ≡ 1 + count_of f (f x) xs =
      count_more f (f x) x xs ∙ ap (λ b. cond b 1 0 + count_of f (f x) xs) (eq-eqb (f x) (f x) refl) in
      let some : 1 ≤ count_of g (f x) ys = omega (arith, here, all (f x)) in
      let rest : length xs ≤ length (less_one g (f x) ys) =
      no_longer xs (less_one g (f x) ys)
      (λ v. omega (arith, all v, count_more f v x xs, count_less g (f x) v ys some)) in
      omega (arith, rest, length_less g (f x) ys some)

  shorter : (xs : List X) (ys : List Y) (w : ℕ) → ((v : ℕ) → count_of f v xs ≤ count_of g v ys)
      → count_of f w xs < count_of g w ys → length xs < length ys
  shorter xs ys w all fewer =
      let some : 1 ≤ count_of g w ys = omega (arith, fewer) in
      let rest : length xs ≤ length (less_one g w ys) =
      no_longer xs (less_one g w ys) (λ v. by v (w == v) refl (count_less g w v ys some)) in
      omega (arith, rest, length_less g w ys some)
    where
      by : (v : ℕ) (b : Bool) → (w == v) ≡ b → count_of g v (less_one g w ys) + cond (w == v) 1 0 ≡ count_of g v ys
          → count_of f v xs ≤ count_of g v (less_one g w ys)
      by v true is less =
          let here : count_of g v (less_one g w ys) + 1 ≡ count_of g v ys =
          sym (ap (λ b. count_of g v (less_one g w ys) + cond b 1 0) is) ∙ less in
          let few : count_of f v xs < count_of g v ys =
          subst (λ n. count_of f n xs < count_of g n ys) (eqb-true w v is) fewer in
          omega (arith, here, few)
      by v false is less =
          let here : count_of g v (less_one g w ys) + 0 ≡ count_of g v ys =
          sym (ap (λ b. count_of g v (less_one g w ys) + cond b 1 0) is) ∙ less in
          omega (arith, here, all v)

-- ---- placements

module _ (script : List ScriptLine) (history : List Placed) where
  placed_count : (who : ℕ) → length (numbers_of history who) ≡ count_of (λ (p : Placed). p.who) who history
  placed_count who = length-map (filter (λ (p : Placed). p.who == who) history) (λ (p : Placed). p.nth)

  calls_count : (who : ℕ) → length (calls_of script who) ≡ count_of (λ (l : ScriptLine). l.who) who script
  calls_count who = length-map (filter (λ (l : ScriptLine). l.who == who) script) (λ (l : ScriptLine). l.call)

  -- as long as a session has a call left, the history is shorter than the script
  pub calls_left : (who : ℕ) → IsPlacedSoFar (calls_of script) history
      → length (numbers_of history who) < length (calls_of script who) → length history < length script
  calls_left who so_far more =
      shorter (λ (p : Placed). p.who) (λ (l : ScriptLine). l.who) history script who
      (λ w. omega (arith, so_far.within w, placed_count w, calls_count w))
      (omega (arith, more, placed_count who, calls_count who))

  -- a history is no longer than its script
  pub placed_within : IsPlacedSoFar (calls_of script) history → length history ≤ length script
  placed_within so_far =
      no_longer (λ (p : Placed). p.who) (λ (l : ScriptLine). l.who) history script
      (λ w. omega (arith, so_far.within w, placed_count w, calls_count w))
