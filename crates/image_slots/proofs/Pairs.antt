-- What the gates of two slots do to the value that is chosen.
use Rattle.std.proofs.Common.{ℕ, ◌+◌, ◌≡◌, ◌≢◌, ◌⊎◌, ◌==◌, ⊎_elim, inl, inr, Bool, true, false, if◌then◌else◌, List, ◌∷◌, ◌++◌, take, drop, length, get_or, Option, Some, None, option_map, refl, sym, ◌∙◌, ap, arith}
use Rattle.std.proofs.lemmas.Bool.{cases_eq, eq-eqb}
use Rattle.std.proofs.lemmas.List.{length-append, length-drop, get_or_append_left, get_or-append-add, drop-append-le, drop-drop, drop_at, take_at, take_all}
use Rattle.image_slots.specs.Slots.{IsOpen, serial_of}
use Rattle.image_slots.specs.Sides.{chosen, side_by, side_in, value_at}
use Rattle.image_slots.specs.declared.sides.Side.{Side}
use Rattle.image_slots.specs.declared.sides.Side.TheVariants.{First, Second}
use Rattle.image_slots.proofs.Choosing.{gate_closed}

zero_one : (n : ℕ) → n ≡ 0 → n ≡ 1 → ⊥
zero_one n h k = omega (arith, h, k)

abbrev of_side : Option Side → List ℕ → List ℕ → Option (List ℕ)
of_side None x y = None
of_side (Some First) x y = Some x
of_side (Some Second) x y = Some y

abbrev of_gates : ℕ → ℕ → List ℕ → List ℕ → Option (List ℕ)
of_gates ga gb x y = of_side (side_by (ga == 1) (gb == 1) (serial_of x) (serial_of y)) x y

mapped : (cm : List ℕ) (o : Option Side) → option_map (λ (side : Side). value_at side cm) o ≡ of_side o (value_at First cm) (value_at Second cm)
mapped cm None = refl
mapped cm (Some First) = refl
mapped cm (Some Second) = refl

module _ (a b : List ℕ) (la : length a ≡ 256) (lb : length b ≡ 256) where
  first_gate : get_or (a ++ b) 0 0 ≡ get_or a 0 0
  first_gate = get_or_append_left a b 0 0 (omega (arith, la))

  second_gate : get_or (a ++ b) 256 0 ≡ get_or b 0 0
  second_gate =
      let place : 256 ≡ length a + 0 = omega (arith, la) in
      ap (λ (n : ℕ). get_or (a ++ b) n 0) place ∙ get_or-append-add a b 0 0

  first_value : value_at First (a ++ b) ≡ drop 1 a
  first_value = ap (λ (l : List ℕ). take 255 l) (drop-append-le 1 a b (omega (arith, la))) ∙ take_at (drop 1 a) b 255 (omega (arith, la, length-drop 1 a))

  second_value : value_at Second (a ++ b) ≡ drop 1 b
  second_value =
      ap (λ (l : List ℕ). take 255 l) (sym (drop-drop 1 256 (a ++ b)) ∙ ap (λ (l : List ℕ). drop 1 l) (drop_at a b 256 la))
      ∙ take_all 255 (drop 1 b) (omega (arith, lb, length-drop 1 b))

  pub chosen_pair : chosen (a ++ b) ≡ of_gates (get_or a 0 0) (get_or b 0 0) (drop 1 a) (drop 1 b)
  chosen_pair =
      let size : length (a ++ b) ≡ 512 = omega (arith, la, lb, length-append a b) in
      ap (λ (t : Bool). if t then option_map (λ (side : Side). value_at side (a ++ b)) (side_in (a ++ b)) else None) (eq-eqb (length (a ++ b)) 512 size)
      ∙ mapped (a ++ b) (side_in (a ++ b))
      ∙ ap (λ (g : ℕ). of_gates g (get_or (a ++ b) 256 0) (value_at First (a ++ b)) (value_at Second (a ++ b))) first_gate
      ∙ ap (λ (g : ℕ). of_gates (get_or a 0 0) g (value_at First (a ++ b)) (value_at Second (a ++ b))) second_gate
      ∙ ap (λ (l : List ℕ). of_gates (get_or a 0 0) (get_or b 0 0) l (value_at Second (a ++ b))) first_value
      ∙ ap (λ (l : List ℕ). of_gates (get_or a 0 0) (get_or b 0 0) (drop 1 a) l) second_value

abbrev one_of : Bool → List ℕ → Option (List ℕ)
one_of true x = Some x
one_of false x = None

first_only : (p q : Bool) (n m : ℕ) (x y : List ℕ) → q ≡ false → of_side (side_by p q n m) x y ≡ one_of p x
first_only true true n m x y e = absurd (cc e)
first_only true false n m x y e = refl
first_only false true n m x y e = absurd (cc e)
first_only false false n m x y e = refl

second_only : (p q : Bool) (n m : ℕ) (x y : List ℕ) → p ≡ false → of_side (side_by p q n m) x y ≡ one_of q y
second_only true q n m x y e = absurd (cc e)
second_only false true n m x y e = refl
second_only false false n m x y e = refl

module _ (a b c : List ℕ) (la : length a ≡ 256) (lb : length b ≡ 256) (lc : length c ≡ 256) (ob : ¬ (IsOpen b)) (oc : ¬ (IsOpen c)) where
  -- what stands in a closed second slot does not count
  pub closed_second : chosen (a ++ b) ≡ chosen (a ++ c)
  closed_second =
      chosen_pair a b la lb ∙ first_only (get_or a 0 0 == 1) (get_or b 0 0 == 1) _ _ (drop 1 a) (drop 1 b) (gate_closed (get_or b 0 0) ob)
      ∙ sym (chosen_pair a c la lc ∙ first_only (get_or a 0 0 == 1) (get_or c 0 0 == 1) _ _ (drop 1 a) (drop 1 c) (gate_closed (get_or c 0 0) oc))

  -- what stands in a closed first slot does not count
  pub closed_first : chosen (b ++ a) ≡ chosen (c ++ a)
  closed_first =
      chosen_pair b a lb la ∙ second_only (get_or b 0 0 == 1) (get_or a 0 0 == 1) _ _ (drop 1 b) (drop 1 a) (gate_closed (get_or b 0 0) ob)
      ∙ sym (chosen_pair c a lc la ∙ second_only (get_or c 0 0 == 1) (get_or a 0 0 == 1) _ _ (drop 1 c) (drop 1 a) (gate_closed (get_or c 0 0) oc))

module _ (a value : List ℕ) (gate : ℕ) (la : length a ≡ 256) (lv : length value ≡ 255) where
  sized : (g : ℕ) → length (g ∷ value) ≡ 256
  sized g = omega (arith, lv)

  zero_shut : ¬ (IsOpen (0 ∷ value))
  zero_shut = zero_one 0 refl

  -- a second slot with any gate counts as with gate 0 or with gate 1
  pub gate_second : (chosen (a ++ gate ∷ value) ≡ chosen (a ++ 0 ∷ value)) ⊎ (chosen (a ++ gate ∷ value) ≡ chosen (a ++ 1 ∷ value))
  gate_second = ⊎_elim
      (λ (one : gate ≡ 1). inr (ap (λ (g : ℕ). chosen (a ++ g ∷ value)) one))
      (λ (shut : gate ≢ 1). inl (closed_second a (gate ∷ value) (0 ∷ value) la (sized gate) (sized 0) shut zero_shut))
      (cases_eq gate 1)

  -- a first slot with any gate counts as with gate 0 or with gate 1
  pub gate_first : (chosen ((gate ∷ value) ++ a) ≡ chosen ((0 ∷ value) ++ a)) ⊎ (chosen ((gate ∷ value) ++ a) ≡ chosen ((1 ∷ value) ++ a))
  gate_first = ⊎_elim
      (λ (one : gate ≡ 1). inr (ap (λ (g : ℕ). chosen ((g ∷ value) ++ a)) one))
      (λ (shut : gate ≢ 1). inl (closed_first a (gate ∷ value) (0 ∷ value) la (sized gate) (sized 0) shut zero_shut))
      (cases_eq gate 1)
