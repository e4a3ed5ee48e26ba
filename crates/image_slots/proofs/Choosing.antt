-- The value of a header, told by where its slots lie.
use Rattle.std.proofs.Common.{ℕ, ◌<◌, ◌≡◌, ◌≢◌, ◌⊎◌, ◌==◌, ⊎_elim, inl, inr, Bool, true, false, nat_lt, if◌then◌else◌, List, drop, length, get_or, Option, Some, None, option_map, refl, sym, ◌∙◌, ap, subst, arith}
use Rattle.std.proofs.lemmas.Bool.{eq-eqb, eqb-true}
use Rattle.std.proofs.lemmas.List.{get_or-take, get_or-drop, drop-take, drop-drop, take_all, length-drop}
use Rattle.std.proofs.lemmas.Option.{same_Some}
use Rattle.byte_disk.specs.Files.{Files, bytes_at}
use Rattle.image_slots.specs.Slots.{Counts, HasValue, IsOpen, Stores, first_of, second_of, serial_of, value_in}
use Rattle.image_slots.specs.Sides.{CountsIn, chosen, gate_in, side_by, side_in, value_at}
use Rattle.image_slots.specs.declared.sides.Side.{Side}
use Rattle.image_slots.specs.declared.sides.Side.TheVariants.{First, Second}

first_gate : (cm : List ℕ) → get_or (first_of cm) 0 0 ≡ get_or cm 0 0
first_gate cm = get_or-take 256 cm 0 0 (omega arith)

second_gate : (cm : List ℕ) → get_or (second_of cm) 0 0 ≡ get_or cm 256 0
second_gate cm = get_or-drop 256 cm 0 0

first_value_in : (cm : List ℕ) → value_in (first_of cm) ≡ bytes_at 1 255 cm
first_value_in cm = drop-take 1 255 cm

second_value_in : (cm : List ℕ) → length cm ≡ 512 → value_in (second_of cm) ≡ bytes_at 257 255 cm
second_value_in cm size = drop-drop 1 256 cm ∙ sym (take_all 255 (drop 257 cm) (omega (arith, size, length-drop 257 cm)))

-- a slot beside another counts, by their bytes
to_counts : (a b : List ℕ) (ga gb : ℕ) (va vb v : List ℕ) → get_or a 0 0 ≡ ga → get_or b 0 0 ≡ gb → value_in a ≡ va → value_in b ≡ vb
    → ga ≡ 1 → va ≡ v → (gb ≢ 1) ⊎ (serial_of vb < serial_of v) → Counts a b × (v ≡ value_in a)
to_counts a b ga gb va vb v ea eb ia ib one is lesser = (
  (
    ea ∙ one,
    ⊎_elim
        (λ (closed : gb ≢ 1). inl (λ (bad : IsOpen b). closed (sym eb ∙ bad)))
        (λ (less : serial_of vb < serial_of v). inr (subst (λ (x : List ℕ). serial_of x < serial_of (value_in a)) (sym ib)
        (subst (λ (x : List ℕ). serial_of vb < serial_of x) (sym (ia ∙ is)) less)))
        lesser,
  ),
  sym (ia ∙ is),
)

from_counts : (a b : List ℕ) (gb : ℕ) (vb v : List ℕ) → get_or b 0 0 ≡ gb → value_in b ≡ vb
    → Counts a b → v ≡ value_in a → (gb ≢ 1) ⊎ (serial_of vb < serial_of v)
from_counts a b gb vb v eb ib counts is = ⊎_elim
    (λ (closed : ¬ (IsOpen b)). inl (λ (bad : gb ≡ 1). closed (eb ∙ bad)))
    (λ (less : serial_of (value_in b) < serial_of (value_in a)). inr (subst (λ (x : List ℕ). serial_of x < serial_of v) ib
    (subst (λ (x : List ℕ). serial_of (value_in b) < serial_of x) (sym is) less)))
    counts.1

-- a value that counts on one side is the header's
pub has_value : (side : Side) (cm v : List ℕ) → CountsIn side cm v → HasValue cm v
has_value First cm v c = record {
  size = c.size;
  counts = inl (to_counts (first_of cm) (second_of cm) _ _ _ _ v (first_gate cm) (second_gate cm) (first_value_in cm) (second_value_in cm c.size) c.gate c.body c.lesser);
}
has_value Second cm v c = record {
  size = c.size;
  counts = inr (to_counts (second_of cm) (first_of cm) _ _ _ _ v (second_gate cm) (first_gate cm) (second_value_in cm c.size) (first_value_in cm) c.gate c.body c.lesser);
}

counts_in : (cm v : List ℕ) → HasValue cm v → (side : Side) × CountsIn side cm v
counts_in cm v h = ⊎_elim
    (λ (one : Counts (first_of cm) (second_of cm) × (v ≡ value_in (first_of cm))). (
      First,
      record {
        size = h.size;
        gate = sym (first_gate cm) ∙ one.0.0;
        body = sym (first_value_in cm) ∙ sym one.1;
        lesser = from_counts (first_of cm) (second_of cm) _ _ v (second_gate cm) (second_value_in cm h.size) one.0 one.1;
      },
    ))
    (λ (two : Counts (second_of cm) (first_of cm) × (v ≡ value_in (second_of cm))). (
      Second,
      record {
        size = h.size;
        gate = sym (second_gate cm) ∙ two.0.0;
        body = sym (second_value_in cm h.size) ∙ sym two.1;
        lesser = from_counts (second_of cm) (first_of cm) _ _ v (first_gate cm) (first_value_in cm) two.0 two.1;
      },
    ))
    h.counts

-- ---- the side that counts, computed
abbrev IsChoice : Side → Bool → Bool → ℕ → ℕ → Type 0
IsChoice First p q a b = (p ≡ true) × ((q ≡ false) ⊎ (b < a))
IsChoice Second p q a b = (q ≡ true) × ((p ≡ false) ⊎ (a < b))

lt_true : (a b : ℕ) → nat_lt a b ≡ true → a < b
lt_true a b h = grind arith

true_lt : (a b : ℕ) → a < b → nat_lt a b ≡ true
true_lt a b h = grind arith

lt_false : (a b : ℕ) → b < a → nat_lt a b ≡ false
lt_false a b h = grind arith

-- of two open ones
of_two : (s t : Bool) (a b : ℕ) (side : Side) → nat_lt a b ≡ s → nat_lt b a ≡ t
    → (if s then Some Second else if t then Some First else None) ≡ Some side → IsChoice side true true a b
of_two true t a b First es et e = absurd (cc e)
of_two true t a b Second es et e = (refl, inr (lt_true a b es))
of_two false true a b First es et e = (refl, inr (lt_true b a et))
of_two false true a b Second es et e = absurd (cc e)
of_two false false a b side es et e = absurd (cc e)

found : (p q : Bool) (a b : ℕ) (side : Side) → side_by p q a b ≡ Some side → IsChoice side p q a b
found true true a b side e = of_two (nat_lt a b) (nat_lt b a) a b side refl refl e
found true false a b First e = (refl, inl refl)
found true false a b Second e = absurd (cc e)
found false true a b First e = absurd (cc e)
found false true a b Second e = (refl, inl refl)
found false false a b side e = absurd (cc e)

one_of_two : (s t : Bool) (a b : ℕ) (side : Side) → nat_lt a b ≡ s → nat_lt b a ≡ t → IsChoice side true true a b
    → (if s then Some Second else if t then Some First else None) ≡ Some side
one_of_two true t a b First es et (one, inl bad) = absurd (cc bad)
one_of_two true t a b First es et (one, inr less) = absurd (omega (arith, less, lt_true a b es))
one_of_two true t a b Second es et h = refl
one_of_two false true a b First es et h = refl
one_of_two false true a b Second es et (two, inl bad) = absurd (cc bad)
one_of_two false true a b Second es et (two, inr less) = absurd (omega (arith, less, lt_true b a et))
one_of_two false false a b First es et (one, inl bad) = absurd (cc bad)
one_of_two false false a b First es et (one, inr less) = absurd (cc (sym (true_lt b a less) ∙ et))
one_of_two false false a b Second es et (two, inl bad) = absurd (cc bad)
one_of_two false false a b Second es et (two, inr less) = absurd (cc (sym (true_lt a b less) ∙ es))

only : (p q : Bool) (a b : ℕ) (side : Side) → IsChoice side p q a b → side_by p q a b ≡ Some side
only true true a b side h = one_of_two (nat_lt a b) (nat_lt b a) a b side refl refl h
only true false a b First h = refl
only true false a b Second (bad, h) = absurd (cc bad)
only false true a b First (bad, h) = absurd (cc bad)
only false true a b Second h = refl
only false false a b First (bad, h) = absurd (cc bad)
only false false a b Second (bad, h) = absurd (cc bad)

closed_gate : (g : ℕ) → (g == 1) ≡ false → g ≢ 1
closed_gate g e = λ (one : g ≡ 1). cc (sym (eq-eqb g 1 one) ∙ e)

-- a gate that is not 1 fails the test of being open
pub gate_closed : (g : ℕ) → g ≢ 1 → (g == 1) ≡ false
gate_closed g other = by (g == 1) refl
  where
    by : (t : Bool) → (g == 1) ≡ t → t ≡ false
    by true e = absurd (other (eqb-true g 1 e))
    by false e = refl

to_lesser : (g m n : ℕ) → ((g == 1) ≡ false) ⊎ (m < n) → (g ≢ 1) ⊎ (m < n)
to_lesser g m n (inl closed) = inl (closed_gate g closed)
to_lesser g m n (inr less) = inr less

from_lesser : (g m n : ℕ) → (g ≢ 1) ⊎ (m < n) → ((g == 1) ≡ false) ⊎ (m < n)
from_lesser g m n (inl closed) = inl (gate_closed g closed)
from_lesser g m n (inr less) = inr less

-- what the side that is computed says of the header, and back
pub side_counts : (side : Side) (cm : List ℕ) → length cm ≡ 512 → side_in cm ≡ Some side → CountsIn side cm (value_at side cm)
side_counts First cm size e =
    let h = found (gate_in First cm == 1) (gate_in Second cm == 1) (serial_of (value_at First cm)) (serial_of (value_at Second cm)) First e in
    record { size = size; gate = eqb-true (gate_in First cm) 1 h.0; body = refl; lesser = to_lesser (gate_in Second cm) _ _ h.1 }
side_counts Second cm size e =
    let h = found (gate_in First cm == 1) (gate_in Second cm == 1) (serial_of (value_at First cm)) (serial_of (value_at Second cm)) Second e in
    record { size = size; gate = eqb-true (gate_in Second cm) 1 h.0; body = refl; lesser = to_lesser (gate_in First cm) _ _ h.1 }

counts_side : (side : Side) (cm v : List ℕ) → CountsIn side cm v → side_in cm ≡ Some side
counts_side First cm v c = only (gate_in First cm == 1) (gate_in Second cm == 1) (serial_of (value_at First cm)) (serial_of (value_at Second cm)) First
    (eq-eqb (gate_in First cm) 1 c.gate, from_lesser (gate_in Second cm) _ _ (subst (λ (x : List ℕ). (gate_in Second cm ≢ 1) ⊎ (serial_of (value_at Second cm) < serial_of x)) (sym c.body) c.lesser))
counts_side Second cm v c = only (gate_in First cm == 1) (gate_in Second cm == 1) (serial_of (value_at First cm)) (serial_of (value_at Second cm)) Second
    (eq-eqb (gate_in Second cm) 1 c.gate, from_lesser (gate_in First cm) _ _ (subst (λ (x : List ℕ). (gate_in First cm ≢ 1) ⊎ (serial_of (value_at First cm) < serial_of x)) (sym c.body) c.lesser))

-- ---- the value that is chosen
pub value_chosen : (cm v : List ℕ) → HasValue cm v → chosen cm ≡ Some v
value_chosen cm v h =
    let c = counts_in cm v h in
    ap (λ (t : Bool). if t then option_map (λ (side : Side). value_at side cm) (side_in cm) else None) (eq-eqb (length cm) 512 h.size)
    ∙ ap (λ (o : Option Side). option_map (λ (side : Side). value_at side cm) o) (counts_side c.0 cm v c.1)
    ∙ ap (λ (x : List ℕ). Some x) c.1.body

-- a value that is chosen is the header's
pub chosen_value : (cm v : List ℕ) → chosen cm ≡ Some v → HasValue cm v
chosen_value cm v e = sized (length cm == 512) refl e
  where
    sided : (o : Option Side) → length cm ≡ 512 → side_in cm ≡ o → option_map (λ (side : Side). value_at side cm) o ≡ Some v → HasValue cm v
    sided None size is h = absurd (cc h)
    sided (Some side) size is h = subst (λ (x : List ℕ). HasValue cm x) (same_Some (value_at side cm) v h)
        (has_value side cm (value_at side cm) (side_counts side cm size is))

    sized : (t : Bool) → (length cm == 512) ≡ t → (if t then option_map (λ (side : Side). value_at side cm) (side_in cm) else None) ≡ Some v → HasValue cm v
    sized true size h = sided (side_in cm) (eqb-true (length cm) 512 size) refl h
    sized false size h = absurd (cc h)

-- a header has one value at most
pub one_value : (cm v w : List ℕ) → HasValue cm v → HasValue cm w → v ≡ w
one_value cm v w h k = same_Some v w (sym (value_chosen cm v h) ∙ value_chosen cm w k)

-- a disk stores one value at most
pub one_stored : (d : Files) (v w : List ℕ) → Stores d v → Stores d w → v ≡ w
one_stored d v w (inl (blank, a)) (inl (again, b)) = a ∙ sym b
one_stored d v w (inl (blank, a)) (inr h) = absurd (omega (arith, blank.cm, h.size))
one_stored d v w (inr h) (inl (blank, b)) = absurd (omega (arith, blank.cm, h.size))
one_stored d v w (inr h) (inr k) = one_value d.cm v w h k

-- where no side counts there is no value
pub no_value : (cm v : List ℕ) → side_in cm ≡ None → ¬ (HasValue cm v)
no_value cm v empty h = let c = counts_in cm v h in cc (sym empty ∙ counts_side c.0 cm v c.1)
