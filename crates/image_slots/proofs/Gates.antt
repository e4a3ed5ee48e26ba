-- What a set writes to a header, a piece at a time.
use Rattle.std.proofs.Common.{ℕ, ◌+◌, ◌≤◌, ◌<◌, ◌≡◌, ◌≢◌, ◌⊎◌, ◌==◌, ⊎_elim, inl, inr, true, false, List, [], ◌∷◌, length, get_or, sym, ◌∙◌, subst, arith}
use Rattle.std.proofs.lemmas.Bool.{cases_eq, eq-eqb, eqb-true}
use Rattle.byte_disk.specs.Files.{Files, IsOutside, bytes_at, written}
use Rattle.image_slots.specs.Slots.{HasValue, serial_of}
use Rattle.image_slots.specs.Sides.{CountsAt, CountsIn, IsRead, gate_in, gate_of, other_of}
use Rattle.image_slots.specs.Calls.{IsClosedBeside, IsPrepared}
use Rattle.image_slots.specs.Pieces.{HasOne, IsTouched}
use Rattle.image_slots.specs.declared.sides.Side.{Side}
use Rattle.image_slots.specs.declared.sides.Side.TheVariants.{First, Second}
use Rattle.image_slots.proofs.Bytes.{touched_run, touched_size, written_byte, written_run, written_touched}
use Rattle.image_slots.proofs.Choosing.{has_value}

low : (side : Side) → gate_of side ≤ 256
low First = omega arith
low Second = omega arith

apart : (side : Side) → (gate_of side + 256 ≤ gate_of (other_of side)) ⊎ (gate_of (other_of side) + 256 ≤ gate_of side)
apart First = inl (omega arith)
apart Second = inr (omega arith)

turned : (side : Side) (cm v : List ℕ) → CountsAt (gate_of (other_of side)) (gate_of side) cm v → CountsIn (other_of side) cm v
turned First cm v c = c
turned Second cm v c = c

beside_turned : (side : Side) (cm : List ℕ) → gate_in side cm ≡ 1 → true ≡ (gate_in (other_of (other_of side)) cm == 1)
beside_turned First cm e = sym (eq-eqb (gate_in First cm) 1 e)
beside_turned Second cm e = sym (eq-eqb (gate_in Second cm) 1 e)

opened : (g : ℕ) → true ≡ (g == 1) → g ≡ 1
opened g e = eqb-true g 1 (sym e)

-- a gate that fails the test of being open is not 1
pub closed : (g : ℕ) → false ≡ (g == 1) → g ≢ 1
closed g e = λ (one : g ≡ 1). let bad : true ≡ false = sym (eq-eqb g 1 one) ∙ sym e in cc bad

module _ (side : Side) (old : List ℕ) where
  abbrev own : ℕ
  own = gate_of side

  abbrev there : ℕ
  there = gate_of (other_of side)

  -- what is written within the slot beside it leaves a slot as it was
  kept : (x y : List ℕ) {at n : ℕ} → CountsIn side x old → IsTouched at n x y → there ≤ at → at + n ≤ there + 256
      → (gate_in (other_of side) y ≢ 1) ⊎ (serial_of (bytes_at (there + 1) 255 y) < serial_of old) → CountsIn side y old
  kept x y {at} {n} c t from upto lesser = record {
    size = touched_size t 512 c.size (omega (arith, upto, low (other_of side)));
    gate = t.outside own (omega (arith, c.size, low side)) (out (apart side)) ∙ c.gate;
    body = touched_run t (own + 1) 255 (omega (arith, c.size, low side)) (run (apart side)) ∙ c.body;
    lesser = lesser;
  }
    where
      out : (own + 256 ≤ there) ⊎ (there + 256 ≤ own) → IsOutside at n own
      out (inl h) = inl (omega (arith, h, from))
      out (inr h) = inr (omega (arith, h, upto))

      run : (own + 256 ≤ there) ⊎ (there + 256 ≤ own) → (own + 1 + 255 ≤ at) ⊎ (at + n ≤ own + 1)
      run (inl h) = inl (omega (arith, h, from))
      run (inr h) = inr (omega (arith, h, upto))

  -- ---- the gate is closed
  close_counts : (x y : List ℕ) → CountsIn side x old → gate_in (other_of side) x ≡ 1 → IsTouched there 1 x y → CountsIn side y old
  close_counts x y c one t = kept x y c t (omega arith) (omega arith) (⊎_elim
      (λ (shut : gate_in (other_of side) x ≢ 1). absurd (shut one))
      (λ (less : serial_of (bytes_at (there + 1) 255 x) < serial_of old).
      inr (subst (λ (l : List ℕ). serial_of l < serial_of old)
      (sym (touched_run t (there + 1) 255 (omega (arith, c.size, low (other_of side))) (inr (omega arith)))) less))
      c.lesser)

  -- while the gate beside is closed, each image has the old value or the new one
  pub close_each : (new : List ℕ) (x y : Files) → IsRead side true old x.cm → IsTouched there 1 x.cm y.cm → HasOne old new y
  close_each new x y read t = inl (has_value side y.cm old (close_counts x.cm y.cm read.0 (opened (gate_in (other_of side) x.cm) read.1) t))

  -- a gate set to 0 beside the slot that counts is closed
  pub close_ends : (x : List ℕ) → IsRead side true old x → IsClosedBeside side old (written there (0 ∷ []) x)
  close_ends x read =
      let within : there ≤ length x = omega (arith, read.0.size, low (other_of side)) in (
        close_counts x (written there (0 ∷ []) x) read.0 (opened (gate_in (other_of side) x) read.1) (written_touched there (0 ∷ []) x within),
        λ (one : gate_in (other_of side) (written there (0 ∷ []) x) ≡ 1).
            let e : get_or (written there (0 ∷ []) x) there 0 ≡ 1 = one in omega (arith, written_byte there 0 x within, e),
      )

  -- ---- the value is written behind it
  shut_gate : (x y : List ℕ) (n : ℕ) → CountsIn side x old → gate_in (other_of side) x ≢ 1 → IsTouched (there + 1) n x y
      → gate_in (other_of side) y ≢ 1
  shut_gate x y n c shut t = λ (one : gate_in (other_of side) y ≡ 1).
      shut (sym (t.outside there (omega (arith, c.size, low (other_of side))) (inl (omega arith))) ∙ one)

  -- while a value is written behind a closed gate, each image has the old value or the new one
  pub value_each : (new : List ℕ) (n : ℕ) (x y : Files) → n ≡ 255 → IsClosedBeside side old x.cm → IsTouched (there + 1) n x.cm y.cm → HasOne old new y
  value_each new n x y long h t = inl (has_value side y.cm old
      (kept x.cm y.cm h.0 t (omega arith) (omega (arith, long)) (inl (shut_gate x.cm y.cm n h.0 h.1 t))))

  -- a new value behind the closed gate is prepared
  pub value_ends : (new x : List ℕ) → length new ≡ 255 → IsClosedBeside side old x → IsPrepared side old new (written (there + 1) new x)
  value_ends new x long h =
      let within : there + 1 ≤ length x = omega (arith, h.0.size, low (other_of side)) in
      let t = written_touched (there + 1) new x within in
      let shut = shut_gate x (written (there + 1) new x) (length new) h.0 h.1 t in (
        kept x (written (there + 1) new x) h.0 t (omega arith) (omega (arith, long)) (inl shut),
        shut,
        subst (λ (k : ℕ). bytes_at (there + 1) k (written (there + 1) new x) ≡ new) long (written_run (there + 1) new x within),
      )

  -- ---- the gate is opened
  module _ (new x y : List ℕ) (later : serial_of old < serial_of new) (h : IsPrepared side old new x) (t : IsTouched there 1 x y) where
    new_counts : gate_in (other_of side) y ≡ 1 → CountsAt there own y new
    new_counts one = record {
      size = touched_size t 512 h.0.size (omega (arith, low (other_of side)));
      gate = one;
      body = touched_run t (there + 1) 255 (omega (arith, h.0.size, low (other_of side))) (inr (omega arith)) ∙ h.2;
      lesser = inr (subst (λ (l : List ℕ). serial_of l < serial_of new)
          (sym (touched_run t (own + 1) 255 (omega (arith, h.0.size, low side)) (run (apart side)) ∙ h.0.body)) later);
    }
      where
        run : (own + 256 ≤ there) ⊎ (there + 256 ≤ own) → (own + 1 + 255 ≤ there) ⊎ (there + 1 ≤ own + 1)
        run (inl h) = inl (omega (arith, h))
        run (inr h) = inr (omega (arith, h))

    own_gate : gate_in side y ≡ 1
    own_gate = t.outside own (omega (arith, h.0.size, low side)) (out (apart side)) ∙ h.0.gate
      where
        out : (own + 256 ≤ there) ⊎ (there + 256 ≤ own) → IsOutside there 1 own
        out (inl h) = inl (omega (arith, h))
        out (inr h) = inr (omega (arith, h))

    one_counts : HasValue y old ⊎ HasValue y new
    one_counts = ⊎_elim
        (λ (one : gate_in (other_of side) y ≡ 1). inr (has_value (other_of side) y new (turned side y new (new_counts one))))
        (λ (shut : gate_in (other_of side) y ≢ 1). inl (has_value side y old (kept x y h.0 t (omega arith) (omega arith) (inl shut))))
        (cases_eq (gate_in (other_of side) y) 1)

  -- while the gate of the new value is opened, each image has the old value or the new one
  pub gate_each : (new : List ℕ) (x y : Files) → serial_of old < serial_of new → IsPrepared side old new x.cm → IsTouched there 1 x.cm y.cm → HasOne old new y
  gate_each new x y later h t = one_counts new x.cm y.cm later h t

  -- with its gate open, the new value counts
  pub gate_ends : (new x : List ℕ) → serial_of old < serial_of new → IsPrepared side old new x → IsRead (other_of side) true new (written there (1 ∷ []) x)
  gate_ends new x later h =
      let within : there ≤ length x = omega (arith, h.0.size, low (other_of side)) in
      let y : List ℕ = written there (1 ∷ []) x in
      let t = written_touched there (1 ∷ []) x within in
      (turned side y new (new_counts new x y later h t (written_byte there 1 x within)), beside_turned side y (own_gate new x y later h t))
