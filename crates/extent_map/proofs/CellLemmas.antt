-- What cuts make of the bytes of a file.
use Rattle.std.proofs.Common.{◌≡◌, ◌⊎◌, ℕ, ◌+◌, ◌-◌, ◌*◌, ◌/◌, ◌%◌, ◌<◌, ◌≤◌, Bool, true, false, cond, eqb, List, [], ◌∷◌, ◌++◌, Some, sym, ap, ◌∙◌, refl, arith, ⊎_elim, inl, inr}
use Rattle.std.proofs.lemmas.Bool.{cases_lt}
use Rattle.std.proofs.lemmas.Bool.Decides.{nat_tests}
use Rattle.std.proofs.lemmas.Nat.{div-mul-add, mod-mul-add, div-add-mod', mod_below}
use Rattle.tape_types.specs.declared.cartridges.Extent.{Extent}
use Rattle.plain_tree.specs.Cells.{Cell}
use Rattle.extent_map.specs.Laid.{AreLaid, unless_empty, front_of, rest_of, before, past, cut, left_from}
use Rattle.extent_map.specs.Cells.{Tape, cell_of, covers, cell_at}
use Rattle.extent_map.proofs.LaidLemmas.{laid_le}

-- ---- division

-- in which block a byte lies, counted on from the block of an earlier byte
pub div_on : (a m s : ℕ) → 1 ≤ s → a / s + (a % s + m) / s ≡ (a + m) / s
div_on a m s some =
    let whole : a / s * s + a % s ≡ a = div-add-mod' a s in
    let next : (a % s + m) / s * s + (a % s + m) % s ≡ a % s + m = div-add-mod' (a % s + m) s in
    let both : a + m ≡ (a / s + (a % s + m) / s) * s + (a % s + m) % s = omega (arith, whole, next) in
    sym (ap (λ x. x / s) both ∙ div-mul-add (a / s + (a % s + m) / s) s ((a % s + m) % s) (mod_below (a % s + m) s some))

mod_on : (a m s : ℕ) → 1 ≤ s → (a % s + m) % s ≡ (a + m) % s
mod_on a m s some =
    let whole : a / s * s + a % s ≡ a = div-add-mod' a s in
    let next : (a % s + m) / s * s + (a % s + m) % s ≡ a % s + m = div-add-mod' (a % s + m) s in
    let both : a + m ≡ (a / s + (a % s + m) / s) * s + (a % s + m) % s = omega (arith, whole, next) in
    sym (ap (λ x. x % s) both ∙ mod-mul-add (a / s + (a % s + m) / s) s ((a % s + m) % s) (mod_below (a % s + m) s some))

-- ---- one extent

has : (e : Extent) (i : ℕ) → e.offset ≤ i → i < e.offset + e.count → covers e i ≡ true
has e i from to = grind (arith, nat_tests)

has_not : (e : Extent) (i : ℕ) → (i < e.offset) ⊎ (e.offset + e.count ≤ i) → covers e i ≡ false
has_not e i off = ⊎_elim (λ below. let h : i < e.offset = below in grind (arith, nat_tests)) (λ above. let h : e.offset + e.count ≤ i = above in grind (arith, nat_tests)) off

module _ (tape : Tape) (size : ℕ) where
  -- the byte at an offset, or another where no extent has it
  abbrev pub cell_or : List Extent → ℕ → Cell → Cell
  cell_or [] i d = d
  cell_or (e ∷ es) i d = cond (covers e i) (cell_of tape size e (i - e.offset)) (cell_or es i d)

  -- the byte of a file is that of an extent that has it, else zero
  pub cell_at_or : (es : List Extent) (i : ℕ) → cell_at tape size es i ≡ cell_or es i (Some 0)
  cell_at_or [] i = refl
  cell_at_or (e ∷ es) i = ap (λ d. cond (covers e i) (cell_of tape size e (i - e.offset)) d) (cell_at_or es i)

  -- the byte in two lists of extents is that of the first, else that of the second
  pub cell_or_append : (xs ys : List Extent) (i : ℕ) (d : Cell) → cell_or (xs ++ ys) i d ≡ cell_or xs i (cell_or ys i d)
  cell_or_append [] ys i d = refl
  cell_or_append (e ∷ xs) ys i d = ap (λ d. cond (covers e i) (cell_of tape size e (i - e.offset)) d) (cell_or_append xs ys i d)

  -- a byte within the first extent is that extent's
  pub here : (e : Extent) (es : List Extent) (i : ℕ) (d : Cell) → e.offset ≤ i → i < e.offset + e.count → cell_or (e ∷ es) i d ≡ cell_of tape size e (i - e.offset)
  here e es i d from to = ap (λ b. cond b (cell_of tape size e (i - e.offset)) (cell_or es i d)) (has e i from to)

  -- a byte outside of the first extent is one of the others'
  pub elsewhere : (e : Extent) (es : List Extent) (i : ℕ) (d : Cell) → (i < e.offset) ⊎ (e.offset + e.count ≤ i) → cell_or (e ∷ es) i d ≡ cell_or es i d
  elsewhere e es i d off = ap (λ b. cond b (cell_of tape size e (i - e.offset)) (cell_or es i d)) (has_not e i off)

  -- an extent of no bytes has none
  or_empty : (e : Extent) (i : ℕ) (d : Cell) → cell_or (unless_empty e) i d ≡ cell_or (e ∷ []) i d
  or_empty e i d = by (eqb e.count 0) refl
    where
      by : (b : Bool) → eqb e.count 0 ≡ b → cell_or (cond b [] (e ∷ [])) i d ≡ cell_or (e ∷ []) i d
      by true is = let none : e.count ≡ 0 = grind (arith, nat_tests) in sym (elsewhere e [] i d (⊎_elim (λ h. inl h) (λ h. inr (omega arith)) (cases_lt i e.offset)))
      by false is = refl

  -- ---- cuts

  front_covers : (n : ℕ) (e : Extent) (i : ℕ) → i < n → covers (front_of (n - e.offset) e) i ≡ covers e i
  front_covers n e i below = ⊎_elim
      (λ low. has_not (front_of (n - e.offset) e) i (inl low) ∙ sym (has_not e i (inl low)))
      (λ from. ⊎_elim
      (λ to. has (front_of (n - e.offset) e) i from (omega arith) ∙ sym (has e i from to))
      (λ high. has_not (front_of (n - e.offset) e) i (inr (omega arith)) ∙ sym (has_not e i (inr high)))
      (cases_lt i (e.offset + e.count)))
      (cases_lt i e.offset)

  -- a cut leaves what lies before it
  pub cut_before : (n : ℕ) (es : List Extent) (i : ℕ) (d : Cell) → i < n → cell_or (cut n es) i d ≡ cell_or es i d
  cut_before n [] i d below = refl
  cut_before n (e ∷ es) i d below =
      cell_or_append (before n e) (cut n es) i d
      ∙ or_empty (front_of (n - e.offset) e) i (cell_or (cut n es) i d)
      ∙ ap (λ b. cond b (cell_of tape size e (i - e.offset)) (cell_or (cut n es) i d)) (front_covers n e i below)
      ∙ ap (λ x. cond (covers e i) (cell_of tape size e (i - e.offset)) x) (cut_before n es i d below)

  -- and nothing past it
  pub cut_after : (n : ℕ) (es : List Extent) (i : ℕ) (d : Cell) → n ≤ i → cell_or (cut n es) i d ≡ d
  cut_after n [] i d above = refl
  cut_after n (e ∷ es) i d above =
      cell_or_append (before n e) (cut n es) i d
      ∙ or_empty (front_of (n - e.offset) e) i (cell_or (cut n es) i d)
      ∙ elsewhere (front_of (n - e.offset) e) [] i (cell_or (cut n es) i d) (⊎_elim (λ low. inl low) (λ from. inr (omega arith)) (cases_lt i e.offset))
      ∙ cut_after n es i d above

  -- an extent without its first bytes has the others
  cell_rest : (e : Extent) (n j k : ℕ) → 1 ≤ size → k ≡ n + j → cell_of tape size (rest_of size n e) j ≡ cell_of tape size e k
  cell_rest e n j k some is =
      let sum : e.byte + n + j ≡ e.byte + k = omega arith in
      let quotient : e.block + (e.byte + n) / size + ((e.byte + n) % size + j) / size ≡ e.block + (e.byte + k) / size = omega (arith, div_on (e.byte + n) j size some, ap (λ x. x / size) sum) in
      ap (λ b. tape e.part b (((e.byte + n) % size + j) % size)) quotient
      ∙ ap (tape e.part (e.block + (e.byte + k) / size)) (mod_on (e.byte + n) j size some ∙ ap (λ x. x % size) sum)

  rest_cell : (n : ℕ) (e : Extent) (i : ℕ) (d : Cell) → 1 ≤ size → n ≤ i → cell_or (rest_of size (n - e.offset) e ∷ []) i d ≡ cell_or (e ∷ []) i d
  rest_cell n e i d some above = ⊎_elim
      (λ low. elsewhere (rest_of size (n - e.offset) e) [] i d (inl (omega arith)) ∙ sym (elsewhere e [] i d (inl low)))
      (λ from. ⊎_elim
      (λ to. here (rest_of size (n - e.offset) e) [] i d (omega arith) (omega arith)
      ∙ cell_rest e (n - e.offset) (i - (e.offset + (n - e.offset))) (i - e.offset) some (omega arith) ∙ sym (here e [] i d from to))
      (λ high. elsewhere (rest_of size (n - e.offset) e) [] i d (inr (omega arith)) ∙ sym (elsewhere e [] i d (inr high)))
      (cases_lt i (e.offset + e.count)))
      (cases_lt i e.offset)

  -- a byte at or past a cut is the same in what is left of the extents
  pub left_after : (n : ℕ) (es : List Extent) (i : ℕ) (d : Cell) → 1 ≤ size → n ≤ i → cell_or (left_from size n es) i d ≡ cell_or es i d
  left_after n [] i d some above = refl
  left_after n (e ∷ es) i d some above =
      cell_or_append (past size n e) (left_from size n es) i d
      ∙ or_empty (rest_of size (n - e.offset) e) i (cell_or (left_from size n es) i d)
      ∙ rest_cell n e i (cell_or (left_from size n es) i d) some above
      ∙ ap (λ x. cond (covers e i) (cell_of tape size e (i - e.offset)) x) (left_after n es i d some above)

  -- what is left past a cut has no byte before it
  pub left_before : (n : ℕ) (es : List Extent) (i : ℕ) (d : Cell) → i < n → cell_or (left_from size n es) i d ≡ d
  left_before n [] i d below = refl
  left_before n (e ∷ es) i d below =
      cell_or_append (past size n e) (left_from size n es) i d
      ∙ or_empty (rest_of size (n - e.offset) e) i (cell_or (left_from size n es) i d)
      ∙ elsewhere (rest_of size (n - e.offset) e) [] i (cell_or (left_from size n es) i d) (inl (omega arith))
      ∙ left_before n es i d below

  -- no byte lies outside of the bounds
  pub outside : (low high : ℕ) (es : List Extent) (i : ℕ) (d : Cell) → AreLaid size low high es → (i < low) ⊎ (high ≤ i) → cell_or es i d ≡ d
  outside low high [] i d h off = refl
  outside low high (e ∷ es) i d h off =
      let end : e.offset + e.count ≤ high = laid_le size (e.offset + e.count) high es h.4 in
      elsewhere e es i d (⊎_elim (λ below. inl (omega (arith, h.0))) (λ above. inr (omega arith)) off)
      ∙ outside (e.offset + e.count) high es i d h.4 (⊎_elim (λ below. inl (omega (arith, h.0))) (λ above. inr above) off)
