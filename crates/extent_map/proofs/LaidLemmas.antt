-- What cuts make of extents that are laid.
use Rattle.std.proofs.Common.{◌≡◌, ℕ, ◌+◌, ◌-◌, ◌*◌, ◌/◌, ◌%◌, ◌^◌, ◌<◌, ◌≤◌, min, max, true, false, cond, eqb, List, [], ◌∷◌, ◌++◌, sym, ap, ◌∙◌, refl, subst, arith, ⊎_elim}
use Rattle.std.proofs.lemmas.Bool.{cases_lt}
use Rattle.std.proofs.lemmas.Bool.Decides.{nat_tests}
use Rattle.std.proofs.Math.Nat.{div-eq_of_lt, mod-eq_of_lt, mul-le-mul_left}
use Rattle.std.proofs.lemmas.Nat.{mod_below, div_below}
use Rattle.tape_types.specs.Bounds.{longest_file}
use Rattle.tape_types.specs.declared.cartridges.Extent.{Extent}
use Rattle.tape_types.specs.declared.cartridges.Part.{Part}
use Rattle.extent_map.specs.Laid.{Laid, AreLaid, IsLaid, unless_empty, front_of, rest_of, before, past, cut, left_from, overlaid, resized}

not_zero : (n : ℕ) → 1 ≤ n → eqb n 0 ≡ false
not_zero n h = grind (arith, nat_tests)

zero_is : (n : ℕ) → n ≡ 0 → eqb n 0 ≡ true
zero_is n h = grind (arith, nat_tests)

unless_some : (e : Extent) → 1 ≤ e.count → unless_empty e ≡ e ∷ []
unless_some e h = ap (λ b. cond b [] (e ∷ [])) (not_zero e.count h)

unless_none : (e : Extent) → e.count ≡ 0 → unless_empty e ≡ []
unless_none e h = ap (λ b. cond b [] (e ∷ [])) (zero_is e.count h)

abbrev made : ℕ → Part → ℕ → ℕ → ℕ → Extent
made o p b y n = record { offset = o; part = p; block = b; byte = y; count = n }

same_extent : (o o' : ℕ) (p : Part) (b b' y y' n n' : ℕ) → o ≡ o' → b ≡ b' → y ≡ y' → n ≡ n' → made o p b y n ≡ made o' p b' y' n'
same_extent o o' p b b' y y' n n' h1 h2 h3 h4 = ap (λ x. made x p b y n) h1 ∙ ap (λ x. made o' p x y n) h2 ∙ ap (λ x. made o' p b' x n) h3 ∙ ap (made o' p b' y') h4

front_whole : (n : ℕ) (e : Extent) → e.count ≤ n → front_of n e ≡ e
front_whole n e h = let m : min e.count n ≡ e.count = omega arith in ap (λ c. made e.offset e.part e.block e.byte c) m

rest_whole : (size : ℕ) (e : Extent) → e.byte < size → rest_of size 0 e ≡ e
rest_whole size e h =
    let same : e.byte + 0 < size = omega arith in
    let none : (e.byte + 0) / size ≡ 0 = div-eq_of_lt same in
    let whole : (e.byte + 0) % size ≡ e.byte + 0 = mod-eq_of_lt same in
    same_extent (e.offset + 0) e.offset e.part (e.block + (e.byte + 0) / size) e.block ((e.byte + 0) % size) e.byte (e.count - 0) e.count
    (omega arith) (omega arith) (omega arith) (omega arith)

-- ---- one extent

-- an extent that ends before an offset lies before it as a whole
pub before_whole : (at : ℕ) (e : Extent) → 1 ≤ e.count → e.offset + e.count ≤ at → before at e ≡ e ∷ []
before_whole at e some ends = ap unless_empty (front_whole (at - e.offset) e (omega arith)) ∙ unless_some e some

-- nothing of an extent that begins at or past an offset lies before it
pub before_none : (at : ℕ) (e : Extent) → at ≤ e.offset → before at e ≡ []
before_none at e past = unless_none (front_of (at - e.offset) e) (omega arith)

-- the front of an extent that begins before an offset lies before it
pub before_part : (at : ℕ) (e : Extent) → 1 ≤ e.count → e.offset < at → before at e ≡ front_of (at - e.offset) e ∷ []
before_part at e some begins = unless_some (front_of (at - e.offset) e) (omega arith)

-- nothing of an extent that ends by an offset lies past it
pub past_none : (size at : ℕ) (e : Extent) → e.offset + e.count ≤ at → past size at e ≡ []
past_none size at e ends = unless_none (rest_of size (at - e.offset) e) (omega arith)

-- an extent that begins at or past an offset lies past it as a whole
pub past_whole : (size at : ℕ) (e : Extent) → 1 ≤ e.count → e.byte < size → at ≤ e.offset → past size at e ≡ e ∷ []
past_whole size at e some byte begins =
    let none : at - e.offset ≡ 0 = omega arith in
    ap (λ n. unless_empty (rest_of size n e)) none ∙ ap unless_empty (rest_whole size e byte) ∙ unless_some e some

-- the rest of an extent that ends past an offset lies past it
pub past_part : (size at : ℕ) (e : Extent) → 1 ≤ e.count → at < e.offset + e.count → past size at e ≡ rest_of size (at - e.offset) e ∷ []
past_part size at e some goes_on = unless_some (rest_of size (at - e.offset) e) (omega arith)

-- ---- laid extents

-- extents that are laid end no earlier than they begin
pub laid_le : (size low high : ℕ) (es : List Extent) → AreLaid size low high es → low ≤ high
laid_le size low high [] h = h
laid_le size low high (e ∷ es) h = omega (arith, h.0, laid_le size (e.offset + e.count) high es h.4)

-- extents that are laid from a byte on are so from an earlier one
pub laid_lower : (size less low high : ℕ) (es : List Extent) → less ≤ low → AreLaid size low high es → AreLaid size less high es
laid_lower size less low high [] le h = omega (arith, h)
laid_lower size less low high (e ∷ es) le h = (omega (arith, h.0), h.1, h.2, h.3, h.4)

-- extents that are laid up to a byte are so up to a later one
pub laid_raise : (size low high more : ℕ) (es : List Extent) → high ≤ more → AreLaid size low high es → AreLaid size low more es
laid_raise size low high more [] le h = omega (arith, h)
laid_raise size low high more (e ∷ es) le h = (h.0, h.1, h.2, h.3, laid_raise size (e.offset + e.count) high more es le h.4)

laid_append : (size low mid high : ℕ) (xs ys : List Extent) → AreLaid size low mid xs → AreLaid size mid high ys → AreLaid size low high (xs ++ ys)
laid_append size low mid high [] ys h k = laid_lower size low mid high ys h k
laid_append size low mid high (e ∷ xs) ys h k = (h.0, h.1, h.2, h.3, laid_append size (e.offset + e.count) mid high xs ys h.4 k)

-- ---- lists that are cut

-- extents that begin at or past a cut leave nothing before it
pub cut_past : (size low high : ℕ) (es : List Extent) (at : ℕ) → AreLaid size low high es → at ≤ low → cut at es ≡ []
cut_past size low high [] at h le = refl
cut_past size low high (e ∷ es) at h le =
    ap (λ l. l ++ cut at es) (before_none at e (omega (arith, h.0))) ∙ cut_past size (e.offset + e.count) high es at h.4 (omega (arith, h.0))

-- extents that begin at or past a cut are all left behind it
pub left_same : (size low high : ℕ) (es : List Extent) (at : ℕ) → AreLaid size low high es → at ≤ low → left_from size at es ≡ es
left_same size low high [] at h le = refl
left_same size low high (e ∷ es) at h le =
    ap (λ l. l ++ left_from size at es) (past_whole size at e h.1 h.2 (omega (arith, h.0)))
    ∙ ap (λ l. e ∷ l) (left_same size (e.offset + e.count) high es at h.4 (omega (arith, h.0)))

front_laid : (size low high : ℕ) (e : Extent) (es : List Extent) (at : ℕ) → AreLaid size low high (e ∷ es) → e.offset < at → (e.offset + e.count ≤ at → AreLaid size (e.offset + e.count) at (cut at es))
    → AreLaid size (e.offset + min e.count (at - e.offset)) at (cut at es)
front_laid size low high e es at h begins next = ⊎_elim
    (λ within. subst (AreLaid size (e.offset + min e.count (at - e.offset)) at) (sym (cut_past size (e.offset + e.count) high es at h.4 (omega arith))) (omega arith))
    (λ ends. let same : e.offset + e.count ≡ e.offset + min e.count (at - e.offset) = omega arith in
    subst (λ x. AreLaid size x at (cut at es)) same (next ends))
    (cases_lt at (e.offset + e.count))

-- extents that are laid are still so when they are cut
pub cut_laid : (size low high : ℕ) (es : List Extent) (at : ℕ) → AreLaid size low high es → low ≤ at → AreLaid size low at (cut at es)
cut_laid size low high [] at h le = le
cut_laid size low high (e ∷ es) at h le = ⊎_elim
    (λ begins. subst (λ l. AreLaid size low at (l ++ cut at es)) (sym (before_part at e h.1 begins))
    (h.0, (omega (arith, h.1)), h.2, (omega (arith, h.3)), front_laid size low high e es at h begins (λ ends. cut_laid size (e.offset + e.count) high es at h.4 ends)))
    (λ past. subst (λ l. AreLaid size low at (l ++ cut at es)) (sym (before_none at e past))
    (subst (AreLaid size low at) (sym (cut_past size (e.offset + e.count) high es at h.4 (omega arith))) le))
    (cases_lt e.offset at)

div_few : (byte n size : ℕ) → byte < size → (byte + n) / size ≤ n
div_few byte n size h =
    let some : 1 ≤ size = omega arith in
    let times : n * 1 ≤ n * size = mul-le-mul_left n some in
    let few : (byte + n) / size < n + 1 = div_below (byte + n) size (n + 1) (omega arith) (omega (arith, times)) in
    omega arith

-- what is left of laid extents past a cut is laid from there on
pub left_laid : (size low high : ℕ) (es : List Extent) (at : ℕ) → 1 ≤ size → AreLaid size low high es → at ≤ high → AreLaid size at high (left_from size at es)
left_laid size low high [] at some h le = le
left_laid size low high (e ∷ es) at some h le = ⊎_elim
    (λ goes_on.
    subst (λ l. AreLaid size at high (l ++ left_from size at es)) (sym (past_part size at e h.1 goes_on))
    ((omega arith), (omega (arith, h.1)), mod_below (e.byte + (at - e.offset)) size some, (omega (arith, h.3, div_few e.byte (at - e.offset) size h.2)), rest goes_on))
    (λ ends. subst (λ l. AreLaid size at high (l ++ left_from size at es)) (sym (past_none size at e ends))
    (left_laid size (e.offset + e.count) high es at some h.4 le))
    (cases_lt at (e.offset + e.count))
  where
    rest : at < e.offset + e.count → AreLaid size (e.offset + (at - e.offset) + (e.count - (at - e.offset))) high (left_from size at es)
    rest goes_on =
        let same : e.offset + e.count ≡ e.offset + (at - e.offset) + (e.count - (at - e.offset)) = omega (arith, h.1) in
        subst (λ l. AreLaid size (e.offset + (at - e.offset) + (e.count - (at - e.offset))) high l) (sym (left_same size (e.offset + e.count) high es at h.4 (omega arith)))
        (subst (λ x. AreLaid size x high es) same h.4)

-- ---- the two calls keep the invariant

-- a file with a new extent put over it is laid
pub overlaid_laid : (f : Laid) (new : Extent) → IsLaid f → 1 ≤ new.count → new.offset + new.count ≤ longest_file → new.byte < f.block_size → new.block ≤ 2 ^ 62 → IsLaid (overlaid f new)
overlaid_laid f new h some fits byte block =
    let end = new.offset + new.count in
    let high = max f.length end in
    record {
      some_block = h.some_block;
      can_be = omega (arith, h.can_be);
      are_laid = laid_append f.block_size 0 new.offset high (cut new.offset f.extents) (new ∷ left_from f.block_size end f.extents)
          (cut_laid f.block_size 0 f.length f.extents new.offset h.are_laid (omega arith)) (
            (omega arith),
            some,
            byte,
            (omega arith),
            left_laid f.block_size 0 high f.extents end h.some_block (laid_raise f.block_size 0 f.length high f.extents (omega arith) h.are_laid) (omega arith),
          );
    }

-- a file with a new length is laid
pub resized_laid : (f : Laid) (n : ℕ) → IsLaid f → n ≤ longest_file → IsLaid (resized f n)
resized_laid f n h fits = record {
  some_block = h.some_block;
  can_be = fits;
  are_laid = cut_laid f.block_size 0 f.length f.extents n h.are_laid (omega arith);
}

-- a file of this block size, length and extents
abbrev pub laid_as : ℕ → ℕ → List Extent → Laid
laid_as size length es = record { block_size = size; length = length; extents = es }

-- the extents and length that a write leaves are those of the overlay
pub overlaid_is : (size length n : ℕ) (es after : List Extent) (new : Extent) → after ≡ cut new.offset es ++ new ∷ left_from size (new.offset + new.count) es → n ≡ max length (new.offset + new.count)
    → laid_as size n after ≡ overlaid (laid_as size length es) new
overlaid_is size length n es after new is long =
    ap (laid_as size n) is ∙ ap (λ m. laid_as size m (cut new.offset es ++ new ∷ left_from size (new.offset + new.count) es)) long
