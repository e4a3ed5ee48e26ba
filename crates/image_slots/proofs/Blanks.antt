-- How the first header is made on a blank disk, a piece at a time.
use Rattle.std.proofs.Common.{ℕ, ◌+◌, ◌≤◌, ◌<◌, ◌≡◌, ⊎_elim, inl, inr, List, [], ◌∷◌, ◌++◌, drop, length, replicate, get_or, refl, sym, ◌∙◌, ap, subst, arith}
use Rattle.std.proofs.lemmas.Bool.{cases_lt}
use Rattle.std.proofs.lemmas.List.{append-nil, drop_all, length-append, length-drop}
use Rattle.byte_disk.specs.Files.{Files, bytes_at, written}
use Rattle.image_slots.specs.Slots.{HasValue, first_value}
use Rattle.image_slots.specs.Sides.{CountsAt}
use Rattle.image_slots.specs.Blank.{BeginsWith, IsBegun, IsBodied, IsGated, IsMade, IsShort, bodied}
use Rattle.image_slots.specs.Pieces.{AreEmpty, HasFirst, IsTouched}
use Rattle.image_slots.specs.declared.sides.Side.TheVariants.{First}
use Rattle.image_slots.proofs.Bytes.{touched_run}
use Rattle.image_slots.proofs.Choosing.{has_value}

zero_one : (n : ℕ) → n ≡ 0 → n ≡ 1 → ⊥
zero_one n h k = omega (arith, h, k)

-- a header that is still too short is blank
short_first : (x y : Files) {at n : ℕ} → length x.cm < 512 → AreEmpty x.ip x.dp → y.ip ≡ x.ip → y.dp ≡ x.dp → IsTouched at n x.cm y.cm
    → at + n < 512 → HasFirst y
short_first x y less empty ip dp t end =
    inl (record { ip = ip ∙ empty.0; dp = dp ∙ empty.1; cm = omega (arith, t.no_longer, less, end) }, refl)

short_of : (bytes cm : List ℕ) → length bytes ≡ 257 → BeginsWith bytes cm → length cm < 512
short_of bytes cm size (rest, is, less) = subst (λ (l : List ℕ). length l < 512) (sym is) (omega (arith, length-append bytes rest, size, less))

-- a header that begins with 257 bytes has as many or more
pub long_of : (bytes cm : List ℕ) → length bytes ≡ 257 → BeginsWith bytes cm → 257 ≤ length cm
long_of bytes cm size (rest, is, less) = subst (λ (l : List ℕ). 257 ≤ length l) (sym is) (omega (arith, length-append bytes rest, size))

-- while the header is cleared, each image stores the first value
pub clear_each : (x y : Files) → IsShort x.cm → AreEmpty x.ip x.dp → y.ip ≡ x.ip → y.dp ≡ x.dp → IsTouched 0 257 x.cm y.cm → HasFirst y
clear_each x y h empty ip dp t = short_first x y h empty ip dp t (omega arith)

-- zeros written first begin a header
pub clear_ends : (x : List ℕ) → IsShort x → IsBegun (written 0 (replicate 257 0) x)
clear_ends x h = (drop 257 x, refl, omega (arith, h, length-drop 257 x))

-- while the first value is written, each image stores the first value
pub body_each : (x y : Files) → IsBegun x.cm → AreEmpty x.ip x.dp → y.ip ≡ x.ip → y.dp ≡ x.dp → IsTouched 1 255 x.cm y.cm → HasFirst y
body_each x y h empty ip dp t = short_first x y (short_of (replicate 257 0) x.cm refl h) empty ip dp t (omega arith)

-- the first value written behind the closed gate stands there
pub body_ends : (x : List ℕ) → IsBegun x → IsBodied (written 1 first_value x)
body_ends x (rest, is, less) = (rest, ap (written 1 first_value) is, less)

-- while the gate is opened, each image stores the first value
pub gate_each : (x y : Files) → IsBodied x.cm → AreEmpty x.ip x.dp → y.ip ≡ x.ip → y.dp ≡ x.dp → IsTouched 0 1 x.cm y.cm → HasFirst y
gate_each x y h empty ip dp t = short_first x y (short_of (bodied 0) x.cm refl h) empty ip dp t (omega arith)

-- the first gate opened stands before the first value
pub gate_ends : (x : List ℕ) → IsBodied x → IsGated (written 0 (1 ∷ []) x)
gate_ends x (rest, is, less) = (rest, ap (written 0 (1 ∷ [])) is, less)

-- once the header has all its bytes, its first slot counts
full_first : (x y : List ℕ) → IsGated x → IsTouched 257 255 x y → length y ≡ 512 → HasValue y first_value
full_first x y (rest, is, less) t size =
    let long : 257 ≤ length x = long_of (bodied 1) x refl (rest, is, less) in
    has_value First y first_value (record {
      size = size;
      gate = t.outside 0 (omega (arith, long)) (inl (omega arith)) ∙ ap (λ (l : List ℕ). get_or l 0 0) is;
      body = touched_run t 1 255 (omega (arith, long)) (inl (omega arith)) ∙ ap (λ (l : List ℕ). bytes_at 1 255 l) is;
      lesser = inl (λ (one : get_or y 256 0 ≡ 1).
          let zero_there : get_or y 256 0 ≡ 0 = t.outside 256 (omega (arith, long)) (inl (omega arith)) ∙ ap (λ (l : List ℕ). get_or l 256 0) is in
          zero_one (get_or y 256 0) zero_there one);
    })

-- while the rest is written, each image stores the first value
pub rest_each : (x y : Files) → IsGated x.cm → AreEmpty x.ip x.dp → y.ip ≡ x.ip → y.dp ≡ x.dp → IsTouched 257 255 x.cm y.cm → HasFirst y
rest_each x y h empty ip dp t = ⊎_elim
    (λ (less : length y.cm < 512). inl (record { ip = ip ∙ empty.0; dp = dp ∙ empty.1; cm = less }, refl))
    (λ (full : 512 ≤ length y.cm). inr (full_first x.cm y.cm h t (omega (arith, full, t.no_longer, short_of (bodied 1) x.cm refl h))))
    (cases_lt (length y.cm) 512)

-- zeros up to the end make the whole first header
pub rest_ends : (x : List ℕ) → IsGated x → IsMade (written 257 (replicate 255 0) x)
rest_ends x (rest, is, less) =
    ap (written 257 (replicate 255 0)) is
    ∙ ap (λ (l : List ℕ). bodied 1 ++ replicate 255 0 ++ l) (drop_all 255 rest (omega (arith, less)))
    ∙ append-nil (bodied 1 ++ replicate 255 0)

-- what was made is read as it is
pub made_counts : (cm : List ℕ) → IsMade cm → CountsAt 0 256 cm first_value
made_counts cm is = subst (λ (l : List ℕ). CountsAt 0 256 l first_value) (sym is)
    (record { size = refl; gate = refl; body = refl; lesser = inl (zero_one 0 refl) })
