-- Texts that stand one behind the other.
use Rattle.std.proofs.Common.{◌≡◌, ℕ, zero, suc, ◌+◌, ◌-◌, ◌<◌, ◌≤◌, List, [], ◌∷◌, ◌++◌, length, get_or, take, drop, IsUtf8, refl, sym, ap, subst, ◌∙◌, arith, length-append, length-drop}
use Rattle.std.proofs.lemmas.List.{take-append-le, drop-append-le}
use Rattle.std.proofs.Math.Seq.{drop-append_seam, take-length}
use Rattle.index_model.specs.Cuts.{cut, start, AreTexts}

-- there are as many texts as ends
pub cut_length : (from : ℕ) (ends bytes : List ℕ) → length (cut from ends bytes) ≡ length ends
cut_length from [] bytes = refl
cut_length from (end ∷ ends) bytes = ap suc (cut_length end ends bytes)

pub record IsTextAt (from : ℕ) (ends bytes : List ℕ) (at : ℕ) : Type 0 where
  pub ordered : start from ends at ≤ get_or ends at 0
  pub inside : get_or ends at 0 ≤ length bytes
  pub text : IsUtf8 (take (get_or ends at 0 - start from ends at) (drop (start from ends at) bytes))
  pub is : get_or (cut from ends bytes) at [] ≡ take (get_or ends at 0 - start from ends at) (drop (start from ends at) bytes)

text_at : (from : ℕ) (ends bytes : List ℕ) (at : ℕ) → AreTexts from ends bytes → at < length ends → IsTextAt from ends bytes at
text_at from [] bytes at are lt = absurd (omega arith)
text_at from (end ∷ ends) bytes zero are lt = record { ordered = are.0; inside = are.1; text = are.2; is = refl }
text_at from (end ∷ ends) bytes (suc zero) are lt = let r = text_at end ends bytes zero are.3 (omega arith) in record { ordered = r.ordered; inside = r.inside; text = r.text; is = r.is }
text_at from (end ∷ ends) bytes (suc (suc at)) are lt = let r = text_at end ends bytes (suc at) are.3 (omega arith) in record { ordered = r.ordered; inside = r.inside; text = r.text; is = r.is }

-- the piece is as it was where more stands behind all
piece_stays : (from end : ℕ) (bytes text : List ℕ) → from ≤ end → end ≤ length bytes → take (end - from) (drop from (bytes ++ text)) ≡ take (end - from) (drop from bytes)
piece_stays from end bytes text ordered inside =
    let behind : end - from ≤ length (drop from bytes) = omega (arith, length-drop from bytes) in
    ap (take (end - from)) (drop-append-le from bytes text (omega arith)) ∙ take-append-le (end - from) (drop from bytes) text behind

last_piece : (from n : ℕ) (bytes text : List ℕ) → from ≡ length bytes → n ≡ length bytes + length text → take (n - from) (drop from (bytes ++ text)) ≡ text
last_piece from n bytes text e size =
    let all : n - from ≡ length text = omega arith in
    ap (λ (k : ℕ). take (n - from) (drop k (bytes ++ text))) e ∙ ap (take (n - from)) (drop-append_seam bytes text) ∙ ap (λ (k : ℕ). take k text) all ∙ take-length text

-- one text more at the end is one more of the texts
pub cut_more : (from : ℕ) (ends bytes text : List ℕ) (n : ℕ) → AreTexts from ends bytes → n ≡ length bytes + length text → cut from (ends ++ n ∷ []) (bytes ++ text) ≡ cut from ends bytes ++ text ∷ []
cut_more from [] bytes text n are size = ap (λ (t : List ℕ). t ∷ []) (last_piece from n bytes text are size)
cut_more from (end ∷ ends) bytes text n are size =
    ap (λ (t : List ℕ). t ∷ cut end (ends ++ n ∷ []) (bytes ++ text)) (piece_stays from end bytes text are.0 are.1)
    ∙ ap (λ (ts : List (List ℕ)). take (end - from) (drop from bytes) ∷ ts) (cut_more end ends bytes text n are.3 size)

-- a UTF-8 text put behind the others leaves all of them whole
pub texts_more : (from : ℕ) (ends bytes text : List ℕ) (n : ℕ) → AreTexts from ends bytes → IsUtf8 text → n ≡ length bytes + length text → AreTexts from (ends ++ n ∷ []) (bytes ++ text)
texts_more from [] bytes text n are utf8 size =
    (omega arith, omega (arith, length-append bytes text), subst IsUtf8 (sym (last_piece from n bytes text are size)) utf8, omega (arith, length-append bytes text))
texts_more from (end ∷ ends) bytes text n are utf8 size =
    (are.0, omega (arith, length-append bytes text), subst IsUtf8 (sym (piece_stays from end bytes text are.0 are.1)) are.2, texts_more end ends bytes text n are.3 utf8 size)

any_default : (ends : List ℕ) (at d : ℕ) → at < length ends → get_or ends at d ≡ get_or ends at 0
any_default [] at d lt = absurd (omega arith)
any_default (end ∷ ends) zero d lt = refl
any_default (end ∷ ends) (suc at) d lt = any_default ends at d (omega arith)

-- what is between a start and an end that were looked up
pub record IsPiece (texts : List (List ℕ)) (bytes : List ℕ) (at from end : ℕ) : Type 0 where
  pub ordered : from ≤ end
  pub inside : end ≤ length bytes
  pub text : IsUtf8 (take (end - from) (drop from bytes))
  pub is : take (end - from) (drop from bytes) ≡ get_or texts at []

-- the place of a text among those that stand one behind the other
pub piece : (ends bytes front all : List ℕ) (texts : List (List ℕ)) (at from end d : ℕ) → AreTexts 0 ends bytes → cut 0 ends bytes ≡ texts → front ≡ ends → all ≡ bytes → at < length texts → from ≡ start 0 front at → end ≡ get_or ends at d → IsPiece texts all at from end
piece ends bytes front all texts at from end d are view is_front is_all lt begins ends_at =
    let inside : at < length ends = omega (arith, lt, ap length view, cut_length 0 ends bytes) in
    let t = text_at 0 ends bytes at are inside in
    let first : from ≡ start 0 ends at = begins ∙ ap (λ (l : List ℕ). start 0 l at) is_front in
    let last : end ≡ get_or ends at 0 = ends_at ∙ any_default ends at d inside in
    rw (is_all, first, last, ← view) record { ordered = t.ordered; inside = t.inside; text = t.text; is = sym t.is }
