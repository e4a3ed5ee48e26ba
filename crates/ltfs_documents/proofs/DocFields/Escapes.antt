-- Texts that are written with escapes, run by run.
use Rattle.std.proofs.Common.{◌≡◌, ℕ, ◌+◌, ◌-◌, ◌<◌, ◌≤◌, List, [], ◌∷◌, ◌++◌, length, get_or, take, drop, refl, sym, ap, ◌∙◌, append_assoc, append-nil, length-drop, arith}
use Rattle.std.specs.List.{slice_range}
use Rattle.std.proofs.lemmas.Grind.{flat_map-append}
use Rattle.std.proofs.lemmas.List.{take_more, get_or-drop, take_all}
use Rattle.ltfs_documents.specs.DocFields.Written.{escape, escaped, Keeps}

-- how far a text is written: up to `from`, and what follows up to `i` stands for itself
pub record IsKept (old out text : List ℕ) (from i : ℕ) : Type 0 where
  pub ordered : from ≤ i
  pub front : Keeps old out
  pub so_far : out ++ slice_range text from i ≡ old ++ escape (take i text)

range_more : (text : List ℕ) (from i : ℕ) → from ≤ i → i < length text → slice_range text from (i + 1) ≡ slice_range text from i ++ get_or text i 0 ∷ []
range_more text from i le lt =
    let next : i + 1 - from ≡ i - from + 1 = omega arith in
    let here : from + (i - from) ≡ i = omega arith in
    let within : i - from < length (drop from text) = omega (arith, length-drop from text) in
    ap (λ (n : ℕ). take n (drop from text)) next ∙ take_more (drop from text) (i - from) 0 within
    ∙ ap (λ (b : ℕ). take (i - from) (drop from text) ++ b ∷ []) (get_or-drop from text (i - from) 0 ∙ ap (λ (n : ℕ). get_or text n 0) here)

escape_more : (text : List ℕ) (i : ℕ) → i < length text → escape (take (i + 1) text) ≡ escape (take i text) ++ escaped (get_or text i 0)
escape_more text i lt = ap escape (take_more text i 0 lt) ∙ flat_map-append escaped (take i text) (get_or text i 0 ∷ []) ∙ ap (λ (e : List ℕ). escape (take i text) ++ e) (append-nil (escaped (get_or text i 0)))

begins_kept : (old text : List ℕ) → IsKept old old text 0 0
begins_kept old text = record { ordered = omega arith; front = ([], sym (append-nil old)); so_far = refl }

-- a byte that is written as itself joins the run that is still to be copied
pub plain_kept : (old out text : List ℕ) (from i : ℕ) → i < length text → escaped (get_or text i 0) ≡ get_or text i 0 ∷ [] → IsKept old out text from i → IsKept old out text from (i + 1)
plain_kept old out text from i lt plain h = record {
  ordered = omega (arith, h.ordered);
  front = h.front;
  so_far = ap (λ (l : List ℕ). out ++ l) (range_more text from i h.ordered lt) ∙ sym (append_assoc out (slice_range text from i) (get_or text i 0 ∷ [])) ∙ ap (λ (l : List ℕ). l ++ get_or text i 0 ∷ []) h.so_far
      ∙ append_assoc old (escape (take i text)) (get_or text i 0 ∷ []) ∙ ap (λ (l : List ℕ). old ++ l) (ap (λ (e : List ℕ). escape (take i text) ++ e) (sym plain) ∙ sym (escape_more text i lt));
}

-- a byte that is escaped ends the run: the run and its escape are written
pub escape_kept : (old out run new text word : List ℕ) (from i : ℕ) → i < length text → escaped (get_or text i 0) ≡ word → run ≡ out ++ slice_range text from i → new ≡ run ++ word → IsKept old out text from i → IsKept old new text (i + 1) (i + 1)
escape_kept old out run new text word from i lt is put_run put_word h =
    let all : new ≡ old ++ escape (take (i + 1) text) = put_word ∙ ap (λ (l : List ℕ). l ++ word) (put_run ∙ h.so_far) ∙ append_assoc old (escape (take i text)) word ∙ ap (λ (l : List ℕ). old ++ l) (ap (λ (e : List ℕ). escape (take i text) ++ e) (sym is) ∙ sym (escape_more text i lt)) in
    let none : i + 1 - (i + 1) ≡ 0 = omega arith in
    record {
      ordered = omega arith;
      front = (escape (take (i + 1) text), all);
      so_far = ap (λ (n : ℕ). new ++ take n (drop (i + 1) text)) none ∙ append-nil new ∙ all;
    }

ends_kept : (old out new text : List ℕ) (from : ℕ) → new ≡ out ++ drop from text → IsKept old out text from (length text) → new ≡ old ++ escape text
ends_kept old out new text from put h =
    let rest : slice_range text from (length text) ≡ drop from text = take_all (length text - from) (drop from text) (omega (arith, length-drop from text)) in
    put ∙ ap (λ (l : List ℕ). out ++ l) (sym rest) ∙ h.so_far ∙ ap (λ (t : List ℕ). old ++ escape t) (take_all (length text) text (omega arith))
