-- The texts that are written are read again.
use Rattle.std.proofs.Common.{◌≡◌, ℕ, suc, ◌+◌, ◌<◌, ◌≤◌, Bool, true, false, eqb, ltb, List, [], ◌∷◌, ◌++◌, length, get_or, drop, not, Ok, IsUtf8, refl, sym, ap, subst, ◌∙◌, arith, inl, inr, append-nil}
use Rattle.std.specs.Char.{encode_utf8}
use Rattle.std.specs.List.{list_all}
use Rattle.std.specs.Str.{chars, encode_utf8_all, all_scalars}
use Rattle.std.proofs.lemmas.Bool.{cases_eq, cases_order, and_parts}
use Rattle.std.proofs.lemmas.Bool.Decides.{nat_tests}
use Rattle.std.proofs.lemmas.Grind.{flat_map-append}
use Rattle.std.proofs.lemmas.Str.{chars_from_encodes, encodes-append, encodes-chars, inside_one, scalars-chars}
use lib.Utf8.{encode, scalar}
use Rattle.ltfs_documents.specs.DocFields.Reading.{Read, ◌>>=◌}
use Rattle.ltfs_documents.specs.DocFields.Space.{run_end}
use Rattle.ltfs_documents.specs.DocFields.Texts.{is_allowed, IsWritable, put_front, reference, resolved, resolved_text, run_text, text_at, text_end}
use Rattle.ltfs_documents.specs.DocFields.Written.{escape, escaped}
use Rattle.ltfs_documents.proofs.DocFields.Again.{all_pass, between_again, next_is, run_again, within}
use Rattle.ltfs_documents.proofs.DocFields.SimpleTexts.{run_whole}

-- a byte or character that has an escape, or one that stands for itself
five : (P : ℕ → Type 0) (c : ℕ) → P 38 → P 60 → P 62 → P 13 → (eqb c 38 ≡ false → eqb c 60 ≡ false → eqb c 62 ≡ false → eqb c 13 ≡ false → P c) → P c
five P c amp lt gt cr other = elim (cases_eq c 38) [
  | inl e ↦ subst P (sym e) amp
  | inr a ↦ elim (cases_eq c 60) [
    | inl e ↦ subst P (sym e) lt
    | inr b ↦ elim (cases_eq c 62) [
      | inl e ↦ subst P (sym e) gt
      | inr d ↦ elim (cases_eq c 13) [
        | inl e ↦ subst P (sym e) cr
        | inr f ↦
            let ta : eqb c 38 ≡ false = grind (arith, nat_tests) in
            let tb : eqb c 60 ≡ false = grind (arith, nat_tests) in
            let td : eqb c 62 ≡ false = grind (arith, nat_tests) in
            let tf : eqb c 13 ≡ false = grind (arith, nat_tests) in
            other ta tb td tf
      ]
    ]
  ]
]

-- ---- what the escapes of characters stand for

abbrev EscapedAgain : Bool → ℕ → List ℕ → List ℕ → ℕ → Type 0
EscapedAgain cut at more cs c = is_allowed c ≡ true → resolved cut 0 at (escaped c ++ more) ≡ Ok (c ∷ cs)

amp_again : (cut : Bool) (at : ℕ) (more cs : List ℕ) → ((place : ℕ) → resolved cut 0 place more ≡ Ok cs) → EscapedAgain cut at more cs 38
unfolding encode reference
amp_again cut at more cs h good = ap (put_front 38) (h (at + 1 + 1 + 1 + 1 + 1))

lt_again : (cut : Bool) (at : ℕ) (more cs : List ℕ) → ((place : ℕ) → resolved cut 0 place more ≡ Ok cs) → EscapedAgain cut at more cs 60
unfolding encode reference
lt_again cut at more cs h good = ap (put_front 60) (h (at + 1 + 1 + 1 + 1))

gt_again : (cut : Bool) (at : ℕ) (more cs : List ℕ) → ((place : ℕ) → resolved cut 0 place more ≡ Ok cs) → EscapedAgain cut at more cs 62
unfolding encode reference
gt_again cut at more cs h good = ap (put_front 62) (h (at + 1 + 1 + 1 + 1))

cr_again : (cut : Bool) (at : ℕ) (more cs : List ℕ) → ((place : ℕ) → resolved cut 0 place more ≡ Ok cs) → EscapedAgain cut at more cs 13
unfolding encode reference
cr_again cut at more cs h good = ap (put_front 13) (h (at + 1 + 1 + 1 + 1 + 1))

is_raw : (c : ℕ) → eqb c 38 ≡ false → eqb c 60 ≡ false → eqb c 62 ≡ false → eqb c 13 ≡ false → escaped c ≡ c ∷ []
is_raw c a b d f = rw (a, b, d, f) refl

itself_again : (cut : Bool) (at : ℕ) (more cs : List ℕ) (c : ℕ) → ((place : ℕ) → resolved cut 0 place more ≡ Ok cs) → eqb c 38 ≡ false → eqb c 60 ≡ false → eqb c 62 ≡ false → eqb c 13 ≡ false → EscapedAgain cut at more cs c
itself_again cut at more cs c h a b d f good =
    let plain : resolved cut 0 at (c ∷ more) ≡ Ok (c ∷ cs) = rw (good, a, f) (ap (put_front c) (h (at + length (encode_utf8 c)))) in
    ap (λ (s : List ℕ). resolved cut 0 at (s ++ more)) (is_raw c a b d f) ∙ plain

escaped_again : (cut : Bool) (at : ℕ) (more cs : List ℕ) (c : ℕ) → ((place : ℕ) → resolved cut 0 place more ≡ Ok cs) → EscapedAgain cut at more cs c
escaped_again cut at more cs c h = five (EscapedAgain cut at more cs) c (amp_again cut at more cs h) (lt_again cut at more cs h) (gt_again cut at more cs h) (cr_again cut at more cs h) (itself_again cut at more cs c h)

resolved_again : (cut : Bool) (at : ℕ) (cs : List ℕ) → list_all is_allowed cs ≡ true → resolved cut 0 at (escape cs) ≡ Ok cs
resolved_again cut at [] e = refl
resolved_again cut at (c ∷ cs) e =
    let x = and_parts (is_allowed c) (list_all is_allowed cs) e in
    escaped_again cut at (escape cs) cs c (λ place. resolved_again cut place cs x.1) x.0

-- ---- the escapes of bytes are those of characters

one_byte : (c : ℕ) → c < 128 → encode_utf8 c ≡ c ∷ []
unfolding encode
one_byte c lt = let e : ltb c 128 ≡ true = grind (arith, nat_tests) in rw e refl

raw : (c : ℕ) → 128 ≤ c → escaped c ≡ c ∷ []
raw c le =
    let a : eqb c 38 ≡ false = grind (arith, nat_tests) in
    let b : eqb c 60 ≡ false = grind (arith, nat_tests) in
    let d : eqb c 62 ≡ false = grind (arith, nat_tests) in
    let f : eqb c 13 ≡ false = grind (arith, nat_tests) in
    is_raw c a b d f

all_raw : (s : List ℕ) → ((k : ℕ) → k < length s → 128 ≤ get_or s k 0) → escape s ≡ s
all_raw [] h = refl
all_raw (b ∷ s) h = ap (λ (x : List ℕ). x ++ escape s) (raw b (h 0 (omega arith))) ∙ ap (λ (x : List ℕ). b ∷ x) (all_raw s (λ k lt. h (suc k) (omega arith)))

high_byte : (c k : ℕ) → 128 ≤ c → k < length (encode_utf8 c) → 128 ≤ get_or (encode_utf8 c) k 0
high_byte c k le lt = elim (cases_order (get_or (encode_utf8 c) k 0) 128) [
  | inr (inl small) ↦
      let same = inside_one c [] (encode_utf8 c) k (sym (append-nil (encode_utf8 c))) lt small in
      absurd (omega arith)
  | inl is ↦ omega arith
  | inr (inr large) ↦ omega arith
]

ascii_again : (c : ℕ) → c < 128 → encode_utf8_all (escaped c) ≡ escaped c
unfolding encode
ascii_again c low = five (λ c. c < 128 → encode_utf8_all (escaped c) ≡ escaped c) c (λ h. refl) (λ h. refl) (λ h. refl) (λ h. refl) (λ a b d f low. ap encode_utf8_all (is_raw c a b d f) ∙ append-nil (encode_utf8 c) ∙ one_byte c low ∙ sym (is_raw c a b d f)) low

one_char : (c : ℕ) → escape (encode_utf8 c) ≡ encode_utf8_all (escaped c)
one_char c = elim (cases_order c 128) [
  | inr (inl low) ↦ ap escape (one_byte c low) ∙ append-nil (escaped c) ∙ sym (ascii_again c low)
  | inl same ↦ high (omega (arith, same))
  | inr (inr large) ↦ high (omega (arith, large))
]
  where
    high : 128 ≤ c → escape (encode_utf8 c) ≡ encode_utf8_all (escaped c)
    high le = all_raw (encode_utf8 c) (λ k lt. high_byte c k le lt) ∙ sym (ap encode_utf8_all (raw c le) ∙ append-nil (encode_utf8 c))

escape_encodes : (cs : List ℕ) → escape (encode_utf8_all cs) ≡ encode_utf8_all (escape cs)
escape_encodes [] = refl
escape_encodes (c ∷ cs) =
    flat_map-append escaped (encode_utf8 c) (encode_utf8_all cs)
    ∙ ap (λ (x : List ℕ). x ++ escape (encode_utf8_all cs)) (one_char c)
    ∙ ap (λ (x : List ℕ). encode_utf8_all (escaped c) ++ x) (escape_encodes cs)
    ∙ sym (encodes-append (escaped c) (escape cs))

scalars_escaped : (more : List ℕ) (c : ℕ) → all_scalars more ≡ true → scalar c ≡ true → all_scalars (escaped c ++ more) ≡ true
scalars_escaped more c h = five (λ c. scalar c ≡ true → all_scalars (escaped c ++ more) ≡ true) c (λ e. h) (λ e. h) (λ e. h) (λ e. h) (λ a b d f e. ap (λ (s : List ℕ). all_scalars (s ++ more)) (is_raw c a b d f) ∙ rw e h)

scalars_escape : (cs : List ℕ) → all_scalars cs ≡ true → all_scalars (escape cs) ≡ true
scalars_escape [] e = refl
scalars_escape (c ∷ cs) e = let x = and_parts (scalar c) (all_scalars cs) e in scalars_escaped (escape cs) c (scalars_escape cs x.1) x.0

-- ---- no escape has a `<`

abbrev no_open : ℕ → Bool
no_open b = not (eqb b 60)

passes_escaped : (more : List ℕ) (b : ℕ) → all_pass no_open more ≡ true → all_pass no_open (escaped b ++ more) ≡ true
passes_escaped more b h = five (λ b. all_pass no_open (escaped b ++ more) ≡ true) b h h h h (λ k l m n. ap (λ (s : List ℕ). all_pass no_open (s ++ more)) (is_raw b k l m n) ∙ rw l h)

passes_escape : (s : List ℕ) → all_pass no_open (escape s) ≡ true
passes_escape [] = refl
passes_escape (b ∷ s) = passes_escaped (escape s) b (passes_escape s)

-- ---- texts

-- the characters of a text with escapes
record IsEscaped (words : List ℕ) : Type 0 where
  valid : IsUtf8 (escape words)
  spelled : chars (escape words) ≡ escape (chars words)

with_escapes : (words : List ℕ) → IsUtf8 words → IsEscaped words
with_escapes words valid =
    let is : encode_utf8_all (escape (chars words)) ≡ escape words = sym (ap escape (sym (encodes-chars words valid)) ∙ escape_encodes (chars words)) in
    let all : IsUtf8 (escape words) = (escape (chars words), (scalars_escape (chars words) (scalars-chars words valid), is)) in
    record { valid = all; spelled = sym (chars_from_encodes (escape (chars words)) (escape words) all is) }

run_read : (at : ℕ) (words : List ℕ) → IsWritable words → run_text false at (escape words) ≡ Ok words
unfolding resolved_text
run_read at words may =
    let h = with_escapes words may.0 in
    run_whole false at (escape words) h.valid
    ∙ ap (λ (cs : List ℕ). resolved false 0 at cs >>= λ ds. Ok (encode_utf8_all ds)) h.spelled
    ∙ ap (λ (r : Read (List ℕ)). r >>= λ ds. Ok (encode_utf8_all ds)) (resolved_again false at (chars words) may.1)
    ∙ ap Ok (encodes-chars words may.0)

-- a text that is written with escapes is read again
pub text_again : (text : List ℕ) (at : ℕ) (words rest : List ℕ) → IsWritable words → drop at text ≡ escape words ++ 60 ∷ rest → text_at text at ≡ Ok (words, at + length (escape words))
unfolding text_at text_end
text_again text at words rest may e =
    let end : run_end no_open at (drop at text) ≡ at + length (escape words) = ap (run_end no_open at) e ∙ run_again no_open (escape words) 60 rest at (passes_escape words) refl in
    let inside = within text (at + length (escape words)) 60 rest (next_is text at (escape words) (60 ∷ rest) e) in
    let test : eqb (at + length (escape words)) (length text) ≡ false = grind (arith, nat_tests) in
    let run = between_again text at (escape words) (60 ∷ rest) e in
    rw (end, test, run, run_read at words may) refl

-- the escaped form of a text is UTF-8
pub escape_valid : (words : List ℕ) → IsWritable words → IsUtf8 (escape words)
escape_valid words may = (with_escapes words may.0).valid
