-- Texts of bytes that stand for themselves are read as they stand.
use Rattle.std.proofs.Common.{◌≡◌, ℕ, zero, suc, ◌+◌, ◌-◌, ◌<◌, ◌≤◌, eqb, Bool, true, false, not, ◌==◌, List, [], ◌∷◌, ◌++◌, Ok, length, take, drop, get_or, IsUtf8, refl, sym, ap, ◌∙◌, arith}
use Rattle.std.specs.List.{list_all}
use Rattle.std.proofs.lemmas.Bool.{and_from, and_parts}
use Rattle.std.proofs.lemmas.Bool.Decides.{nat_tests}
use Rattle.std.proofs.lemmas.List.{take_more, get_or-drop, length-drop}
use Rattle.std.proofs.lemmas.List.Folds.{list_all-append}
use Rattle.std.proofs.lemmas.Str.{IsUtf8-from_ascii}
use Rattle.ltfs_documents.specs.DocFields.Reading.{Read, ◌>>=◌, between}
use Rattle.ltfs_documents.specs.DocFields.Space.{run_end}
use Rattle.ltfs_documents.specs.DocFields.Texts.{is_simple, run_text, text_at, text_end}
use Rattle.ltfs_documents.proofs.DocFields.Runs.{run_more, run_stops}
use Rattle.ltfs_documents.proofs.DocFields.SimpleTexts.{simple_text, run_whole}
use Rattle.ltfs_documents.specs.DocElements.Bare.{is_bare}

-- each byte in front of a place passes a test, and the text's end lies behind it
pub record IsRunTo (test : ℕ → Bool) (text : List ℕ) (at i : ℕ) : Type 0 where
  pub before : at ≤ i
  pub within : i ≤ length text
  pub all : list_all test (between text at i) ≡ true
  pub end : run_end (λ b. not (b == 60)) i (drop i text) ≡ run_end (λ b. not (b == 60)) at (drop at text)

nothing : (text : List ℕ) (at : ℕ) → between text at at ≡ []
nothing text at = let none : at - at ≡ 0 = omega arith in rw none refl

-- nothing stands in front of where the text begins
pub run_none : (test : ℕ → Bool) (text : List ℕ) (at : ℕ) → at ≤ length text → IsRunTo test text at at
run_none test text at le = record { before = omega arith; within = le; all = ap (list_all test) (nothing text at); end = refl }

longer : (text : List ℕ) (at i : ℕ) → at ≤ i → i < length text → between text at (i + 1) ≡ between text at i ++ get_or text i 0 ∷ []
longer text at i le lt =
    let rest = drop at text in
    let size : i + 1 - at ≡ (i - at) + 1 = omega arith in
    let place : at + (i - at) ≡ i = omega arith in
    let there : get_or rest (i - at) 0 ≡ get_or text i 0 = get_or-drop at text (i - at) 0 ∙ ap (λ k. get_or text k 0) place in
    ap (λ k. take k rest) size ∙ take_more rest (i - at) 0 (omega (arith, length-drop at text)) ∙ ap (λ x. take (i - at) rest ++ x ∷ []) there

-- one byte more passes the test
pub run_more_to : (test : ℕ → Bool) (text : List ℕ) (at i : ℕ) → IsRunTo test text at i → i < length text → test (get_or text i 0) ≡ true → eqb (get_or text i 0) 60 ≡ false
    → IsRunTo test text at (i + 1)
run_more_to test text at i kept lt passes other = record {
  before = omega (arith, kept.before);
  within = omega (arith, lt);
  all = ap (list_all test) (longer text at i kept.before lt) ∙ list_all-append test (between text at i) (get_or text i 0 ∷ [])
      ∙ and_from (list_all test (between text at i)) (list_all test (get_or text i 0 ∷ [])) kept.all (and_from (test (get_or text i 0)) true passes refl);
  end = sym (run_more (λ b. not (b == 60)) text i lt (ap not other)) ∙ kept.end;
}

simple : (b : ℕ) → is_bare b ≡ true → is_simple b ≡ true
simple b e = grind (arith, nat_tests)

low : (b : ℕ) → is_bare b ≡ true → b < 128
low b e = grind (arith, nat_tests)

all_simple : (bs : List ℕ) → list_all is_bare bs ≡ true → list_all is_simple bs ≡ true
all_simple [] e = refl
all_simple (b ∷ bs) e = let p = and_parts (is_bare b) (list_all is_bare bs) e in and_from (is_simple b) (list_all is_simple bs) (simple b p.0) (all_simple bs p.1)

all_low : (bs : List ℕ) → list_all is_bare bs ≡ true → (i : ℕ) → get_or bs i 0 < 128
all_low [] e i = omega arith
all_low (b ∷ bs) e zero = low b (and_parts (is_bare b) (list_all is_bare bs) e).0
all_low (b ∷ bs) e (suc i) = all_low bs (and_parts (is_bare b) (list_all is_bare bs) e).1 i

-- where a text ends of which each byte up to a place passes a test
pub run_to_end : (test : ℕ → Bool) (text : List ℕ) (at i : ℕ) → IsRunTo test text at i → i < length text → eqb (get_or text i 0) 60 ≡ true → text_end text at ≡ i
unfolding text_end
run_to_end test text at i kept lt is = sym kept.end ∙ run_stops (λ b. not (b == 60)) text i lt (ap not is)

-- a text whose bytes up to its end are bare is these bytes
pub bare_read : (text : List ℕ) (at i : ℕ) → IsRunTo is_bare text at i → i < length text → eqb (get_or text i 0) 60 ≡ true → text_at text at ≡ Ok (between text at i, i)
unfolding text_at
bare_read text at i kept lt is =
    let run = between text at i in
    let valid : IsUtf8 run = IsUtf8-from_ascii run (all_low run kept.all) in
    let end = run_to_end is_bare text at i kept lt is in
    let whole : run_text (i == length text) at run ≡ Ok run = run_whole (i == length text) at run valid ∙ simple_text (i == length text) at run valid (all_simple run kept.all) in
    ap (λ k. run_text (k == length text) at (between text at k) >>= λ v. Ok (v, k)) end
    ∙ ap (λ (r : Read (List ℕ)). r >>= λ v. Ok (v, i)) whole
