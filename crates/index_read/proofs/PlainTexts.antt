-- A text that is read is UTF-8 and bytes, and has only characters that a document may have.
use Rattle.std.proofs.Common.{◌≡◌, ℕ, zero, suc, ◌+◌, ◌*◌, List, [], ◌∷◌, Bool, true, false, cond, ◌==◌, ◌&&◌, length, take, drop, Option, Some, None, Ok, Err, refl, sym, ap, subst, ◌∙◌, arith}
use Rattle.std.specs.Char.{encode_utf8}
use Rattle.std.specs.List.{list_all}
use Rattle.std.specs.Str.{chars, encode_utf8_all, all_scalars}
use Rattle.std.specs.Str.Lossy.{utf8_valid_len}
use Rattle.std.proofs.lemmas.Bool.Decides.{nat_tests}
use Rattle.std.proofs.lemmas.Str.{chars-encodes}
use Rattle.std.proofs.lemmas.Bool.{and_parts}
use lib.Utf8.{scalar}
use Rattle.ltfs_documents.specs.DocFields.Reading.{Read, ◌>>=◌, begins, between, syntax_at}
use Rattle.ltfs_documents.specs.DocFields.Texts.{is_allowed, named, digit_of, and_then, finished, numbered, reference, line_feeds, put_front, referred, unit_at, with_unit, resolved, resolved_text, run_text, text_at, text_end}
use Rattle.ltfs_documents.specs.DocFields.Values.{first_word}
use Rattle.ltfs_documents.proofs.DocFields.Allowed.{characters_are_bytes}
use Rattle.base64.specs.GeneralPurpose.{IsBytes}
use Rattle.index_model.specs.Texts.{IsPlainText}

read_ok : {A B : Type 0} (r : Read A) (f : A → Read B) (y : B) → (r >>= f) ≡ Ok y → (x : A) × (r ≡ Ok x) × (f x ≡ Ok y)
read_ok (Ok x) f y e = (x, refl, e)
read_ok (Err d) f y e = absurd cc

-- ---- the character that a reference stands for

abbrev IsGood : Option (ℕ × ℕ) → Type 0
IsGood o = (r : ℕ × ℕ) → o ≡ Some r → is_allowed r.0 ≡ true

none_good : IsGood None
none_good r e = absurd cc

finished_good : (n k : ℕ) → IsGood (finished n k)
finished_good n k r e = by (is_allowed n) refl e
  where
    by : (b : Bool) → is_allowed n ≡ b → cond b (Some (n, k)) None ≡ Some r → is_allowed r.0 ≡ true
    by true is h = let same : (n, k) ≡ r = cc (h) in ap (λ (x : ℕ × ℕ). is_allowed x.0) (sym same) ∙ is
    by false is h = absurd cc

then_good : (o : Option ℕ) (f : ℕ → Option (ℕ × ℕ)) → ((d : ℕ) → IsGood (f d)) → IsGood (and_then o f)
then_good None f good r e = absurd cc
then_good (Some d) f good r e = good d r e

either_good : (b : Bool) (o p : Option (ℕ × ℕ)) → IsGood o → IsGood p → IsGood (cond b o p)
either_good true o p h k = h
either_good false o p h k = k

numbered_good : (base n k : ℕ) (bytes : List ℕ) → IsGood (numbered base n k bytes)
numbered_good base n k [] = none_good
numbered_good base n k (b ∷ rest) =
    either_good (b == 59) (finished n (k + 1)) (and_then (digit_of base b) (λ d. numbered base (n * base + d) (k + 1) rest)) (finished_good n (k + 1)) (then_good (digit_of base b) (λ d. numbered base (n * base + d) (k + 1) rest) (λ d. numbered_good base (n * base + d) (k + 1) rest))

word_good : (words : List (List ℕ × ℕ)) (rest : List ℕ) → list_all (λ (w : List ℕ × ℕ). is_allowed w.1) words ≡ true → IsGood (first_word words rest)
word_good [] rest h = none_good
word_good (w ∷ words) rest h = let x = and_parts (is_allowed w.1) (list_all (λ (w : List ℕ × ℕ). is_allowed w.1) words) h in either_good (begins w.0 rest) (Some (w.1, length w.0)) (first_word words rest) (one x.0) (word_good words rest x.1)
  where
    one : is_allowed w.1 ≡ true → IsGood (Some (w.1, length w.0))
    one is r e = let same : (w.1, length w.0) ≡ r = cc (e) in ap (λ (x : ℕ × ℕ). is_allowed x.0) (sym same) ∙ is

reference_good : (rest : List ℕ) → IsGood (reference rest)
unfolding reference
reference_good rest = either_good _ _ _ (numbered_good 16 0 2 (drop 2 rest)) (either_good _ _ _ (numbered_good 10 0 1 (drop 1 rest)) (word_good named rest refl))

-- ---- the characters of a text

unit_good : (cut : Bool) (at c : ℕ) (rest : List ℕ) (u : ℕ × ℕ) → unit_at cut at c rest ≡ Ok u → is_allowed u.0 ≡ true
unit_good cut at c rest u e = by (c == 38) e
  where
    first : (x y : ℕ × ℕ) → ◌≡◌ {A = Read (ℕ × ℕ)} (Ok x) (Ok y) → is_allowed x.0 ≡ true → is_allowed y.0 ≡ true
    first x y h is = let same : x ≡ y = cc (h) in ap (λ (z : ℕ × ℕ). is_allowed z.0) (sym same) ∙ is

    refers : (o : Option (ℕ × ℕ)) → IsGood o → referred cut at rest o ≡ Ok u → is_allowed u.0 ≡ true
    refers (Some r) good h = first r u h (good r refl)
    refers None good h = absurd (failed (cut && _) h)
      where
        failed : (b : Bool) → cond b (syntax_at (at + 1 + length rest)) (syntax_at at) ≡ Ok u → ⊥
        failed true h = cc
        failed false h = cc

    itself : (b : Bool) → is_allowed c ≡ b → cond b (Ok (c, 0)) (syntax_at at) ≡ Ok u → is_allowed u.0 ≡ true
    itself true is h = first (c, 0) u h is
    itself false is h = absurd cc

    ends : (b : Bool) → cond b (Ok (10, line_feeds rest)) (cond (is_allowed c) (Ok (c, 0)) (syntax_at at)) ≡ Ok u → is_allowed u.0 ≡ true
    ends true h = first (10, line_feeds rest) u h refl
    ends false h = itself (is_allowed c) refl h

    by : (b : Bool) → cond b (referred cut at rest (reference rest)) (cond (c == 13) (Ok (10, line_feeds rest)) (cond (is_allowed c) (Ok (c, 0)) (syntax_at at))) ≡ Ok u → is_allowed u.0 ≡ true
    by true h = refers (reference rest) (reference_good rest) h
    by false h = ends (c == 13) h

put_ok : (c : ℕ) (r : Read (List ℕ)) (out : List ℕ) → put_front c r ≡ Ok out → (cs : List ℕ) × (r ≡ Ok cs) × (out ≡ c ∷ cs)
put_ok c (Ok cs) out e = let same : c ∷ cs ≡ out = cc (e) in (cs, refl, sym same)
put_ok c (Err d) out e = absurd cc

all_good : (cut : Bool) (skip at : ℕ) (cs out : List ℕ) → resolved cut skip at cs ≡ Ok out → list_all is_allowed out ≡ true
all_good cut skip at [] out e = let same : [] ≡ out = cc (e) in ap (list_all is_allowed) (sym same)
all_good cut (suc skip) at (c ∷ rest) out e = all_good cut skip (at + length (encode_utf8 c)) rest out e
all_good cut zero at (c ∷ rest) out e = by (unit_at cut at c (encode_utf8_all rest)) refl (λ skip out. all_good cut skip (at + length (encode_utf8 c)) rest out) e
  where
    by : (r : Read (ℕ × ℕ)) → unit_at cut at c (encode_utf8_all rest) ≡ r → ((skip : ℕ) (out : List ℕ) → resolved cut skip (at + length (encode_utf8 c)) rest ≡ Ok out → list_all is_allowed out ≡ true)
        → with_unit r (λ skip. resolved cut skip (at + length (encode_utf8 c)) rest) ≡ Ok out → list_all is_allowed out ≡ true
    by (Ok u) is later h =
        let p = put_ok u.0 (resolved cut u.1 (at + length (encode_utf8 c)) rest) out h in
        let one = unit_good cut at c (encode_utf8_all rest) u is in
        let more = later u.1 p.0 p.1 in
        ap (list_all is_allowed) p.2 ∙ rw (one, more) refl
    by (Err d) is later h = absurd cc

-- ---- whole texts

allowed_scalar : (c : ℕ) → is_allowed c ≡ true → scalar c ≡ true
allowed_scalar c e = grind (arith, nat_tests)

all_scalar : (cs : List ℕ) → list_all is_allowed cs ≡ true → all_scalars cs ≡ true
all_scalar [] e = refl
all_scalar (c ∷ cs) e = let x = and_parts (is_allowed c) (list_all is_allowed cs) e in rw (allowed_scalar c x.0, all_scalar cs x.1) refl

plain_encoded : (cs : List ℕ) → list_all is_allowed cs ≡ true → IsPlainText (encode_utf8_all cs)
plain_encoded cs e =
    let valid = all_scalar cs e in
    record { utf8 = (cs, (valid, refl)); allowed = ap (list_all is_allowed) (chars-encodes cs valid) ∙ e }

-- what is known of a text that is read
pub record IsRead (text : List ℕ) : Type 0 where
  pub plain : IsPlainText text
  pub bytes : IsBytes text

resolved_read : (cut : Bool) (at : ℕ) (text out : List ℕ) → resolved_text cut at text ≡ Ok out → IsRead out
unfolding resolved_text
resolved_read cut at text out e =
    let a = read_ok (resolved cut 0 at (chars text)) _ out e in
    let same : encode_utf8_all a.0 ≡ out = cc (a.2) in
    subst IsRead same record {
      plain = plain_encoded a.0 (all_good cut 0 at (chars text) a.0 a.1);
      bytes = characters_are_bytes (record { cut = cut; place = at; rest = text }) a.0 a.1;
    }

run_read : (ended : Bool) (at : ℕ) (run out : List ℕ) → run_text ended at run ≡ Ok out → IsRead out
unfolding run_text
run_read ended at run out e = by (utf8_valid_len run == length run) e
  where
    by : (b : Bool) → cond b (resolved_text ended at run) (resolved_text false at (take (utf8_valid_len run) run) >>= λ _. syntax_at (at + utf8_valid_len run)) ≡ Ok out → IsRead out
    by true h = resolved_read ended at run out h
    by false h = absurd (let a = read_ok (resolved_text false at (take (utf8_valid_len run) run)) _ out h in let bad = a.2 in cc)

-- a text that is read is UTF-8 and bytes, and has only allowed characters
pub text_read : (text : List ℕ) (at : ℕ) (v : List ℕ × ℕ) → text_at text at ≡ Ok v → IsRead v.0
unfolding text_at
text_read text at v e =
    let a = read_ok (run_text (text_end text at == length text) at (between text at (text_end text at))) _ v e in
    let same : (a.0, text_end text at) ≡ v = cc (a.2) in
    subst (λ (x : List ℕ × ℕ). IsRead x.0) same (run_read _ at _ a.0 a.1)

-- the empty text is a plain one
pub plain_nothing : IsPlainText []
plain_nothing = plain_encoded [] refl
