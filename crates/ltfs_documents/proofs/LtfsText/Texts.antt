-- The text of a name stands for that name, and has no special character.
use Rattle.std.proofs.Common.{◌≡◌, ℕ, ◌+◌, ◌/◌, ◌%◌, ◌<◌, ltb, Bool, true, false, ◌||◌, cond, ◌==◌, List, [], ◌∷◌, ◌++◌, ap, IsUtf8, All, refl, sym, ◌∙◌, inl, inr, arith}
use Rattle.std.specs.Char.{is_ascii_control}
use Rattle.std.proofs.lemmas.Bool.{cond_both, and_parts, agree_below, agree_below_at}
use Rattle.std.proofs.lemmas.Bool.Decides.{nat_tests}
use Rattle.std.proofs.lemmas.List.Elements.{All-nil, All-cons, All-append}
use Rattle.std.proofs.lemmas.List.Folds.{list_any_none}
use Rattle.std.proofs.lemmas.Str.{chars-IsAscii}
use lib.Utf8.{scalar, scalars, encode, encodes, scalar_cases}
use Rattle.percent_encoding.specs.AsciiSet.{contains, should_percent_encode}
use Rattle.percent_encoding.specs.Percent.{percent_encode, percent_encode_byte}
use Rattle.percent_encoding.proofs.AsciiSetLemmas.{ascii_from_kept, outside_from_kept}
use Rattle.percent_encoding.proofs.PercentLemmas.{IsByte, IsEscapeByte, All-percent_encode, IsAscii-percent_encode, round_trip}
use Rattle.ltfs_documents.specs.declared.ltfs_text.names.TheConstants.{ESCAPED}
use Rattle.ltfs_documents.specs.LtfsText.Names.{IsTextOf, encoded, has_special, is_escaped, is_special, written}

one_char : (c : ℕ) → scalar c ≡ true → All IsByte (encode c)
unfolding encode
one_char c e =
    let below : c < 1114112 = elim (scalar_cases c e) [ inl low ↦ omega (arith, low) | inr high ↦ high.1 ] in
    let last = 128 + c % 64 in
    let middle = 128 + c / 64 % 64 in
    let early = 128 + c / 4096 % 64 in
    cond_both (ltb c 128) (c ∷ []) (cond (ltb c 2048) ((192 + c / 64) ∷ last ∷ []) (cond (ltb c 65536) ((224 + c / 4096) ∷ middle ∷ last ∷ []) ((240 + c / 262144) ∷ early ∷ middle ∷ last ∷ []))) (All IsByte)
    (λ one. All-cons IsByte c [] (grind (arith, nat_tests)) (All-nil IsByte))
    (λ more. cond_both (ltb c 2048) ((192 + c / 64) ∷ last ∷ []) (cond (ltb c 65536) ((224 + c / 4096) ∷ middle ∷ last ∷ []) ((240 + c / 262144) ∷ early ∷ middle ∷ last ∷ [])) (All IsByte)
    (λ two. All-cons IsByte (192 + c / 64) (last ∷ []) (grind (arith, nat_tests)) (All-cons IsByte last [] (omega arith) (All-nil IsByte)))
    (λ longer. cond_both (ltb c 65536) ((224 + c / 4096) ∷ middle ∷ last ∷ []) ((240 + c / 262144) ∷ early ∷ middle ∷ last ∷ []) (All IsByte)
    (λ three. All-cons IsByte (224 + c / 4096) (middle ∷ last ∷ []) (grind (arith, nat_tests)) (ends middle last (omega arith) (omega arith)))
    (λ four. All-cons IsByte (240 + c / 262144) (early ∷ middle ∷ last ∷ []) (omega arith) (All-cons IsByte early (middle ∷ last ∷ []) (omega arith) (ends middle last (omega arith) (omega arith))))))
  where
    ends : (a b : ℕ) → a < 256 → b < 256 → All IsByte (a ∷ b ∷ [])
    ends a b ha hb = All-cons IsByte a (b ∷ []) ha (All-cons IsByte b [] hb (All-nil IsByte))

all_chars : (cs : List ℕ) → scalars cs ≡ true → All IsByte (encodes cs)
all_chars [] e = All-nil IsByte
all_chars (c ∷ cs) e =
    let p = and_parts _ _ e in
    All-append IsByte (encode c) (encodes cs) (one_char c p.0) (all_chars cs p.1)

-- a text's bytes are bytes
utf8_bytes : (name : List ℕ) → IsUtf8 name → All IsByte name
utf8_bytes name u = rw (← u.1.1) (all_chars u.0 u.1.0)

-- the bytes that are escaped are those of the set
escaped : agree_below (contains ESCAPED) (λ b. is_ascii_control b || (b == 37)) 128 ≡ true
escaped = refl

-- which ASCII bytes are escaped: the control characters and the percent sign
pub escaped_at : (b : ℕ) → b < 128 → contains ESCAPED b ≡ (is_ascii_control b || (b == 37))
escaped_at b ascii = agree_below_at (contains ESCAPED) (λ k. is_ascii_control k || (k == 37)) 128 b escaped ascii

-- the bytes that the encoder escapes are those that have to be
pub escapes : (b : ℕ) → should_percent_encode ESCAPED b ≡ is_escaped b
unfolding should_percent_encode
escapes b =
    elim (ltb b 128) as (λ (v : Bool). ltb b 128 ≡ v → should_percent_encode ESCAPED b ≡ is_escaped b) [
      | true ↦ λ e. let within = escaped_at b (grind (arith, nat_tests)) in rw within (grind (arith, nat_tests))
      | false ↦ λ e. grind (arith, nat_tests)
    ] refl

-- the encoder gives the form of a name that the definition says
pub encodes_as : (name : List ℕ) → percent_encode ESCAPED name ≡ encoded name
unfolding percent_encode
encodes_as [] = refl
encodes_as (b ∷ name) =
    ap (λ (v : Bool). cond v (percent_encode_byte b) (b ∷ []) ++ percent_encode ESCAPED name) (escapes b)
    ∙ ap (λ (s : List ℕ). cond (is_escaped b) (percent_encode_byte b) (b ∷ []) ++ s) (encodes_as name)

-- the text that is written of a name stands for that name
pub written_back : (name : List ℕ) → IsUtf8 name → IsTextOf (written name).percent (written name).text name
written_back name u =
    elim (has_special name) as (λ b. has_special name ≡ b → IsTextOf (written name).percent (written name).text name) [
      | true ↦ λ e. rw (e, ← encodes_as name) record { bytes = round_trip ESCAPED name refl (utf8_bytes name u); utf8 = u }
      | false ↦ λ e. rw e record { bytes = refl; utf8 = u }
    ] refl

kept_plain : (b : ℕ) → should_percent_encode ESCAPED b ≡ false → is_special b ≡ false
kept_plain b kept =
    let ascii = ascii_from_kept ESCAPED b kept in
    let outside : (is_ascii_control b || (b == 37)) ≡ false = sym (escaped_at b ascii) ∙ outside_from_kept ESCAPED b kept in
    grind (arith, nat_tests)

digit_plain : (b : ℕ) → IsEscapeByte b → is_special b ≡ false
digit_plain b h = grind (arith, nat_tests)

encoded_plain : (name : List ℕ) → has_special (percent_encode ESCAPED name) ≡ false
encoded_plain name =
    rw (chars-IsAscii _ (IsAscii-percent_encode ESCAPED name))
    (list_any_none is_special _ (All-percent_encode (λ b. is_special b ≡ false) ESCAPED name kept_plain digit_plain))

-- the text that is written of a name has no special character
pub written_plain : (name : List ℕ) → has_special (written name).text ≡ false
written_plain name =
    elim (has_special name) as (λ b. has_special name ≡ b → has_special (written name).text ≡ false) [
      | true ↦ λ e. rw (e, ← encodes_as name) (encoded_plain name)
      | false ↦ λ e. rw e e
    ] refl
