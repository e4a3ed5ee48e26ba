-- The characters for which a text stands may stand in a document, and what they are written in are bytes.
use Rattle.std.proofs.Common.{◌≡◌, ℕ, zero, suc, ◌+◌, ◌*◌, ◌/◌, ◌%◌, ◌<◌, nat_lt, cond, subst, Bool, true, false, List, [], ◌∷◌, ◌++◌, Option, Some, None, Ok, Err, IfOk, IfSome, length, drop, get_or, codes, refl, ◌==◌, ◌&&◌, arith, if◌then◌else◌}
use Rattle.std.specs.Char.{encode_utf8}
use Rattle.std.specs.Str.{chars, encode_utf8_all}
use Rattle.std.specs.List.{list_all}
use Rattle.std.proofs.lemmas.Bool.Decides.{nat_tests}
use Rattle.std.proofs.lemmas.Bool.{and_from, and_parts}
use Rattle.ltfs_documents.specs.DocFields.Characters.{Left, characters}
use Rattle.ltfs_documents.specs.DocFields.Reading.{Read, begins, syntax_at}
use Rattle.ltfs_documents.specs.DocFields.Texts.{and_then, digit_of, finished, is_allowed, is_cut_reference, line_feeds, named, numbered, put_front, reference, referred, resolved, unit_at, with_unit}
use Rattle.ltfs_documents.specs.DocFields.Values.{first_word}

abbrev MayStand : ℕ × ℕ → Type 0
MayStand u = is_allowed u.0 ≡ true

finished_ok : (n k : ℕ) → IfSome (finished n k) MayStand
finished_ok n k = elim (is_allowed n) as (λ b. is_allowed n ≡ b → IfSome (if b then Some (n, k) else None) MayStand) [ true ↦ λ e. e | false ↦ λ e. tt ] refl

then_ok : (o : Option ℕ) (f : ℕ → Option (ℕ × ℕ)) → ((d : ℕ) → IfSome (f d) MayStand) → IfSome (and_then o f) MayStand
then_ok None f each = tt
then_ok (Some d) f each = each d

numbered_ok : (base n k : ℕ) (bytes : List ℕ) → IfSome (numbered base n k bytes) MayStand
numbered_ok base n k [] = tt
numbered_ok base n k (b ∷ rest) =
    elim (b == 59) as (λ t. IfSome (if t then finished n (k + 1) else and_then (digit_of base b) (λ d. numbered base (n * base + d) (k + 1) rest)) MayStand) [
      | true ↦ finished_ok n (k + 1)
      | false ↦ then_ok (digit_of base b) (λ d. numbered base (n * base + d) (k + 1) rest) (λ d. numbered_ok base (n * base + d) (k + 1) rest)
    ]

either : (b : Bool) (x y : Option (ℕ × ℕ)) → IfSome x MayStand → IfSome y MayStand → IfSome (if b then x else y) MayStand
either true x y first second = first
either false x y first second = second

-- a word of a table whose characters may all stand there
word_ok : (words : List (List ℕ × ℕ)) (rest : List ℕ) → list_all (λ w. is_allowed w.1) words ≡ true → IfSome (first_word words rest) MayStand
word_ok [] rest e = tt
word_ok (w ∷ words) rest e =
    let p = and_parts (is_allowed w.1) (list_all (λ w. is_allowed w.1) words) e in
    either (begins w.0 rest) (Some (w.1, length w.0)) (first_word words rest) p.0 (word_ok words rest p.1)

reference_ok : (rest : List ℕ) → IfSome (reference rest) MayStand
unfolding reference
reference_ok rest =
    either (begins (codes "#x") rest) (numbered 16 0 2 (drop 2 rest)) (if begins (codes "#") rest then numbered 10 0 1 (drop 1 rest) else first_word named rest) (numbered_ok 16 0 2 (drop 2 rest))
    (either (begins (codes "#") rest) (numbered 10 0 1 (drop 1 rest)) (first_word named rest) (numbered_ok 10 0 1 (drop 1 rest)) (word_ok named rest refl))

referred_ok : (cut : Bool) (at : ℕ) (rest : List ℕ) (o : Option (ℕ × ℕ)) → IfSome o MayStand → IfOk (referred cut at rest o) MayStand
referred_ok cut at rest (Some r) h = h
referred_ok cut at rest None h =
    elim (cut && is_cut_reference rest) as (λ b. IfOk (if b then syntax_at {A = ℕ × ℕ} (at + 1 + length rest) else syntax_at at) MayStand) [ true ↦ tt | false ↦ tt ]

unit_ok : (cut : Bool) (at c : ℕ) (rest : List ℕ) → IfOk (unit_at cut at c rest) MayStand
unit_ok cut at c rest =
    elim (c == 38) as (λ b. IfOk (if b then referred cut at rest (reference rest) else (if c == 13 then Ok (10, line_feeds rest) else (if is_allowed c then Ok (c, 0) else syntax_at at))) MayStand) [
      | true ↦ referred_ok cut at rest (reference rest) (reference_ok rest)
      | false ↦ elim (c == 13) as (λ b. IfOk (if b then Ok (10, line_feeds rest) else (if is_allowed c then Ok (c, 0) else syntax_at at)) MayStand) [
        | true ↦ refl
        | false ↦ elim (is_allowed c) as (λ b. is_allowed c ≡ b → IfOk (if b then Ok (c, 0) else syntax_at at) MayStand) [ true ↦ λ e. e | false ↦ λ e. tt ] refl
      ]
    ]

abbrev MayAll : List ℕ → Type 0
MayAll cs = list_all is_allowed cs ≡ true

front_ok : (c : ℕ) (r : Read (List ℕ)) → is_allowed c ≡ true → IfOk r MayAll → IfOk (put_front c r) MayAll
front_ok c (Ok cs) is h = and_from (is_allowed c) (list_all is_allowed cs) is h
front_ok c (Err e) is h = tt

with_ok : (r : Read (ℕ × ℕ)) (more : ℕ → Read (List ℕ)) → IfOk r MayStand → ((k : ℕ) → IfOk (more k) MayAll) → IfOk (with_unit r more) MayAll
with_ok (Ok u) more h each = front_ok u.0 (more u.1) h (each u.1)
with_ok (Err e) more h each = tt

resolved_ok : (cut : Bool) (skip at : ℕ) (cs : List ℕ) → IfOk (resolved cut skip at cs) MayAll
resolved_ok cut skip at [] = refl
resolved_ok cut (suc skip) at (c ∷ rest) = resolved_ok cut skip (at + length (encode_utf8 c)) rest
resolved_ok cut zero at (c ∷ rest) =
    with_ok (unit_at cut at c (encode_utf8_all rest)) (λ skip. resolved cut skip (at + length (encode_utf8 c)) rest) (unit_ok cut at c (encode_utf8_all rest))
    (λ skip. resolved_ok cut skip (at + length (encode_utf8 c)) rest)

-- ---- they are written in bytes

wider : (a : ℕ) (rest : List ℕ) → a < 256 → ((i : ℕ) → get_or rest i 0 < 256) → (i : ℕ) → get_or (a ∷ rest) i 0 < 256
wider a rest lt each zero = lt
wider a rest lt each (suc i) = each i

none_left : (i : ℕ) → get_or {A = ℕ} [] i 0 < 256
none_left i = omega arith

character_bytes : (c : ℕ) → c < 1114112 → (i : ℕ) → get_or (encode_utf8 c) i 0 < 256
unfolding encode_utf8
character_bytes c lt =
    elim (nat_lt c 128) as (λ b. nat_lt c 128 ≡ b → (i : ℕ) → get_or (cond b (c ∷ []) (cond (nat_lt c 2048) two (cond (nat_lt c 65536) three four))) i 0 < 256) [
      | true ↦ λ e. let small : c < 128 = grind (arith, nat_tests, e) in wider c [] (omega (arith, small)) none_left
      | false ↦ λ _. elim (nat_lt c 2048) as (λ b. nat_lt c 2048 ≡ b → (i : ℕ) → get_or (cond b two (cond (nat_lt c 65536) three four)) i 0 < 256) [
        | true ↦ λ e. let small : c < 2048 = grind (arith, nat_tests, e) in wider (192 + c / 64) ((128 + c % 64) ∷ []) (omega (arith, small)) last
        | false ↦ λ _. elim (nat_lt c 65536) as (λ b. nat_lt c 65536 ≡ b → (i : ℕ) → get_or (cond b three four) i 0 < 256) [
          | true ↦ λ e. let small : c < 65536 = grind (arith, nat_tests, e) in wider (224 + c / 4096) ((128 + c / 64 % 64) ∷ (128 + c % 64) ∷ []) (omega (arith, small)) last_two
          | false ↦ λ _. wider (240 + c / 262144) ((128 + c / 4096 % 64) ∷ (128 + c / 64 % 64) ∷ (128 + c % 64) ∷ []) (omega (arith, lt)) (wider (128 + c / 4096 % 64) ((128 + c / 64 % 64) ∷ (128 + c % 64) ∷ []) (omega arith) last_two)
        ] refl
      ] refl
    ] refl
  where
    two : List ℕ
    two = (192 + c / 64) ∷ (128 + c % 64) ∷ []

    three : List ℕ
    three = (224 + c / 4096) ∷ (128 + c / 64 % 64) ∷ (128 + c % 64) ∷ []

    four : List ℕ
    four = (240 + c / 262144) ∷ (128 + c / 4096 % 64) ∷ (128 + c / 64 % 64) ∷ (128 + c % 64) ∷ []

    last : (i : ℕ) → get_or ((128 + c % 64) ∷ []) i 0 < 256
    last = wider (128 + c % 64) [] (omega arith) none_left

    last_two : (i : ℕ) → get_or ((128 + c / 64 % 64) ∷ (128 + c % 64) ∷ []) i 0 < 256
    last_two = wider (128 + c / 64 % 64) ((128 + c % 64) ∷ []) (omega arith) last

joined_bytes : (a b : List ℕ) → ((i : ℕ) → get_or a i 0 < 256) → ((i : ℕ) → get_or b i 0 < 256) → (i : ℕ) → get_or (a ++ b) i 0 < 256
joined_bytes [] b first second i = second i
joined_bytes (x ∷ a) b first second zero = first 0
joined_bytes (x ∷ a) b first second (suc i) = joined_bytes a b (λ k. first (suc k)) second i

allowed_low : (c : ℕ) → is_allowed c ≡ true → c < 1114112
allowed_low c e = grind (arith, nat_tests, e)

all_bytes : (cs : List ℕ) → list_all is_allowed cs ≡ true → (i : ℕ) → get_or (encode_utf8_all cs) i 0 < 256
all_bytes [] e = none_left
all_bytes (c ∷ cs) e =
    let p = and_parts (is_allowed c) (list_all is_allowed cs) e in
    joined_bytes (encode_utf8 c) (encode_utf8_all cs) (character_bytes c (allowed_low c p.0)) (all_bytes cs p.1)

-- what the characters that are left of a text are written in is bytes
pub characters_are_bytes : (left : Left) (cs : List ℕ) → characters left ≡ Ok cs → (i : ℕ) → get_or (encode_utf8_all cs) i 0 < 256
characters_are_bytes left cs is =
    all_bytes cs (let all : IfOk (characters left) MayAll = resolved_ok left.cut 0 left.place (chars left.rest) in subst (λ (r : Read (List ℕ)). IfOk r MayAll) is all)
