-- A version and a reference are read where they are spelled, and nowhere else.
use Rattle.std.proofs.Common.{◌≡◌, ℕ, ◌+◌, ◌-◌, ◌*◌, ◌≤◌, Bool, true, false, eqb, cond, ◌==◌, ◌&&◌, List, [], ◌∷◌, ◌++◌, length, drop, codes, Option, Some, None, refl, sym, ap, ◌∙◌, append_assoc, length-append, arith, subst}
use Rattle.std.specs.List.{list_all}
use Rattle.std.proofs.lemmas.Bool.{and_parts}
use Rattle.std.proofs.lemmas.Bool.Decides.{nat_tests}
use Rattle.ltfs_documents.specs.DocFields.Numbers.{is_digit}
use Rattle.ltfs_documents.specs.DocFields.Reading.{begins}
use Rattle.ltfs_documents.specs.DocFields.StartTag.{is_version}
use Rattle.ltfs_documents.specs.DocFields.Values.{first_word}
use Rattle.ltfs_documents.specs.DocFields.Spelled.{IsVersion, value_of, IsReference, ampersand, less, greater, quote, apostrophe, in_decimal, in_hexadecimal, BeginsWithReference}
use Rattle.ltfs_documents.specs.DocFields.Texts.{and_then, digit_of, finished, is_allowed, named, numbered, reference}

-- ---- versions

front : (a b c d : ℕ) (patch : List ℕ) → a ≡ 50 → b ≡ 46 → 48 ≤ c → c ≤ 52 → d ≡ 46 → 1 ≤ length patch → length patch ≤ 3 → list_all is_digit patch ≡ true → IsVersion (a ∷ b ∷ c ∷ d ∷ patch)
front a b c d patch two point least most dot some few digits =
    let minor : c ≡ 48 + (c - 48) = omega arith in
    record { minor = c - 48; known = omega arith; patch = patch; some = some; few = few; digits = digits; is = ap (λ k. k ∷ b ∷ c ∷ d ∷ patch) two ∙ ap (λ k. 50 ∷ k ∷ c ∷ d ∷ patch) point ∙ ap (λ k. 50 ∷ 46 ∷ k ∷ d ∷ patch) minor ∙ ap (λ k. 50 ∷ 46 ∷ (48 + (c - 48)) ∷ k ∷ patch) dot }

-- a version that is accepted is spelled by the rules
pub version_spelled : (v : List ℕ) → is_version v ≡ true → IsVersion v
unfolding is_version
version_spelled [] e = absurd cc
version_spelled (a ∷ []) e = absurd cc
version_spelled (a ∷ b ∷ []) e = absurd cc
version_spelled (a ∷ b ∷ c ∷ []) e = absurd cc
version_spelled (a ∷ b ∷ c ∷ d ∷ []) e = absurd cc
version_spelled (a ∷ b ∷ c ∷ d ∷ x ∷ []) e = front a b c d (x ∷ []) (grind (arith, nat_tests)) (grind (arith, nat_tests)) (grind (arith, nat_tests)) (grind (arith, nat_tests)) (grind (arith, nat_tests)) (omega arith) (omega arith) (grind (arith, nat_tests))
version_spelled (a ∷ b ∷ c ∷ d ∷ x ∷ y ∷ []) e = front a b c d (x ∷ y ∷ []) (grind (arith, nat_tests)) (grind (arith, nat_tests)) (grind (arith, nat_tests)) (grind (arith, nat_tests)) (grind (arith, nat_tests)) (omega arith) (omega arith) (grind (arith, nat_tests))
version_spelled (a ∷ b ∷ c ∷ d ∷ x ∷ y ∷ z ∷ []) e = front a b c d (x ∷ y ∷ z ∷ []) (grind (arith, nat_tests)) (grind (arith, nat_tests)) (grind (arith, nat_tests)) (grind (arith, nat_tests)) (grind (arith, nat_tests)) (omega arith) (omega arith) (grind (arith, nat_tests))
version_spelled (a ∷ b ∷ c ∷ d ∷ x ∷ y ∷ z ∷ t ∷ more) e = absurd (grind (arith, nat_tests))

version_known : (minor : ℕ) (patch : List ℕ) → minor ≤ 4 → 1 ≤ length patch → length patch ≤ 3 → list_all is_digit patch ≡ true → is_version (50 ∷ 46 ∷ (48 + minor) ∷ 46 ∷ patch) ≡ true
unfolding is_version
version_known minor [] known some few digits = absurd (omega arith)
version_known minor (x ∷ []) known some few digits = grind (arith, nat_tests)
version_known minor (x ∷ y ∷ []) known some few digits = grind (arith, nat_tests)
version_known minor (x ∷ y ∷ z ∷ []) known some few digits = grind (arith, nat_tests)
version_known minor (x ∷ y ∷ z ∷ t ∷ more) known some few digits = absurd (omega arith)

-- a version that is spelled by the rules is accepted
pub version_read : (v : List ℕ) → IsVersion v → is_version v ≡ true
version_read v h = ap is_version h.is ∙ version_known h.minor h.patch h.known h.some h.few h.digits

-- ---- references

abbrev value : Option ℕ → ℕ
value None = 0
value (Some n) = n

abbrev pair : Option (ℕ × ℕ) → ℕ × ℕ
pair None = (0, 0)
pair (Some x) = x

not_end : (base b d : ℕ) → digit_of base b ≡ Some d → (b == 59) ≡ false
not_end base b d is = grind (arith, nat_tests)

not_x : (b d : ℕ) → digit_of 10 b ≡ Some d → (eqb 120 b && true) ≡ false
not_x b d is = grind (arith, nat_tests)

-- digits and a `;` are read as the number that they show
numbered_spelled : (base n k : ℕ) (digits rest : List ℕ) (c : ℕ) → value_of base n digits ≡ Some c → numbered base n k (digits ++ 59 ∷ rest) ≡ finished c (k + length digits + 1)
numbered_spelled base n k [] rest c e =
    let same : n ≡ c = ap value e in
    let there : k + 1 ≡ k + 0 + 1 = omega arith in
    ap (λ m. finished m (k + 1)) same ∙ ap (finished c) there
numbered_spelled base n k (b ∷ digits) rest c e =
    elim (digit_of base b) as (λ (o : Option ℕ). digit_of base b ≡ o → and_then o (λ d. value_of base (n * base + d) digits) ≡ Some c → numbered base n k (b ∷ digits ++ 59 ∷ rest) ≡ finished c (k + length (b ∷ digits) + 1)) [
      | None ↦ λ is x. absurd cc
      | Some d ↦ λ is x.
          let other = not_end base b d is in
          let there : k + 1 + length digits + 1 ≡ k + length (b ∷ digits) + 1 = omega arith in
          rw (other, is) (numbered_spelled base (n * base + d) (k + 1) digits rest c x ∙ ap (finished c) there)
    ] refl e

finished_ok : (c k : ℕ) → is_allowed c ≡ true → finished c k ≡ Some (c, k)
finished_ok c k ok = rw ok refl

first_not_x : (digits rest : List ℕ) (c : ℕ) → value_of 10 0 digits ≡ Some c → is_allowed c ≡ true → begins (codes "#x") (35 ∷ digits ++ 59 ∷ rest) ≡ false
first_not_x [] rest c e ok = refl
first_not_x (b ∷ digits) rest c e ok = by (digit_of 10 b) refl e
  where
    by : (o : Option ℕ) → digit_of 10 b ≡ o → and_then o (λ d. value_of 10 (0 * 10 + d) digits) ≡ Some c → (eqb 120 b && true) ≡ false
    by None is x = absurd cc
    by (Some d) is x = not_x b d is

decimal_read : (digits rest : List ℕ) (c : ℕ) → value_of 10 0 digits ≡ Some c → is_allowed c ≡ true → reference (35 ∷ digits ++ 59 ∷ rest) ≡ Some (c, length (35 ∷ digits ++ 59 ∷ []))
unfolding reference
decimal_read digits rest c e ok =
    let there : 1 + length digits + 1 ≡ length (35 ∷ digits ++ 59 ∷ []) = omega (arith, length-append digits (59 ∷ [])) in
    rw (first_not_x digits rest c e ok) (numbered_spelled 10 0 1 digits rest c e ∙ finished_ok c _ ok ∙ ap (λ m. Some (c, m)) there)

hexadecimal_read : (digits rest : List ℕ) (c : ℕ) → value_of 16 0 digits ≡ Some c → is_allowed c ≡ true → reference (35 ∷ 120 ∷ digits ++ 59 ∷ rest) ≡ Some (c, length (35 ∷ 120 ∷ digits ++ 59 ∷ []))
unfolding reference
hexadecimal_read digits rest c e ok =
    let there : 2 + length digits + 1 ≡ length (35 ∷ 120 ∷ digits ++ 59 ∷ []) = omega (arith, length-append digits (59 ∷ [])) in
    numbered_spelled 16 0 2 digits rest c e ∙ finished_ok c _ ok ∙ ap (λ m. Some (c, m)) there

-- a reference that is spelled is read as its character, whatever follows
pub reference_read : (word rest : List ℕ) (c : ℕ) → IsReference word c → reference (word ++ rest) ≡ Some (c, length word)
unfolding reference
reference_read word rest c ampersand = refl
reference_read word rest c less = refl
reference_read word rest c greater = refl
reference_read word rest c quote = refl
reference_read word rest c apostrophe = refl
reference_read word rest c (in_decimal digits e ok) = rw (append_assoc digits (59 ∷ []) rest) (decimal_read digits rest c e ok)
reference_read word rest c (in_hexadecimal digits e ok) = rw (append_assoc digits (59 ∷ []) rest) (hexadecimal_read digits rest c e ok)

-- ---- and nothing else is

pub record Digits (base n k : ℕ) (bytes : List ℕ) (c taken : ℕ) : Type 0 where
  pub digits : List ℕ
  pub behind : List ℕ
  pub splits : bytes ≡ digits ++ 59 ∷ behind
  pub shows : value_of base n digits ≡ Some c
  pub ok : is_allowed c ≡ true
  pub long : k + length digits + 1 ≡ taken

abbrev done : ℕ → ℕ → Option (ℕ × ℕ)
done n k = Some (n, k)

finished_only : (n k c taken : ℕ) → finished n k ≡ Some (c, taken) → (n ≡ c) × (is_allowed n ≡ true) × (k ≡ taken)
finished_only n k c taken e =
    elim (is_allowed n) as (λ (b : Bool). is_allowed n ≡ b → cond b (done n k) None ≡ done c taken → (n ≡ c) × (is_allowed n ≡ true) × (k ≡ taken)) [
      | true ↦ λ is x. (ap (λ o. (pair o).0) x, is, ap (λ o. (pair o).1) x)
      | false ↦ λ is x. absurd cc
    ] refl e

more_digits : (base n k b : ℕ) (bytes : List ℕ) (c taken : ℕ) → ((d : ℕ) → numbered base (n * base + d) (k + 1) bytes ≡ done c taken → Digits base (n * base + d) (k + 1) bytes c taken) → (o : Option ℕ) → digit_of base b ≡ o
    → and_then o (λ d. numbered base (n * base + d) (k + 1) bytes) ≡ done c taken → Digits base n k (b ∷ bytes) c taken
more_digits base n k b bytes c taken behind None is x = absurd cc
more_digits base n k b bytes c taken behind (Some d) is x =
    let r = behind d x in
    record { digits = b ∷ r.digits; behind = r.behind; splits = ap (λ s. b ∷ s) r.splits; shows = rw is r.shows; ok = r.ok; long = omega (arith, r.long) }

numbered_only : (base n k : ℕ) (bytes : List ℕ) (c taken : ℕ) → numbered base n k bytes ≡ Some (c, taken) → Digits base n k bytes c taken
numbered_only base n k [] c taken e = absurd cc
numbered_only base n k (b ∷ bytes) c taken e =
    elim (b == 59) as (λ (v : Bool). (b == 59) ≡ v → cond v (finished n (k + 1)) (and_then (digit_of base b) (λ d. numbered base (n * base + d) (k + 1) bytes)) ≡ done c taken → Digits base n k (b ∷ bytes) c taken) [
      | true ↦ λ is x.
          let whole = finished_only n (k + 1) c taken x in
          let end : b ≡ 59 = grind (arith, nat_tests) in
          record { digits = []; behind = bytes; splits = ap (λ s. s ∷ bytes) end; shows = ap Some whole.0; ok = rw (← whole.0) whole.1; long = omega (arith, whole.2) }
      | false ↦ λ is x. more_digits base n k b bytes c taken (λ d. numbered_only base (n * base + d) (k + 1) bytes c taken) (digit_of base b) refl x
    ] refl e

-- bytes that begin with a word are that word and the rest
pub begins_split : (word bytes : List ℕ) → begins word bytes ≡ true → bytes ≡ word ++ drop (length word) bytes
begins_split [] bytes e = refl
begins_split (w ∷ word) [] e = absurd cc
begins_split (w ∷ word) (b ∷ bytes) e =
    let both = and_parts _ _ e in
    let first : b ≡ w = let test = both.0 in grind (arith, nat_tests) in
    ap (λ k. k ∷ bytes) first ∙ ap (λ s. w ∷ s) (begins_split word bytes both.1)

-- a word is the first of a list, or one behind it is
first_step : (w : List ℕ) (m : ℕ) (words : List (List ℕ × ℕ)) (bytes : List ℕ) (c taken : ℕ) (P : Type 0) → first_word ((w, m) ∷ words) bytes ≡ done c taken → (bytes ≡ w ++ drop (length w) bytes → m ≡ c → length w ≡ taken → P) → (first_word words bytes ≡ done c taken → P) → P
first_step w m words bytes c taken P e here behind =
    elim (begins w bytes) as (λ (v : Bool). begins w bytes ≡ v → cond v (done m (length w)) (first_word words bytes) ≡ done c taken → P) [
      | true ↦ λ is x. here (begins_split w bytes is) (ap (λ o. (pair o).0) x) (ap (λ o. (pair o).1) x)
      | false ↦ λ is x. behind x
    ] refl e

named_only : (bytes : List ℕ) (c taken : ℕ) → first_word named bytes ≡ done c taken → BeginsWithReference bytes c taken
named_only bytes c taken e =
    let found : (word : List ℕ) (m : ℕ) → IsReference word m → bytes ≡ word ++ drop (length word) bytes → m ≡ c → length word ≡ taken → BeginsWithReference bytes c taken
    = λ word m is splits same long. record { word = word; behind = drop (length word) bytes; splits = splits; long = long; is = subst (IsReference word) same is } in
    let P = BeginsWithReference bytes c taken in
    first_step (codes "amp;") 38 ((codes "lt;", 60) ∷ (codes "gt;", 62) ∷ (codes "quot;", 34) ∷ (codes "apos;", 39) ∷ []) bytes c taken P e (found (codes "amp;") 38 ampersand) (λ e1.
    first_step (codes "lt;") 60 ((codes "gt;", 62) ∷ (codes "quot;", 34) ∷ (codes "apos;", 39) ∷ []) bytes c taken P e1 (found (codes "lt;") 60 less) (λ e2.
    first_step (codes "gt;") 62 ((codes "quot;", 34) ∷ (codes "apos;", 39) ∷ []) bytes c taken P e2 (found (codes "gt;") 62 greater) (λ e3.
    first_step (codes "quot;") 34 ((codes "apos;", 39) ∷ []) bytes c taken P e3 (found (codes "quot;") 34 quote) (λ e4.
    first_step (codes "apos;") 39 [] bytes c taken P e4 (found (codes "apos;") 39 apostrophe) (λ e5. absurd cc)))))

in_decimal_only : (bytes : List ℕ) (c taken : ℕ) → begins (codes "#") bytes ≡ true → numbered 10 0 1 (drop 1 bytes) ≡ done c taken → BeginsWithReference bytes c taken
in_decimal_only bytes c taken begun e =
    let d = numbered_only 10 0 1 (drop 1 bytes) c taken e in
    record {
      word = codes "#" ++ d.digits ++ codes ";";
      behind = d.behind;
      splits = begins_split (codes "#") bytes begun ∙ ap (λ s. 35 ∷ s) (d.splits ∙ sym (append_assoc d.digits (59 ∷ []) d.behind));
      long = omega (arith, d.long, length-append d.digits (59 ∷ []));
      is = in_decimal d.digits d.shows d.ok;
    }

in_hexadecimal_only : (bytes : List ℕ) (c taken : ℕ) → begins (codes "#x") bytes ≡ true → numbered 16 0 2 (drop 2 bytes) ≡ done c taken → BeginsWithReference bytes c taken
in_hexadecimal_only bytes c taken begun e =
    let d = numbered_only 16 0 2 (drop 2 bytes) c taken e in
    record {
      word = codes "#x" ++ d.digits ++ codes ";";
      behind = d.behind;
      splits = begins_split (codes "#x") bytes begun ∙ ap (λ s. 35 ∷ 120 ∷ s) (d.splits ∙ sym (append_assoc d.digits (59 ∷ []) d.behind));
      long = omega (arith, d.long, length-append d.digits (59 ∷ []));
      is = in_hexadecimal d.digits d.shows d.ok;
    }

-- bytes that are read as a reference begin with one that is spelled
pub reference_only : (bytes : List ℕ) (c taken : ℕ) → reference bytes ≡ Some (c, taken) → BeginsWithReference bytes c taken
unfolding reference
reference_only bytes c taken e =
    elim (begins (codes "#x") bytes) as (λ (v : Bool). begins (codes "#x") bytes ≡ v → cond v (numbered 16 0 2 (drop 2 bytes)) (cond (begins (codes "#") bytes) (numbered 10 0 1 (drop 1 bytes)) (first_word named bytes)) ≡ done c taken → BeginsWithReference bytes c taken) [
      | true ↦ λ is x. in_hexadecimal_only bytes c taken is x
      | false ↦ λ is x. elim (begins (codes "#") bytes) as (λ (v : Bool). begins (codes "#") bytes ≡ v → cond v (numbered 10 0 1 (drop 1 bytes)) (first_word named bytes) ≡ done c taken → BeginsWithReference bytes c taken) [
        | true ↦ λ is x. in_decimal_only bytes c taken is x
        | false ↦ λ is x. named_only bytes c taken x
      ] refl x
    ] refl e
