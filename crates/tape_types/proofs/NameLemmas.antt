-- Names of plain characters have no fault.
use Rattle.std.proofs.Common.{◌≡◌, ◌==◌, ◌≤◌, ◌<◌, ℕ, true, false, nat_lt, List, [], ◌∷◌, All, Some, None, length, refl, sym, subst, ◌∙◌, arith}
use Rattle.std.specs.List.{list_all, slice_get}
use Rattle.std.specs.Str.{chars}
use Rattle.std.proofs.lemmas.Bool.{ne_eqb}
use Rattle.std.proofs.lemmas.Bool.Decides.{nat_tests}
use Rattle.std.proofs.lemmas.List.Folds.{list_any_none}
use Rattle.std.proofs.lemmas.List.Sums.{AllPass-from_list_all}
use Rattle.std.proofs.lemmas.Str.{chars-IsAscii}
use Rattle.std.proofs.lemmas.Str.Ascii.{IsAscii-from_all}
use Rattle.unicode_normalization.specs.Forms.{Form, is_nfc}
use Rattle.unicode_normalization.proofs.FormsLemmas.{normalize-ascii, is_in_form_from}
use Rattle.tape_types.specs.Bounds.{longest_name}
use Rattle.tape_types.specs.Names.{has_byte, is_plain, name_fault}

-- A plain character is none of those that are looked for.
record IsPlain (b : ℕ) : Type 0 where
  ascii : b < 128
  no_slash : (b == 47) ≡ false
  no_nul : (b == 0) ≡ false

plain : (b : ℕ) → is_plain b ≡ true → IsPlain b
plain b h = record { ascii = grind (arith, nat_tests); no_slash = grind (arith, nat_tests); no_nul = grind (arith, nat_tests) }

all_plain : (name : List ℕ) → list_all is_plain name ≡ true → All IsPlain name
all_plain name all = λ k d lt. plain _ (AllPass-from_list_all is_plain name all k d lt)

-- a name of plain characters, not too long and without a point in front, has no fault
pub common : (name : List ℕ) (first : ℕ) → slice_get name 0 ≡ Some first → (first ≡ 46 → ⊥) → length name ≤ longest_name → list_all is_plain name ≡ true → name_fault name ≡ None
common [] first is other short all = absurd cc
common (b ∷ rest) first is other short all =
    let name : List ℕ = b ∷ rest in
    let each = all_plain name all in
    let ascii : All (λ c. c < 128) name = λ k d lt. (each k d lt).ascii in
    let same : chars name ≡ name = chars-IsAscii name (IsAscii-from_all name ascii) in
    let some : (length name == 0) ≡ false = grind (arith, nat_tests) in
    let few : nat_lt longest_name (length (chars name)) ≡ false = subst (λ (cs : List ℕ). nat_lt longest_name (length cs) ≡ false) (sym same) (grind (arith, nat_tests)) in
    let slash : has_byte 47 name ≡ false = list_any_none (λ x. x == 47) name (λ k d lt. (each k d lt).no_slash) in
    let nul : has_byte 0 name ≡ false = list_any_none (λ x. x == 0) name (λ k d lt. (each k d lt).no_nul) in
    let begins : first ≡ b = cc in
    let no_dot : (b == 46) ≡ false = ne_eqb b 46 (λ e. other (begins ∙ e)) in
    let normal : is_nfc (chars name) ≡ true = subst (λ (cs : List ℕ). is_nfc cs ≡ true) (sym same) (is_in_form_from Form.Nfc name (normalize-ascii Form.Nfc name ascii)) in
    rw (some, few, slash, nul, no_dot, normal) refl
