-- What a text in base64 stands for is bytes.
use Rattle.std.proofs.Common.{◌≡◌, ℕ, zero, suc, ◌+◌, ◌*◌, ◌/◌, ◌<◌, ◌≤◌, true, not, List, [], ◌∷◌, length, take, drop, get_or, Some, Ok, Err, refl, arith}
use Rattle.std.proofs.lemmas.List.{length-drop}
use Rattle.base64.specs.Decode.{decode_error, decode_group, groups_before_last, groups_error, groups_bytes, lone_error, no_leftover, scan_bytes, scan_last, suffix_bytes}
use Rattle.base64.specs.Engines.{standard}
use Rattle.base64.specs.GeneralPurpose.{IsBytes, decode_of}
use Rattle.base64.specs.Tables.{is_inverse}
use Rattle.base64.proofs.Canonical.{IsScanned-scan}
use Rattle.base64.proofs.EngineFacts.{decode_of_bytes}
use Rattle.base64.proofs.Tables.{are_tables_inverse, IsDecodeTable_from}
use Rattle.ltfs_documents.specs.DocFields.Space.{is_space}
use Rattle.ltfs_documents.specs.DocElements.Pieces.{from_base64, without_space}
use Rattle.ltfs_documents.proofs.DocElements.Base64Blocks.{dropped, groups, joined, neither, outcome, three}
use Rattle.ltfs_documents.proofs.DocElements.Base64Lemmas.{cons_bytes, decoded, kept_bytes}

none_bytes : IsBytes []
none_bytes i = omega arith

taken : (n : ℕ) (xs : List ℕ) → IsBytes xs → IsBytes (take n xs)
taken zero xs are = none_bytes
taken (suc n) [] are = none_bytes
taken (suc n) (x ∷ xs) are = cons_bytes x (take n xs) (are 0) (taken n xs (λ i. are (suc i)))

group_bytes : (n a b c d : ℕ) → a < 64 → b < 64 → c < 64 → d < 64 → IsBytes (take n (decode_group a b c d))
group_bytes n a b c d la lb lc ld = taken n _ (three _ _ _ (omega (arith, la, lb)) (omega (arith, lb, lc)) (omega (arith, lc, ld)))

zeros : (k : ℕ) → get_or (0 ∷ 0 ∷ 0 ∷ 0 ∷ []) k 0 < 64
zeros zero = omega arith
zeros (suc zero) = omega arith
zeros (suc (suc zero)) = omega arith
zeros (suc (suc (suc zero))) = omega arith
zeros (suc (suc (suc (suc k)))) = omega arith

-- the symbols behind the groups of four before the last
last_bytes : (enc dec s : List ℕ) (pad at : ℕ) → is_inverse enc dec ≡ true → IsBytes s → length s ≤ at + 4 → IsBytes (suffix_bytes dec pad at s)
last_bytes enc dec s pad at inverse are short =
    elim (scan_last dec pad at s) as (λ r. scan_last dec pad at s ≡ r → IsBytes (scan_bytes r)) [
      | Ok st ↦ λ e.
          let rest = drop at s in
          let few : length rest ≤ 4 = omega (arith, length-drop at s, short) in
          let held = (IsScanned-scan enc dec rest pad at rest no_leftover st 0 inverse (dropped at s are) few (omega arith) refl
          ((refl, refl, λ j lt. absurd (omega (arith, lt)), λ j low lt. absurd (omega (arith, lt))), (omega arith, omega arith, omega arith, zeros)) e).1 in
          group_bytes (st.morsels_count * 6 / 8) _ _ _ _ (held.3 0) (held.3 1) (held.3 2) (held.3 3)
      | Err d ↦ λ e. none_bytes
    ] refl

decoded_bytes : (s bs : List ℕ) → IsBytes s → decode_of standard s ≡ Ok bs → IsBytes bs
decoded_bytes s bs are e =
    let enc = standard.encode_table in
    let dec = standard.decode_table in
    let pad = standard.padding.value in
    let inverse = are_tables_inverse enc dec pad standard.tables in
    let front = groups_before_last (length s) in
    let error = outcome (decode_error dec pad standard.config.decode_allow_trailing_bits standard.config.decode_padding_mode s) _ bs e in
    let behind = neither (lone_error dec pad s) _ error in
    let none = neither (groups_error dec s front) _ behind.1 in
    let whole = groups dec s front (IsDecodeTable_from enc dec inverse) are none.0 in
    let last = last_bytes enc dec s pad (4 * front) inverse are (omega arith) in
    decode_of_bytes standard s bs (joined (groups_bytes dec s front) (suffix_bytes dec pad (4 * front) s) whole last) e

-- what a text in base64 stands for is bytes
pub base64_bytes : (text bs : List ℕ) → IsBytes text → from_base64 text ≡ Some bs → IsBytes bs
base64_bytes text bs are e = decoded_bytes (without_space text) bs (kept_bytes (λ b. not (is_space b)) text are) (decoded text bs e)
