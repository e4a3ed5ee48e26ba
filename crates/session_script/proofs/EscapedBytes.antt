-- The set of the code is the one of the definition.
use Rattle.std.proofs.Common.{◌≡◌, ℕ, ◌≤◌, Bool, true, false, List, [], ◌∷◌, ◌++◌, nat_le, if◌then◌else◌, ap, ◌∙◌, refl, arith}
use Rattle.std.specs.List.{flat_map}
use Rattle.std.proofs.lemmas.Bool.{agree_below, agree_below_at}
use Rattle.std.proofs.lemmas.Bool.Decides.{nat_tests}
use Rattle.percent_encoding.specs.AsciiSet.{should_percent_encode}
use Rattle.percent_encoding.specs.Percent.{encode_byte, percent_encode, percent_encode_byte}
use Rattle.session_script.specs.Escapes.{escaped, escaped_byte, is_escaped}
use Rattle.session_script.specs.declared.escapes.TheConstants.{ESCAPED}

same_below : agree_below (should_percent_encode ESCAPED) is_escaped 128 ≡ true
unfolding should_percent_encode
same_below = refl

past_ascii : (b : ℕ) → 128 ≤ b → should_percent_encode ESCAPED b ≡ is_escaped b
unfolding should_percent_encode
past_ascii b past = grind (arith, nat_tests)

same_test : (b : ℕ) → should_percent_encode ESCAPED b ≡ is_escaped b
same_test b = elim (nat_le 128 b) as (λ t. nat_le 128 b ≡ t → should_percent_encode ESCAPED b ≡ is_escaped b) [
  | true ↦ λ is. past_ascii b (grind (arith, nat_tests))
  | false ↦ λ is. agree_below_at (should_percent_encode ESCAPED) is_escaped 128 b same_below (grind (arith, nat_tests))
] refl

same_byte : (b : ℕ) → encode_byte ESCAPED b ≡ escaped_byte b
unfolding percent_encode_byte
same_byte b = ap (λ (t : Bool). if t then percent_encode_byte b else b ∷ []) (same_test b)

same_bytes : (text : List ℕ) → flat_map (encode_byte ESCAPED) text ≡ flat_map escaped_byte text
same_bytes [] = refl
same_bytes (b ∷ text) = ap (λ x. x ++ flat_map (encode_byte ESCAPED) text) (same_byte b) ∙ ap (λ x. escaped_byte b ++ x) (same_bytes text)

-- the encoder's escapes of a text are those of the definition
pub same_escapes : (text : List ℕ) → percent_encode ESCAPED text ≡ escaped text
unfolding percent_encode escaped
same_escapes text = same_bytes text
