-- Texts are bytes that are UTF-8.
use Rattle.std.proofs.Common.{◌≡◌, ℕ, Bool, true, false, cond, List, sym, ap, ◌∙◌, refl, subst, Some, None}
use Rattle.std.specs.Str.{IsUtf8, is_utf8}
use Rattle.std.proofs.lemmas.Str.{IsUtf8-from_is_utf8, is_utf8-from_IsUtf8}
use Rattle.session_script.specs.Words.{text_of}

-- bytes that are UTF-8 are a text
pub text_of-IsUtf8 : (text bytes : List ℕ) → text ≡ bytes → IsUtf8 text → Some text ≡ text_of bytes
text_of-IsUtf8 text bytes same valid =
    let P : List ℕ → Type 0 = IsUtf8 in
    ap Some same ∙ sym (ap (λ b. cond b (Some bytes) None) (is_utf8-from_IsUtf8 bytes (subst P same valid)))

-- bytes that are not UTF-8 are no text
pub text_of-fault : (bytes : List ℕ) → (IsUtf8 bytes → ⊥) → None ≡ text_of bytes
text_of-fault bytes bad = at (is_utf8 bytes) refl
  where
    at : (b : Bool) → is_utf8 bytes ≡ b → None ≡ cond b (Some bytes) None
    at true is = absurd (bad (IsUtf8-from_is_utf8 bytes is))
    at false is = refl
