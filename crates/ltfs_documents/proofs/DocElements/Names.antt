-- Whether bytes are UTF-8.
use Rattle.std.proofs.Common.{◌≡◌, ℕ, List, Bool, true, false, refl}
use Rattle.std.specs.Str.{IsUtf8, is_utf8}
use Rattle.std.proofs.lemmas.Str.{IsUtf8-from_is_utf8, is_utf8-from_IsUtf8}

-- bytes that are UTF-8 pass the test for it
pub utf8_is : (bs : List ℕ) → IsUtf8 bs → is_utf8 bs ≡ true
utf8_is bs h = is_utf8-from_IsUtf8 bs h

by_test : (bs : List ℕ) (b : Bool) → (IsUtf8 bs → ⊥) → is_utf8 bs ≡ b → is_utf8 bs ≡ false
by_test bs true h e = absurd (h (IsUtf8-from_is_utf8 bs e))
by_test bs false h e = e

-- bytes that aren't UTF-8 fail the test for it
pub utf8_none : (bs : List ℕ) → ¬ IsUtf8 bs → is_utf8 bs ≡ false
utf8_none bs h = by_test bs (is_utf8 bs) h refl
