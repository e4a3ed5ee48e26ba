-- Pairs of hexadecimal digits, a pair at a time.
use Rattle.std.proofs.Common.{◌≡◌, ℕ, ◌+◌, ◌*◌, ◌%◌, ◌<◌, ◌≤◌, List, [], ◌∷◌, ◌++◌, length, get_or, drop, sym, ap, ◌∙◌, refl, arith, Some, None, append-nil, append_assoc}
use Rattle.std.specs.Prelude.{Option, option_and_then}
use Rattle.std.specs.Option.{option_map}
use Rattle.std.proofs.lemmas.List.{drop_more, drop_all}
use Rattle.session_script.specs.Words.{hex_value, hex_bytes}

-- an odd count of hexadecimal digits spells no bytes
pub odd : (text : List ℕ) → length text % 2 ≡ 1 → hex_bytes text ≡ None
odd [] h = absurd (omega arith)
odd (d ∷ []) h = refl
odd (high ∷ low ∷ rest) h = ap (λ o. option_and_then (λ byte. option_map (λ bytes. byte ∷ bytes) o) (hex_value high low)) (odd rest (omega arith)) ∙ none_both (hex_value high low)
  where
    none_both : (o : Option ℕ) → option_and_then (λ byte. option_map (λ (bytes : List ℕ). byte ∷ bytes) None) o ≡ None
    none_both None = refl
    none_both (Some b) = refl

-- the rest of the text from a pair on
abbrev pub rest_of : List ℕ → List ℕ → Option (List ℕ)
rest_of front text = option_map (λ more. front ++ more) (hex_bytes text)

at_pair : (text : List ℕ) (k : ℕ) → 2 * k + 1 < length text → drop (2 * k) text ≡ get_or text (2 * k) 0 ∷ get_or text (2 * k + 1) 0 ∷ drop (2 * (k + 1)) text
at_pair text k lt =
    drop_more text (2 * k) 0 (omega arith) ∙ ap (λ r. get_or text (2 * k) 0 ∷ r) (drop_more text (2 * k + 1) 0 lt)
    ∙ ap (λ n. get_or text (2 * k) 0 ∷ get_or text (2 * k + 1) 0 ∷ drop n text) (let e : 2 * k + 1 + 1 ≡ 2 * (k + 1) = omega arith in e)

-- a pair of hexadecimal digits is taken as one byte more
pub pair_more : (text front : List ℕ) (k byte : ℕ) → 2 * k + 1 < length text → hex_value (get_or text (2 * k) 0) (get_or text (2 * k + 1) 0) ≡ Some byte
    → rest_of front (drop (2 * k) text) ≡ rest_of (front ++ byte ∷ []) (drop (2 * (k + 1)) text)
pair_more text front k byte lt is =
    ap (rest_of front) (at_pair text k lt)
    ∙ ap (λ o. option_map (λ more. front ++ more) (option_and_then (λ b. option_map (λ bytes. b ∷ bytes) (hex_bytes (drop (2 * (k + 1)) text))) o)) is
    ∙ pushed (hex_bytes (drop (2 * (k + 1)) text))
  where
    pushed : (o : Option (List ℕ)) → option_map (λ more. front ++ more) (option_map (λ bytes. byte ∷ bytes) o) ≡ option_map (λ more. (front ++ byte ∷ []) ++ more) o
    pushed None = refl
    pushed (Some bytes) = ap Some (sym (append_assoc front (byte ∷ []) bytes))

-- a pair that is not of hexadecimal digits makes the whole spell nothing
pub pair_wrong : (text front : List ℕ) (k : ℕ) → 2 * k + 1 < length text → hex_value (get_or text (2 * k) 0) (get_or text (2 * k + 1) 0) ≡ None → rest_of front (drop (2 * k) text) ≡ None
pair_wrong text front k lt is =
    ap (rest_of front) (at_pair text k lt)
    ∙ ap (λ o. option_map (λ more. front ++ more) (option_and_then (λ b. option_map (λ bytes. b ∷ bytes) (hex_bytes (drop (2 * (k + 1)) text))) o)) is

pairs_done : (text front : List ℕ) (k : ℕ) → length text ≤ 2 * k → rest_of front (drop (2 * k) text) ≡ Some front
pairs_done text front k le = ap (rest_of front) (drop_all (2 * k) text le) ∙ ap Some (append-nil front)
