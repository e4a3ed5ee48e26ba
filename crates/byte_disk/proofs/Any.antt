-- Any bytes in a range of bytes are bytes.
use Rattle.std.proofs.Common.{ℕ, ◌^◌, ◌<◌, ◌≡◌, ⊎_elim, List, length, get_or, sym, subst}
use Rattle.std.proofs.lemmas.List.Elements.{All-from_get_or, All-get_or}
use Rattle.byte_disk.specs.Files.{AreBytes, IsAnyIn}

pub any_bytes : (at n : ℕ) (old new : List ℕ) → IsAnyIn at n old new → AreBytes old → AreBytes new
any_bytes at n old new any are = All-from_get_or (λ (b : ℕ). b < 2 ^ 8) new 0 (λ i lt. ⊎_elim
    (λ (byte : get_or new i 0 < 2 ^ 8). byte)
    (λ (same : (i < length old) × (get_or new i 0 ≡ get_or old i 0)).
    subst (λ (x : ℕ). x < 2 ^ 8) (sym same.1) (All-get_or (λ (b : ℕ). b < 2 ^ 8) old i 0 same.0 are))
    (any.each i lt))
