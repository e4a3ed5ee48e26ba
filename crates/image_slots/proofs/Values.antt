-- A value is its serial number and the rest.
use Rattle.std.proofs.Common.{ℕ, ◌+◌, ◌<◌, ◌≡◌, ◌^◌, ◌∙◌, List, ◌++◌, take, drop, length, replicate, ap}
use Rattle.std.specs.Int.{w64, to_be_bytes}
use Rattle.std.proofs.lemmas.List.{append-nil}
use Rattle.std.proofs.lemmas.Nat.{from_be_bytes-to_be_bytes_8}
use Rattle.image_slots.specs.Slots.{serial_of}

-- a field of a value filled with bytes
abbrev pub put_field : ℕ → List ℕ → List ℕ → List ℕ
put_field at field old = take at old ++ field ++ drop (at + length field) old

-- a value is its serial number in eight bytes and the rest
pub value_made : (n : ℕ) (rest v w : List ℕ) → length rest ≡ 247 → v ≡ put_field 0 (to_be_bytes w64 n) (replicate 255 0) → w ≡ put_field 8 rest v
    → w ≡ to_be_bytes w64 n ++ rest
value_made n rest v w long first second =
    second ∙ ap (put_field 8 rest) first
    ∙ ap (λ (k : ℕ). to_be_bytes w64 n ++ rest ++ drop (8 + k) (to_be_bytes w64 n ++ replicate 247 0)) long
    ∙ append-nil (to_be_bytes w64 n ++ rest)

-- the serial number of a value that is written is read again
pub serial_back : (n : ℕ) (rest : List ℕ) → n < 2 ^ 64 → serial_of (to_be_bytes w64 n ++ rest) ≡ n
serial_back n rest fits = from_be_bytes-to_be_bytes_8 n fits
