-- How many positions a volume needs.
use Rattle.std.proofs.Common.{ℕ, ◌*◌, ◌≤◌, ◌<◌, ◌^◌, arith}

-- a document in memory has no more than 2^52 blocks of 4,096 bytes
pub few : (n block count : ℕ) → 4096 ≤ block → n < 2 ^ 64 → ((m : ℕ) → n ≤ m * block → count ≤ m) → count ≤ 4503599627370496
few n block count some in_memory least = least 4503599627370496 (omega (arith, some, in_memory))
