use Rattle.std.proofs.Common.{◌≡◌, ℕ, ◌+◌, ◌*◌, ◌^◌, ◌<◌, ◌≤◌, Ok, Err, arith, lit<}
use Rattle.std.proofs.lemmas.Grind.{common_steps}
use Rattle.std.proofs.lemmas.Bool.Decides.{nat_tests}
use Rattle.std.proofs.Math.Nat.{pow-le-pow_right}
use Rattle.ltfs_documents.specs.declared.doc_fields.errors.Why.TheVariants.{Syntax, Number}
use Rattle.ltfs_documents.specs.DocFields.Numbers.{number_of}

-- where no digit stands, no number is read
pub of_none : (at n : ℕ) → number_of at (n, at) ≡ Err (record { at = at; why = Syntax })
of_none at n = grind (arith, nat_tests)

-- more than 20 digits are no number that is read
pub of_long : (at n end : ℕ) → at + 20 < end → number_of at (n, end) ≡ Err (record { at = at; why = Number })
of_long at n end far = grind (arith, nat_tests)

-- a number of 2^64 or more is refused
pub of_large : (at n end : ℕ) → at < end → 2 ^ 64 ≤ n → number_of at (n, end) ≡ Err (record { at = at; why = Number })
of_large at n end some large = grind (arith, nat_tests)

-- 1 to 20 digits that show a number below 2^64 are read
pub of_good : (at n end : ℕ) → at < end → end ≤ at + 20 → n < 2 ^ 64 → number_of at (n, end) ≡ Ok (n, end)
of_good at n end some near small = grind (arith, nat_tests)

-- one digit more
digit_below : (k n d : ℕ) → n < 10 ^ k → d < 10 → n * 10 + d < 10 ^ (k + 1)
digit_below k n d lt small = grind (arith, common_steps)

-- a number of up to 18 digits is below the least of 19
pub nineteen : (k n : ℕ) → n < 10 ^ k → k ≤ 18 → n < 10 ^ 18
nineteen k n lt le =
    let p : 10 ^ k ≤ 10 ^ 18 = pow-le-pow_right (lit< tt) le in
    omega arith
