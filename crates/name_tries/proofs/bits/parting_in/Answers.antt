use Rattle.std.proofs.Common.{◌≡◌, ℕ, ◌+◌, ◌-◌, ◌/◌, ◌^◌, ◌<◌, slice_get, sym, ◌∙◌, subst, arith, inl, inr}
use Rattle.std.proofs.lemmas.Bool.{cases_eq}
use Rattle.std.proofs.lemmas.Bool.Decides.{nat_tests}
use Rattle.name_tries.specs.Bits.{bit_of}
use Rattle.name_tries.proofs.BitLemmas.{in_bytes, bits_tell, same_above}
use Rattle.name_tries.proofs.bits.parting_in.Goals as goal

pub unreachable-requires : goal.unreachable-requires
unreachable-requires c =
    let one = c.args.one.now in
    let other = c.args.other.now in
    let byte = c.args.byte in
    let end = c.loop-within-test.false in
    c.requires (bits_tell (slice_get one byte) (slice_get other byte) (in_bytes one c.type_inv.one byte) (in_bytes other c.type_inv.other byte)
    (λ w nine. c.loop-within.invariant w (omega arith)))

pub returns-then-a-within-clause-apart : goal.returns-then-a-within-clause-apart
returns-then-a-within-clause-apart c = λ here.
    let w = c.loop-within.within in
    let upto : (v : ℕ) → v < w + 1 → bit_of c.args.one.now c.args.byte v ≡ bit_of c.args.other.now c.args.byte v =
    λ v lt. elim (cases_eq v w) [
      | inl e ↦ subst (λ (n : ℕ). bit_of c.args.one.now c.args.byte n ≡ bit_of c.args.other.now c.args.byte n) (sym e) here
      | inr apart ↦ c.loop-within.invariant v (omega arith)
    ] in
    let one = c.bits_at-a in
    let other = c.bits_at-b in
    let same : one.result / 2 ^ (8 - w) ≡ other.result / 2 ^ (8 - w) =
    same_above one.result other.result (w + 1) one.ensures.small other.ensures.small
    (λ v lt. one.ensures.bits v (omega arith) ∙ upto v lt ∙ sym (other.ensures.bits v (omega arith))) (8 - w) w (omega arith) (omega arith) in
    grind (arith, nat_tests, same, c.if-a-within.true)
