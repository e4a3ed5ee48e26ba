use Rattle.std.proofs.Common.{ℕ, ◌+◌, ◌-◌, ◌/◌, ◌%◌, ◌^◌, ◌<◌, ◌≤◌, ◌==◌, Option, length, sym, ap, ◌∙◌, refl, arith}
use Rattle.std.proofs.lemmas.Option.{slice_get_read, slice_get_past}
use Rattle.std.proofs.lemmas.Bool.Decides.{nat_tests}
use Rattle.name_tries.specs.Bits.{bit_in}
use Rattle.name_tries.proofs.BitLemmas.{in_bytes, shifted_bit, none_bit}
use Rattle.name_tries.proofs.bits.bits_at.Goals as goal

pub returns-in-Some-clause-bits : goal.returns-in-Some-clause-bits
returns-in-Some-clause-bits c = λ w nine.
    let name = c.args.name.now in
    let byte = c.in-Some.at.now in
    let inside : c.args.byte < length name = grind (arith, nat_tests, c.in-Some.ensures.lookup.0) in
    let there = slice_get_read name (length name) c.args.byte byte refl inside c.in-Some.ensures.lookup.1 in
    ap (λ (n : ℕ). (256 + n) / 2 ^ (8 - w) % 2 == 1) c.from.ensures
    ∙ shifted_bit byte w (in_bytes name c.type_inv.name c.args.byte byte there) nine
    ∙ ap (λ (o : Option ℕ). bit_in o w) (sym there)

pub returns-in-None-clause-bits : goal.returns-in-None-clause-bits
returns-in-None-clause-bits c = λ w nine.
    let past : length c.args.name.now ≤ c.args.byte = grind (arith, nat_tests, c.in-None.ensures.lookup.0) in
    none_bit w ∙ ap (λ (o : Option ℕ). bit_in o w) (sym (slice_get_past c.args.name.now c.args.byte past))
