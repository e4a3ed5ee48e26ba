use Rattle.std.proofs.Common.{arith, ◌≡◌, true, false, ◌<◌, ◌≤◌, ◌∙◌, sym, get_or}
use Rattle.tape_types.proofs.DigitLemmas.{ten_below_nine, all_digits, digit_bounds, digits_read, fits_more}
use Rattle.tape_types.proofs.times.number.Goals as goal

pub returns-then-not-is_ascii_digit-clause-none : goal.returns-then-not-is_ascii_digit-clause-none
returns-then-not-is_ascii_digit-clause-none c n e =
    let digit = all_digits c.args.text.now n c.loop-byte.byte-index c.loop-byte-test.true e in
    let bad : false ≡ true = c.if-not-is_ascii_digit.ensures.value ∙ digit in
    absurd (cc bad)

pub overflow_mul-value : goal.overflow_mul-value
overflow_mul-value c =
    let small = ten_below_nine c.loop-byte.byte-index (omega (arith, c.requires)) in omega arith

pub overflow_add-value : goal.overflow_add-value
overflow_add-value c =
    let small = ten_below_nine c.loop-byte.byte-index (omega (arith, c.requires)) in
    let byte = get_or c.args.text.now c.loop-byte.byte-index 0 in
    let digit : (48 ≤ byte) × (byte < 58) = digit_bounds byte (sym c.if-not-is_ascii_digit.ensures.value) in
    omega (arith, c.from.ensures)

pub loop-byte-preserved : goal.loop-byte-preserved
loop-byte-preserved c =
    let byte = get_or c.args.text.now c.loop-byte.byte-index 0 in
    let digit : (48 ≤ byte) × (byte < 58) = digit_bounds byte (sym c.if-not-is_ascii_digit.ensures.value) in
    record {
      read = digits_read c.args.text.now c.loop-byte.byte-index c.loop-byte.value c.from.result c.loop-byte-test.true (omega (arith, c.from.ensures)) (omega (arith, c.from.ensures)) c.loop-byte.invariant.read;
      fits = fits_more c.loop-byte.byte-index c.loop-byte.value c.from.result (omega (arith, c.from.ensures)) c.loop-byte.invariant.fits;
    }
