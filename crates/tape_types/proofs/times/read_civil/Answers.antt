use Rattle.std.proofs.Common.{arith, ◌≡◌, true, false, ◌∙◌, sym, length}
use Rattle.std.specs.List.{slice_range}
use Rattle.tape_types.proofs.TextLemmas.{parts_of, text_of, digits_of, no_digits, length-part}
use Rattle.tape_types.proofs.times.read_civil.Goals as goal

pub returns-then-text-ne30-clause-none : goal.returns-then-text-ne30-clause-none
returns-then-text-ne30-clause-none c civil e =
    let long = (parts_of c.args.text.now civil e).long in
    absurd (c.if-text-ne30.true long)

pub returns-then-not-has_marks-clause-none : goal.returns-then-not-has_marks-clause-none
returns-then-not-has_marks-clause-none c civil e =
    let bad : false ≡ true = c.if-not-has_marks.ensures ∙ (parts_of c.args.text.now civil e).marks in
    absurd (cc bad)

pub returns-in_err-number-clause-none : goal.returns-in_err-number-clause-none
returns-in_err-number-clause-none c =
    rw c.from_residual.ensures
    (λ civil e. no_digits (slice_range c.args.text.now 0 4) 4 civil.year c.in_err-number.ensures.none (parts_of c.args.text.now civil e).year)

pub returns-in_err-number-2-clause-none : goal.returns-in_err-number-2-clause-none
returns-in_err-number-2-clause-none c =
    rw c.from_residual-in_err-number-2.ensures
    (λ civil e. no_digits (slice_range c.args.text.now 5 7) 2 civil.month c.in_err-number-2.ensures.none (parts_of c.args.text.now civil e).month)

pub returns-in_err-number-3-clause-none : goal.returns-in_err-number-3-clause-none
returns-in_err-number-3-clause-none c =
    rw c.from_residual-in_err-number-3.ensures
    (λ civil e. no_digits (slice_range c.args.text.now 8 10) 2 civil.day c.in_err-number-3.ensures.none (parts_of c.args.text.now civil e).day)

pub returns-in_err-number-4-clause-none : goal.returns-in_err-number-4-clause-none
returns-in_err-number-4-clause-none c =
    rw c.from_residual-in_err-number-4.ensures
    (λ civil e. no_digits (slice_range c.args.text.now 11 13) 2 civil.hour c.in_err-number-4.ensures.none (parts_of c.args.text.now civil e).hour)

pub returns-in_err-number-5-clause-none : goal.returns-in_err-number-5-clause-none
returns-in_err-number-5-clause-none c =
    rw c.from_residual-in_err-number-5.ensures
    (λ civil e. no_digits (slice_range c.args.text.now 14 16) 2 civil.minute c.in_err-number-5.ensures.none (parts_of c.args.text.now civil e).minute)

pub returns-in_err-number-6-clause-none : goal.returns-in_err-number-6-clause-none
returns-in_err-number-6-clause-none c =
    rw c.from_residual-in_err-number-6.ensures
    (λ civil e. no_digits (slice_range c.args.text.now 17 19) 2 civil.second c.in_err-number-6.ensures.none (parts_of c.args.text.now civil e).second)

pub returns-in_err-number-7-clause-none : goal.returns-in_err-number-7-clause-none
returns-in_err-number-7-clause-none c =
    rw c.from_residual-in_err-number-7.ensures
    (λ civil e. no_digits (slice_range c.args.text.now 20 29) 9 civil.nanos c.in_err-number-7.ensures.none (parts_of c.args.text.now civil e).nanos)

pub returns-clause-some : goal.returns-clause-some
returns-clause-some c =
    let text = c.args.text.now in
    let long : length text ≡ 30 = c.if-text-ne30.false in
    text_of text _ record {
      long = long;
      marks = sym c.if-not-has_marks.ensures;
      year = digits_of (slice_range text 0 4) 4 c.in_ok-number.field-0 (length-part text 0 4 long (omega arith) (omega arith)) c.in_ok-number.ensures.some;
      month = digits_of (slice_range text 5 7) 2 c.in_ok-number-2.field-0 (length-part text 5 7 long (omega arith) (omega arith)) c.in_ok-number-2.ensures.some;
      day = digits_of (slice_range text 8 10) 2 c.in_ok-number-3.field-0 (length-part text 8 10 long (omega arith) (omega arith)) c.in_ok-number-3.ensures.some;
      hour = digits_of (slice_range text 11 13) 2 c.in_ok-number-4.field-0 (length-part text 11 13 long (omega arith) (omega arith)) c.in_ok-number-4.ensures.some;
      minute = digits_of (slice_range text 14 16) 2 c.in_ok-number-5.field-0 (length-part text 14 16 long (omega arith) (omega arith)) c.in_ok-number-5.ensures.some;
      second = digits_of (slice_range text 17 19) 2 c.in_ok-number-6.field-0 (length-part text 17 19 long (omega arith) (omega arith)) c.in_ok-number-6.ensures.some;
      nanos = digits_of (slice_range text 20 29) 9 c.in_ok-number-7.field-0 (length-part text 20 29 long (omega arith) (omega arith)) c.in_ok-number-7.ensures.some;
    }
