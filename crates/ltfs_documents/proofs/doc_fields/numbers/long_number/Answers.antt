use Rattle.std.proofs.Common.{◌≡◌, ◌+◌, ◌-◌, ◌*◌, drop, get_or, sym, ◌∙◌, arith}
use Rattle.ltfs_documents.specs.DocFields.Numbers.{digits, number_at}
use Rattle.ltfs_documents.proofs.DocFields.Runs.{digits_more, digits_stop, digits_end, digits_after}
use Rattle.ltfs_documents.proofs.DocFields.NumberLemmas.{of_long, of_large, of_good}
use Rattle.ltfs_documents.proofs.doc_fields.numbers.long_number.Goals as goal
use Rattle.ltfs_documents.proofs.doc_fields.numbers.long_number.Goals.{else-last-text-via-then-last-text+else-is_digit, else-last-text-via-else-last-text}

pub returns-then-is_digit-clause-value : goal.returns-then-is_digit-clause-value
unfolding number_at
returns-then-is_digit-clause-value c =
    let text = c.args.text.now in
    let i = c.args.last in
    let n = c.args.number * 10 + (get_or text i 0 - 48) in
    let m = n * 10 + (get_or text (i + 1) 0 - 48) in
    let one = digits_more c.args.number text i c.requires.room c.requires.digit in
    let two = digits_more n text (i + 1) c.if-last-text.true (sym c.is_digit.ensures ∙ c.if-is_digit.true) in
    let all = sym c.requires.so_far ∙ one ∙ two in
    let far = digits_after m (i + 1 + 1) (drop (i + 1 + 1) text) in
    rw all (sym (of_long c.args.at (digits m (i + 1 + 1) (drop (i + 1 + 1) text)).0 (digits m (i + 1 + 1) (drop (i + 1 + 1) text)).1 (omega (arith, far))))

pub returns-then-wide-clause-value : goal.returns-then-wide-clause-value
unfolding number_at
returns-then-wide-clause-value c =
    let text = c.args.text.now in
    let i = c.args.last in
    let n = c.args.number * 10 + (get_or text i 0 - 48) in
    let one = digits_more c.args.number text i c.requires.room c.requires.digit in
    let two : digits n (i + 1) (drop (i + 1) text) ≡ (n, i + 1) = elim c.else-last-text.branch [
      | else-last-text-via-then-last-text+else-is_digit w ↦ digits_stop n text (i + 1) w.if-last-text.true (sym w.is_digit.ensures ∙ w.if-is_digit.false)
      | else-last-text-via-else-last-text w ↦ digits_end n text (i + 1) w.if-last-text.false
    ] in
    let all = sym c.requires.so_far ∙ one ∙ two in
    rw all (sym (of_large c.args.at n (i + 1) (omega arith) (omega arith)))

pub returns-clause-value : goal.returns-clause-value
unfolding number_at
returns-clause-value c =
    let text = c.args.text.now in
    let i = c.args.last in
    let n = c.args.number * 10 + (get_or text i 0 - 48) in
    let one = digits_more c.args.number text i c.requires.room c.requires.digit in
    let two : digits n (i + 1) (drop (i + 1) text) ≡ (n, i + 1) = elim c.else-last-text.branch [
      | else-last-text-via-then-last-text+else-is_digit w ↦ digits_stop n text (i + 1) w.if-last-text.true (sym w.is_digit.ensures ∙ w.if-is_digit.false)
      | else-last-text-via-else-last-text w ↦ digits_end n text (i + 1) w.if-last-text.false
    ] in
    let all = sym c.requires.so_far ∙ one ∙ two in
    rw all (sym (of_good c.args.at n (i + 1) (omega arith) (omega arith) (omega arith)))
