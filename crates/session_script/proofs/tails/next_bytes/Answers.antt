use Rattle.std.proofs.Common.{inr, [], ◌++◌, length, sym, ap, ◌∙◌}
use Rattle.std.proofs.lemmas.Bool.{eqb-true}
use Rattle.session_script.specs.LogLines.{end_text}
use Rattle.session_script.proofs.Fillings.{entry_next, end_next, end_none}
use Rattle.session_script.proofs.tails.next_bytes.Goals as goal

pub returns-in-len1-up-clause-same : goal.returns-in-len1-up-clause-same
returns-in-len1-up-clause-same c =
    let tail = c.args.tail in
    entry_next tail.hex.now tail.text.now c.as_bytes-text.result.now c.entry_front.result.now c.put.new.self (end_text tail.end) tail.entries.now c.entry-item.result
    (eqb-true (length tail.hex.now) 0 (sym c.is_empty.ensures ∙ c.if-not-is_empty.false))
    (eqb-true (length tail.text.now) 0 (sym c.is_empty-2.ensures ∙ c.if-not-is_empty-2.false))
    c.in-len1-up.len_at_least c.entry-item.is c.entry_front.ensures.text (c.as_bytes-text.ensures.value ∙ c.as_str.ensures)
    (c.put.ensures ∙ ap (λ s. s ++ c.entry_front.result.now) c.clear.ensures)

pub returns-clause-same : goal.returns-clause-same
returns-clause-same c =
    let tail = c.args.tail in
    end_next tail.hex.now tail.text.now tail.entries.now (end_text tail.end) c.put_end.new.short
    (eqb-true (length tail.hex.now) 0 (sym c.is_empty.ensures ∙ c.if-not-is_empty.false))
    (eqb-true (length tail.text.now) 0 (sym c.is_empty-2.ensures ∙ c.if-not-is_empty-2.false))
    c.in_default.len_below c.put_end.ensures.text

pub returns-clause-some : goal.returns-clause-some
returns-clause-some c =
    let tail = c.args.tail in
    inr (sym (end_none tail.hex.now tail.text.now tail.entries.now []
    (eqb-true (length tail.hex.now) 0 (sym c.is_empty.ensures ∙ c.if-not-is_empty.false))
    (eqb-true (length tail.text.now) 0 (sym c.is_empty-2.ensures ∙ c.if-not-is_empty-2.false))
    c.in_default.len_below))
