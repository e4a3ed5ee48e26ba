use Rattle.std.proofs.Common.{ℕ, ap, sym, ◌∙◌}
use Rattle.held_volume.proofs.CloseLemmas.{both_told, ip_told, none_told}
use Rattle.held_volume.proofs.closings.closing_texts.Goals as goal

pub returns-then-is_due_on_dp-clause-texts : goal.returns-then-is_due_on_dp-clause-texts
returns-then-is_due_on_dp-clause-texts c tape g on st i =
    both_told c.args.tree.now c.args.layout.now c.args.frame.now c.args.at tape g on st i c.ends-end_ip.result.0 c.ends-end_ip.result.1 c.in_ok-dp.dp.items c.in_ok-ip.ip.items
    (sym c.is_due_on_dp.ensures ∙ c.if-is_due_on_dp.true) (ap (λ (p : ℕ × ℕ). p.0) c.ends-end_ip.ensures.ends) (ap (λ (p : ℕ × ℕ). p.1) c.ends-end_ip.ensures.ends)
    ((c.in_ok-dp.ensures {u = tt}).text) ((c.in_ok-ip.ensures {u = tt}).text)

pub returns-then-frame-clause-texts : goal.returns-then-frame-clause-texts
returns-then-frame-clause-texts c tape g on st i =
    none_told c.args.tree.now c.args.layout.now c.args.frame.now c.args.at tape g on st i (sym c.is_due_on_dp.ensures ∙ c.if-is_due_on_dp.false) c.if-frame.true

pub returns-clause-texts : goal.returns-clause-texts
returns-clause-texts c tape g on st i =
    ip_told c.args.tree.now c.args.layout.now c.args.frame.now c.args.at tape g on st i (sym c.is_due_on_dp.ensures ∙ c.if-is_due_on_dp.false) c.ends-end_ip.result.0 c.in_ok-ip-2.ip.items
    c.if-frame.false (ap (λ (p : ℕ × ℕ). p.0) c.ends-end_ip.ensures.ends) ((c.in_ok-ip-2.ensures {u = tt}).text)
