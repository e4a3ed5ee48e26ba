use Rattle.std.proofs.Common.{rules, not, ◌==◌}
use Rattle.std.proofs.lemmas.Fn.{filter_same}
use Rattle.event_journal.proofs.trails.forget_faults.Goals as goal

pub returns-clause-left : goal.returns-clause-left
returns-clause-left c = filter_same _ (λ k. not (k.who == c.args.who)) _ (λ x b f' k. search rules) _ _ c.retain.ensures.filtered
