use Rattle.std.proofs.Common.{rules, not, ◌==◌}
use Rattle.std.proofs.lemmas.Fn.{filter_same}
use Rattle.waiting_reads.proofs.readings.keep_others.Goals as goal

pub returns-clause-left : goal.returns-clause-left
returns-clause-left c = filter_same _ (λ kept. not (kept.0 == c.args.ticket)) _ (λ x b f' k. search rules) _ _ c.retain.ensures.filtered
