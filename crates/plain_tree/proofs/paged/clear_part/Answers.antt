use Rattle.std.proofs.Common.{◌-◌, ap, ◌∙◌, replicate, drop, arith, rules}
use Rattle.std.proofs.lemmas.List.{length-take, length-drop}
use Rattle.plain_tree.proofs.PageLemmas.{cleared}
use Rattle.plain_tree.proofs.paged.clear_part.Goals as goal

pub returns-clause-tail : goal.returns-clause-tail
returns-clause-tail c k past =
    cleared c.args.page.now c.fill.new.self c.args.from (4096 - c.args.from) k (omega arith)
    (c.fill.ensures.after (λ y is. search rules) ∙ ap (λ n. replicate n 0) (omega (arith, length-take (4096 - c.args.from) (drop c.args.from c.args.page.now), length-drop c.args.from c.args.page.now))) past
