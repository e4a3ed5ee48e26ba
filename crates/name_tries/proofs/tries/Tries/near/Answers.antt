use Rattle.std.proofs.Common.{ap, ◌∙◌}
use Rattle.std.proofs.lemmas.Option.{IfSome_then}
use Rattle.name_tries.proofs.CallLemmas.{root_read, nearest_found, nearest_only, led_to}
use Rattle.name_tries.proofs.tries.Tries.near.Goals as goal

pub returns-clause-found : goal.returns-clause-found
returns-clause-found c = IfSome_then c.number_of.result c.number_of.ensures (λ n is keys w.
    let tries = c.args.self.now in
    let there = root_read tries c.args.dir c.index.result.now c.in_ok-root.root c.requires.below c.index.ensures c.in_ok-root.was in
    let t = led_to tries keys w c.args.dir c.args.name.now c.in_ok-root.root c.few_on.result c.deref.result.now n there c.deref.ensures.value
    c.few_on.ensures is in
    let found = nearest_found tries keys w c.args.dir t.0 c.args.name.now t.1 in
    (found.0, ap keys t.2 ∙ found.1))

pub returns-clause-only : goal.returns-clause-only
returns-clause-only c = IfSome_then c.number_of.result c.number_of.ensures (λ n is keys m w key.
    let tries = c.args.self.now in
    let there = root_read tries c.args.dir c.index.result.now c.in_ok-root.root c.requires.below c.index.ensures c.in_ok-root.was in
    let t = led_to tries keys w c.args.dir c.args.name.now c.in_ok-root.root c.few_on.result c.deref.result.now n there c.deref.ensures.value
    c.few_on.ensures is in
    t.2 ∙ nearest_only tries keys w c.args.dir t.0 c.args.name.now m t.1 key)
