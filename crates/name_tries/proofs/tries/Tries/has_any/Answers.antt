use Rattle.std.proofs.Common.{◌≡◌, Option, Some, None, true, false, is_some, sym, ap, ◌∙◌, refl}
use Rattle.name_tries.specs.declared.forks.Branch.{Branch}
use Rattle.name_tries.proofs.ItemLemmas.{read_at}
use Rattle.name_tries.proofs.ListLemmas.{some_there, none_there}
use Rattle.name_tries.proofs.tries.Tries.has_any.Goals as goal

-- a root that is there leads somewhere
led : (o : Option Branch) → is_some o ≡ true → (at : Branch) × (o ≡ Some at)
led None is = let wrong : false ≡ true = is in cc
led (Some at) is = (at, refl)

ended : (o : Option Branch) → is_some o ≡ false → o ≡ None
ended None is = refl
ended (Some at) is = let wrong : true ≡ false = is in cc

pub returns-clause-some : goal.returns-clause-some
returns-clause-some c = λ yes keys w.
    let tries = c.args.self.now in
    let root_is = read_at tries.roots.items c.args.dir c.index.result.now c.requires c.index.ensures in
    let root = led c.index.result.now (sym c.is_some.ensures ∙ yes) in
    some_there tries keys w c.args.dir root.0 (root_is ∙ ap (λ (r : Option Branch). Some r) root.1)

pub returns-clause-none : goal.returns-clause-none
returns-clause-none c = λ no keys n name w is.
    let tries = c.args.self.now in
    let root_is = read_at tries.roots.items c.args.dir c.index.result.now c.requires c.index.ensures in
    none_there tries keys w c.args.dir (root_is ∙ ap (λ (r : Option Branch). Some r) (ended c.index.result.now (sym c.is_some.ensures ∙ no))) n name is
