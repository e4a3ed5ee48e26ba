use Rattle.std.proofs.Common.{List, Some, ℕ, sym, ap, ◌∙◌, subst}
use Rattle.name_tries.specs.Tries.{IsAt}
use Rattle.name_tries.specs.declared.forks.Fork.{Fork}
use Rattle.name_tries.proofs.CallLemmas.{root_read, trie_at, nearest_found, nearest_only}
use Rattle.name_tries.proofs.tries.Tries.nearest.Goals as goal

pub returns-clause-found : goal.returns-clause-found
returns-clause-found c = λ keys w.
    let tries = c.args.self.now in
    let dir = c.args.dir in
    let root_is = root_read tries dir c.index.result.now c.in_ok-root.root c.requires.below c.index.ensures c.in_ok-root.was in
    let t = trie_at tries keys w dir c.in_ok-root.root root_is in
    let found = nearest_found tries keys w dir t.0 c.args.name.now t.1 in
    (found.0, ap keys (c.nearest.ensures.number t.0 (subst (λ (l : List Fork). IsAt l c.in_ok-root.root t.0) (sym c.deref.ensures.value) t.2)) ∙ found.1)

pub returns-clause-only : goal.returns-clause-only
returns-clause-only c = λ keys n w there.
    let tries = c.args.self.now in
    let dir = c.args.dir in
    let root_is = root_read tries dir c.index.result.now c.in_ok-root.root c.requires.below c.index.ensures c.in_ok-root.was in
    let t = trie_at tries keys w dir c.in_ok-root.root root_is in
    ap (λ (i : ℕ). Some i) (c.nearest.ensures.number t.0 (subst (λ (l : List Fork). IsAt l c.in_ok-root.root t.0) (sym c.deref.ensures.value) t.2)
    ∙ nearest_only tries keys w dir t.0 c.args.name.now n t.1 there)
