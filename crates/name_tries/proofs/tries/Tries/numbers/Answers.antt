use Rattle.std.proofs.Common.{◌≡◌, Result, List, ℕ, Option, Some, None, Ok, Err, IfOk, slice_get, sym, ap, ◌∙◌, subst}
use Rattle.name_tries.specs.Listing.{IsListed}
use Rattle.name_tries.specs.Tries.{Shows}
use Rattle.name_tries.specs.declared.forks.Branch.{Branch}
use Rattle.name_tries.specs.declared.forks.Fork.{Fork}
use Rattle.name_tries.proofs.ItemLemmas.{read_at}
use Rattle.name_tries.proofs.CallLemmas.{trie_at, no_trie}
use Rattle.name_tries.proofs.ListLemmas.{listed, none_listed}
use Rattle.name_tries.proofs.tries.Tries.numbers.Goals as goal

ok_then : {A E : Type 0} {P Q : A → Type 0} (r : Result A E) → ((x : A) → P x → Q x) → IfOk r P → IfOk r Q
ok_then (Ok x) to is = to x is
ok_then (Err e) to is = is

pub numbers_below-requires : goal.numbers_below-requires
numbers_below-requires c =
    let tries = c.args.self.now in
    let root_is : slice_get tries.roots.items c.args.dir ≡ Some (Some c.in-Some.root) =
    read_at tries.roots.items c.args.dir c.index.result.now c.requires.below c.index.ensures ∙ ap (λ (r : Option Branch). Some r) c.in-Some.is in
    let w = c.requires.are.1 in
    let t = trie_at tries c.requires.are.0 w c.args.dir c.in-Some.root root_is in
    (t.0, (w.tries c.args.dir t.0 t.1).once, subst (λ (l : List Fork). Shows l c.in-Some.root t.0) (sym c.deref.ensures.value) t.2.1)

pub returns-in-None : goal.returns-in-None
returns-in-None c = λ keys w.
    let tries = c.args.self.now in
    let root_is : slice_get tries.roots.items c.args.dir ≡ Some None =
    read_at tries.roots.items c.args.dir c.index.result.now c.requires.below c.index.ensures ∙ ap (λ (r : Option Branch). Some r) c.in-None.is in
    subst (λ (l : List ℕ). IsListed keys c.args.dir l) (sym c.new.ensures.items)
    (none_listed tries keys w c.args.dir (no_trie tries keys w c.args.dir root_is))

pub returns-in-Some : goal.returns-in-Some
returns-in-Some c =
    let tries = c.args.self.now in
    let root_is : slice_get tries.roots.items c.args.dir ≡ Some (Some c.in-Some.root) =
    read_at tries.roots.items c.args.dir c.index.result.now c.requires.below c.index.ensures ∙ ap (λ (r : Option Branch). Some r) c.in-Some.is in
    ok_then c.numbers_below.result (λ numbers told keys w.
    let t = trie_at tries keys w c.args.dir c.in-Some.root root_is in
    subst (λ (l : List ℕ). IsListed keys c.args.dir l)
    (sym (told t.0 (w.tries c.args.dir t.0 t.1).once (subst (λ (l : List Fork). Shows l c.in-Some.root t.0) (sym c.deref.ensures.value) t.2.1)))
    (listed tries keys w c.args.dir t.0 t.1)) c.numbers_below.ensures
