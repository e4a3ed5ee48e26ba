use Rattle.std.proofs.Common.{◌≡◌, ◌<◌, ◌≤◌, List, [], ℕ, false, nat_lt, Some, slice_get, sym, ◌∙◌, subst, arith}
use Rattle.std.specs.List.{slice_index_or}
use Rattle.std.proofs.lemmas.Bool.Decides.{nat_tests}
use Rattle.std.proofs.lemmas.Option.{slice_get_within}
use Rattle.name_tries.specs.Bits.{level}
use Rattle.name_tries.specs.declared.forks.Fork.{Fork}
use Rattle.name_tries.proofs.ItemLemmas.{read_at, some_same}
use Rattle.name_tries.proofs.LoopLemmas.{fork_there, from_there}
use Rattle.name_tries.proofs.forks.fork_before.Goals as goal

-- what is read at the place of a fork
read_is : (forks : List Fork) (f : ℕ) (k h : Fork) → slice_get forks f ≡ Some k → h ≡ slice_index_or forks f h → k ≡ h
read_is forks f k h there read = some_same k h (sym there ∙ read_at forks f h (slice_get_within forks f k there) read)

not_less : (a b : ℕ) → nat_lt a b ≡ false → b ≤ a
not_less a b is = grind (arith, nat_tests)

pub bounds-forks-place : goal.bounds-forks-place
bounds-forks-place c =
    let forks = c.args.forks.now in
    let k = fork_there forks [] c.requires.there.0 c.args.at c.in_ok-place.place c.requires.there.1 (sym c.inner.ensures ∙ c.in_ok-place.was) in
    slice_get_within forks c.in_ok-place.place k.0 k.1

pub is_before-requires-clause-fork : goal.is_before-requires-clause-fork
is_before-requires-clause-fork c =
    let forks = c.args.forks.now in
    let k = fork_there forks [] c.requires.there.0 c.args.at c.in_ok-place.place c.requires.there.1 (sym c.inner.ensures ∙ c.in_ok-place.was) in
    subst (λ (h : Fork). h.within < 9) (read_is forks c.in_ok-place.place k.0 c.index-forks-place.result k.1 c.index-forks-place.is) k.2

pub returns-then-is_before-clause-before : goal.returns-then-is_before-clause-before
returns-then-is_before-clause-before c = λ k there.
    let forks = c.args.forks.now in
    let same = read_is forks c.in_ok-place.place k c.index-forks-place.result there c.index-forks-place.is in
    let lt = c.is_before.ensures in
    let is = c.if-is_before.true in
    subst (λ (h : Fork). level h.byte h.within < level c.args.bit.byte c.args.bit.within) (sym same) (grind (arith, nat_tests))

pub returns-clause-none : goal.returns-clause-none
returns-clause-none c = λ s is.
    let forks = c.args.forks.now in
    let goes = sym c.inner.ensures ∙ c.in_ok-place.was in
    let k = fork_there forks [] s c.args.at c.in_ok-place.place is goes in
    let same = read_is forks c.in_ok-place.place k.0 c.index-forks-place.result k.1 c.index-forks-place.is in
    from_there forks s c.args.at c.in_ok-place.place k.0 (level c.args.bit.byte c.args.bit.within) is goes k.1
    (subst (λ (h : Fork). level c.args.bit.byte c.args.bit.within ≤ level h.byte h.within) (sym same)
    (not_less (level c.index-forks-place.result.byte c.index-forks-place.result.within) (level c.args.bit.byte c.args.bit.within)
    (sym c.is_before.ensures ∙ c.if-is_before.false)))
