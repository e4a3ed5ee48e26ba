use Rattle.std.proofs.Common.{List, ◌≡◌, [], ◌∷◌, ◌++◌, ◌<◌, ◌≤◌, ℕ, Some, length, slice_get, sym, ap, ◌∙◌, subst, arith, rules}
use Rattle.name_tries.specs.declared.forks.Fork.{Fork}
use Rattle.name_tries.specs.declared.tries.Tries.{Tries}
use Rattle.name_tries.specs.Keys.{Keys, AreTries, AreTriesIn}
use Rattle.name_tries.proofs.KeyLemmas.{room_more, number_more}
use Rattle.name_tries.proofs.tries.Tries.reserve_number.Goals as goal

pub returns-in_err-reserve_fork-clause-are : goal.returns-in_err-reserve_fork-clause-are
returns-in_err-reserve_fork-clause-are c = λ keys w.
    let old = c.args.self.now in
    room_more old.roots.items old.forks.items old.owned.items old.owners.items keys w c.reserve_fork.new.forks.items old.owners.items
    c.reserve_fork.ensures.kept c.reserve_fork.ensures.more (λ g m apart is. is) (omega arith)

-- with more room for forks and owners
roomy : (old : Tries) (n : ℕ) (next : List Fork) (owners : List ℕ) → n ≡ length old.owned.items
    → ((g : ℕ) (k : Fork) → slice_get old.forks.items g ≡ Some k → slice_get next g ≡ Some k) → length old.forks.items ≤ length next
    → ((g m : ℕ) → (g ≡ n → ⊥) → slice_get old.owners.items g ≡ Some m → slice_get owners g ≡ Some m) → length old.owners.items ≤ length owners
    → (keys : Keys) → AreTries old keys → AreTriesIn old.roots.items next old.owned.items owners keys
roomy old n next owners long kept more others longer keys w =
    room_more old.roots.items old.forks.items old.owned.items old.owners.items keys w next owners kept more
    (λ g m apart is. others g m (λ e. apart (e ∙ long)) is) longer

pub returns-in_err-reserve_owner-clause-are : goal.returns-in_err-reserve_owner-clause-are
returns-in_err-reserve_owner-clause-are c = λ keys w.
    let old = c.args.self.now in
    let long : c.len-number.result ≡ length old.owned.items = search rules in
    roomy old c.len-number.result c.reserve_fork.new.forks.items c.reserve_owner.new.owners.items long c.reserve_fork.ensures.kept
    c.reserve_fork.ensures.more c.reserve_owner.ensures.kept c.reserve_owner.ensures.more keys w

pub returns-in_err-push-clause-are : goal.returns-in_err-push-clause-are
returns-in_err-push-clause-are c = λ keys w.
    let old = c.args.self.now in
    let long : c.len-number.result ≡ length old.owned.items = search rules in
    let same : c.push.new.self.items ≡ old.owned.items = search rules in
    subst (λ l. AreTriesIn old.roots.items c.reserve_fork.new.forks.items l c.reserve_owner.new.owners.items keys) (sym same) (roomy old c.len-number.result c.reserve_fork.new.forks.items c.reserve_owner.new.owners.items long c.reserve_fork.ensures.kept
    c.reserve_fork.ensures.more c.reserve_owner.ensures.kept c.reserve_owner.ensures.more keys w)

pub returns-clause-are : goal.returns-clause-are
returns-clause-are c = λ keys w.
    let old = c.args.self.now in
    let long : c.len-number.result ≡ length old.owned.items = search rules in
    let pushed : c.push.new.self.items ≡ old.owned.items ++ c.len-number.result ∷ [] = search rules in
    let forks = c.reserve_fork.new.forks.items in
    let owners = c.reserve_owner.new.owners.items in
    let room : c.len-number.result < length forks = c.in_ok-reserve_fork.ensures.room (omega (arith, long, w.paired.places_fit)) in
    let here : slice_get owners c.len-number.result ≡ Some c.len-number.result = c.in_ok-reserve_owner.ensures.here (omega (arith, long, w.paired.owners_fit)) in
    subst (λ l. AreTriesIn old.roots.items forks l owners keys) (sym (pushed ∙ ap (λ (n : ℕ). old.owned.items ++ n ∷ []) long))
    (number_more old.roots.items forks old.owned.items owners keys (roomy old c.len-number.result c.reserve_fork.new.forks.items c.reserve_owner.new.owners.items long c.reserve_fork.ensures.kept
    c.reserve_fork.ensures.more c.reserve_owner.ensures.kept c.reserve_owner.ensures.more keys w) (omega (arith, long, room))
    (subst (λ (n : ℕ). slice_get owners n ≡ Some n) long here))
