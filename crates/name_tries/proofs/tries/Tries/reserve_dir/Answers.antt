use Rattle.std.proofs.Common.{◌≡◌, [], ◌∷◌, ◌++◌, None, sym, subst, rules}
use Rattle.name_tries.specs.Keys.{AreTriesIn}
use Rattle.name_tries.proofs.KeyLemmas.{dir_more}
use Rattle.name_tries.proofs.tries.Tries.reserve_dir.Goals as goal

pub returns-in_ok-push-clause-are : goal.returns-in_ok-push-clause-are
returns-in_ok-push-clause-are c = λ keys w.
    let old = c.args.self.now in
    let pushed : c.push.new.self.items ≡ old.roots.items ++ None ∷ [] = search rules in
    subst (λ l. AreTriesIn l old.forks.items old.owned.items old.owners.items keys) (sym pushed)
    (dir_more old.roots.items old.forks.items old.owned.items old.owners.items keys w)
