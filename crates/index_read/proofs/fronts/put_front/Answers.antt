use Rattle.std.proofs.Common.{◌≡◌, List, ℕ, ◌++◌, ap, ◌∙◌, drop}
use Rattle.std.proofs.IntoIterSteps.{All-taken}
use Rattle.index_read.proofs.fronts.put_front.Goals as goal

pub returns : goal.returns
returns c =
    let x = c.in-Ok-splice.ensures.items in
    let same : x.1 ≡ c.args.front.items = All-taken x.0 x.1 x.3 ∙ x.2.0 in
    let kept : c.reserve_exact.new.self.items ≡ c.args.text.now.items = c.in-Ok.ensures.items in
    λ _. x.4 ∙ ap (λ (ys : List ℕ). ys ++ drop c.args.at c.reserve_exact.new.self.items) same ∙ ap (λ (ys : List ℕ). c.args.front.items ++ drop c.args.at ys) kept
