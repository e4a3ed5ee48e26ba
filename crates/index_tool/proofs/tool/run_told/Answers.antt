use Rattle.std.proofs.Common.{inr, subst, ⊎_elim}
use Rattle.index_tool.specs.Tool.{IsCommand}
use Rattle.index_tool.specs.declared.outcomes.Outcome.TheVariants as outcomes
use Rattle.index_tool.proofs.tool.run_told.Goals as goal

pub returns-in-Some : goal.returns-in-Some
returns-in-Some g c =
    let command = c.in-Some.command in
    let words : IsCommand c.args.words.now.items command = subst (λ w. IsCommand w command) c.as_slice.ensures.value c.in-Some.ensures in
    ⊎_elim
    (λ told. (c.run_command-outcome.result, inr (command, words, c.run_command-outcome.ensures), told))
    (λ told. (outcomes.NoMemory, inr (command, words, tt), told))
    c.finish.ensures
