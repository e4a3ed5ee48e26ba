use Rattle.std.proofs.Common.{◌≡◌, sym, ◌∙◌, subst, arith}
use Rattle.std.proofs.lemmas.Int.{ints}
use Rattle.tape_edge.specs.Clocks.{IsSince1970}
use Rattle.tape_types.proofs.CivilLemmas.{time_text_injective}
use Rattle.commands.proofs.command_line.volumes.read_moment.Goals as goal

pub returns-else-at-ge0 : goal.returns-else-at-ge0
returns-else-at-ge0 c = λ m is since.
    let same : m ≡ c.in-Some.at = time_text_injective m c.in-Some.at (sym is ∙ sym c.as_bytes.ensures.value ∙ c.in-Some.ensures.some) in
    let late : IsSince1970 c.in-Some.at = subst IsSince1970 same since in
    omega (arith, ints)
