use Rattle.std.proofs.Common.{◌≡◌, ◌∙◌, ◌++◌, List, ℕ, codes, decimal, length, ap, sym, take_all, arith}
use Rattle.std.specs.List.{flat_map}
use Rattle.generation_view.specs.ViewCommands.Texts.{generation_line}
use Rattle.generation_view.proofs.view_commands.texts.generations_text.Goals as goal

pub returns : goal.returns
returns c =
    c.from_vec.ensures ∙ c.in_ok-extend_from_slice.ensures.items
    ∙ ap (λ (l : List ℕ). c.loop-generation.text.items ++ l) (c.as_bytes.ensures.value ∙ c.in_ok-format.ensures.ok)
    ∙ ap (λ (l : List ℕ). l ++ (codes "generations " ++ (decimal (length c.args.told.now) ++ codes "\n")))
    (c.loop-generation.invariant ∙ ap (flat_map generation_line) (take_all c.loop-generation.generation-index c.args.told.now (omega (arith, c.loop-generation-test.false))))
