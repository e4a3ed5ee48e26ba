use Rattle.std.proofs.Common.{◌++◌, List, ℕ, sym, ap, ◌∙◌}
use Rattle.std.specs.Char.{encode_utf8}
use Rattle.std.specs.Str.{chars}
use Rattle.std.proofs.lemmas.Str.{chars-nil, chars_past_char}
use Rattle.tape_layout.proofs.PlacementPolicy.Follows.{empty_is}
use Rattle.tape_layout.proofs.placement.patterns.first_char.Goals as goal

pub returns-in-Some-clause-parts : goal.returns-in-Some-clause-parts
returns-in-Some-clause-parts c =
    let lent = ap (λ (r : List ℕ). encode_utf8 c.in-Some.c ++ r) (sym c.as_str.ensures) in
    chars_past_char c.args.text.now c.as_str.result.now c.in-Some.c c.utf8.text (sym c.chars-rest.ensures.rest ∙ c.in-Some.ensures.steps.0 ∙ lent)

pub returns-in-None-clause-parts : goal.returns-in-None-clause-parts
returns-in-None-clause-parts c = ap chars (sym c.chars-rest.ensures.rest ∙ empty_is _ c.in-None.ensures.steps.0.0) ∙ chars-nil
