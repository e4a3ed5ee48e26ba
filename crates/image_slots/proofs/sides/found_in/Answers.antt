use Rattle.std.proofs.Common.{rules, List, ℕ, ◌≡◌, ◌==◌, ◌∙◌, sym, ap, subst, length}
use Rattle.image_slots.specs.Sides.{CountsIn, gate_in}
use Rattle.image_slots.specs.declared.sides.Side.{Side}
use Rattle.image_slots.proofs.Choosing.{no_value, side_counts}
use Rattle.image_slots.proofs.sides.found_in.Goals as goal

pub returns-in-Some-clause-some : goal.returns-in-Some-clause-some
returns-in-Some-clause-some c =
    let header : List ℕ = c.args.header.now in
    let side = c.in-Some.side in
    let long : length header ≡ 512 = search rules in (
      subst (λ (v : List ℕ). CountsIn side header v) (sym (c.copied.ensures ∙ c.body.ensures.value)) (side_counts side header long (sym c.in-Some.ensures)),
      c.is_open.ensures ∙ ap (λ (s : Side). gate_in s header == 1) c.other.ensures,
    )

pub returns-in-None-clause-none : goal.returns-in-None-clause-none
returns-in-None-clause-none c = λ v. no_value c.args.header.now v (sym c.in-None.ensures)
