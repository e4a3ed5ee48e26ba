use Rattle.std.proofs.Common.{◌++◌, ◌∷◌, ◌≡◌, length, take, drop, sym, ap, ◌∙◌, set, arith}
use Rattle.std.specs.Option.{option_to_list}
use Rattle.std.proofs.lemmas.List.{length-take-le}
use Rattle.extent_map.proofs.PlaceLemmas.{put_first}
use Rattle.extent_map.proofs.edits.put_between.Goals as goal

pub returns-in-Some : goal.returns-in-Some
returns-in-Some c =
    let old = c.args.extents.now.items in
    let head = take c.args.first old in
    let rest = drop c.args.last old in
    let long : length head ≡ c.args.first = length-take-le c.args.first old (omega arith) in
    ap (λ l. set l c.args.first c.in-Some.part) c.make_gap-in-Some.ensures
    ∙ put_first head rest c.in-Some.part c.args.new c.args.first long
    ∙ ap (λ o. head ++ option_to_list o ++ c.args.new ∷ rest) (sym c.in-Some.is)
