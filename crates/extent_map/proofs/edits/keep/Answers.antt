use Rattle.std.proofs.Common.{◌<◌, ◌++◌, length, take, sym, ap, ◌∙◌, set, vec_len, rules, arith}
use Rattle.std.specs.Option.{option_to_list}
use Rattle.extent_map.proofs.PlaceLemmas.{kept}
use Rattle.extent_map.proofs.edits.keep.Goals as goal

pub returns-in-Some : goal.returns-in-Some
returns-in-Some c =
    let old = c.args.extents.now.items in
    let there : c.args.kept < vec_len c.args.extents.now = c.requires (rw c.in-Some.is (search rules)) in
    let within : c.args.kept < length old = omega arith in
    ap (λ l. set l c.args.kept c.in-Some.part) c.truncate-in-Some.ensures.items
    ∙ kept old c.args.kept c.in-Some.part within
    ∙ ap (λ o. take c.args.kept old ++ option_to_list o) (sym c.in-Some.is)
