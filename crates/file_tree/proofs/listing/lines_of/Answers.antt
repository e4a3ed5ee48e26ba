use Rattle.std.proofs.Common.{◌≡◌, [], ◌∷◌, ◌++◌, sym, ap, ◌∙◌, rules}
use Rattle.std.proofs.lemmas.Option.{slice_get-get_or}
use Rattle.file_tree.specs.Seen.{held}
use Rattle.file_tree.specs.Listing.{line_of}
use Rattle.file_tree.proofs.RunLemmas.{lines_next}
use Rattle.file_tree.proofs.listing.lines_of.Goals as goal

pub loop-number-preserved : goal.loop-number-preserved
loop-number-preserved c =
    let numbers = c.args.numbers.now in
    let pushed : c.push.new.self ≡ c.loop-number.entries ++ line_of c.spot_at-spot.result.now ∷ [] = search rules in
    pushed ∙ ap (λ l. l ++ line_of c.spot_at-spot.result.now ∷ []) c.loop-number.invariant
    ∙ sym (lines_next (held c.args.spots.now) numbers c.loop-number.number-index _ c.spot_at-spot.result.now (slice_get-get_or numbers c.loop-number.number-index 0 c.loop-number-test.true) c.spot_at-spot.ensures)
