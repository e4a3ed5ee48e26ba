use Rattle.std.proofs.Common.{get_or, sym, ap, ◌∙◌}
use Rattle.std.proofs.lemmas.Option.{slice_get-get_or}
use Rattle.extent_map.specs.declared.pieces.Piece.TheVariants.{Zeros}
use Rattle.extent_map.specs.Replies.{place_in, with_new}
use Rattle.extent_map.proofs.DistinctLemmas.{places_next}
use Rattle.extent_map.proofs.replies.places_of.Goals as goal

pub loop-piece-preserved : goal.loop-piece-preserved
loop-piece-preserved c =
    let pieces = c.args.pieces.now in
    let i = c.loop-piece.piece-index in
    let p = get_or pieces i (Zeros 0) in (
      c.in_ok-put_place.ensures.places ∙ ap (λ l. with_new l (place_in p)) c.loop-piece.invariant.0
          ∙ sym (places_next pieces i p (slice_get-get_or pieces i (Zeros 0) c.loop-piece-test.true)),
      c.in_ok-put_place.ensures.met,
    )
