use Rattle.std.proofs.Common.{◌≡◌, ap, ◌∙◌, sym, subst, length, map, rules}
use Rattle.std.specs.Prelude.{slice_get, ◌+◌}
use Rattle.std.specs.List.{range_with_len}
use Rattle.plain_tree.specs.Cells.{bytes_of}
use Rattle.extent_map.specs.Replies.{bytes_in, IsFilledPiece}
use Rattle.extent_map.proofs.ReplyLemmas.{filled_piece}
use Rattle.extent_map.proofs.replies.fill_piece.Goals as goal

pub returns-else-not-same_place-clause-filled : goal.returns-else-not-same_place-clause-filled
returns-else-not-same_place-clause-filled c tape read is gathered =
    let long : length c.args.part.now ≡ c.in-Stored.count = c.requires ∙ ap bytes_in c.in-Stored.is in
    subst (λ p. IsFilledPiece tape read c.args.place p c.fill_part.new.part c.fill_part.result) (sym c.in-Stored.is)
    (filled_piece tape read c.args.place c.in-Stored.stands c.in-Stored.byte c.in-Stored.count c.args.block.now c.fill_part.new.part c.fill_part.result is (search rules)
    (λ e. ap (λ n. bytes_of (map (λ i. slice_get c.args.block.now (c.in-Stored.byte + i)) (range_with_len 0 n))) (sym long) ∙ c.fill_part.ensures.whole e)
    (λ e. ap (λ n. bytes_of (map (λ i. slice_get c.args.block.now (c.in-Stored.byte + i)) (range_with_len 0 n))) (sym long) ∙ c.fill_part.ensures.lost e))
