use Rattle.std.proofs.Common.{◌++◌, [], ◌∷◌, map, sym, ap, ◌∙◌, arith, append_assoc}
use Rattle.std.specs.List.{range_with_len}
use Rattle.std.proofs.lemmas.List.FromFn.{map-range_with_len_more}
use Rattle.extent_map.specs.Pieces.{piece_in}
use Rattle.extent_map.proofs.pieces.push_run.Goals as goal

pub loop-k-preserved : goal.loop-k-preserved
loop-k-preserved c =
    let piece = piece_in c.args.block_size c.args.run in
    let k = c.loop-k.k in
    c.in_ok-push.ensures.items
    ∙ ap (λ l. l ++ c.piece_in.result ∷ []) c.loop-k.invariant
    ∙ append_assoc c.args.pieces.now.items (map piece (range_with_len 0 k)) (c.piece_in.result ∷ [])
    ∙ ap (λ p. c.args.pieces.now.items ++ (map piece (range_with_len 0 k) ++ p ∷ [])) c.piece_in.ensures
    ∙ ap (λ l. c.args.pieces.now.items ++ l) (sym (map-range_with_len_more piece 0 k k (omega arith)))
