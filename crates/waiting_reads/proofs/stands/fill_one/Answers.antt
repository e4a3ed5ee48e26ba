use Rattle.std.proofs.Common.{rules, ◌≡◌, ◌+◌, ◌-◌, ◌∷◌, [], length, take, drop, get_or, ap, ◌∙◌, arith}
use Rattle.std.proofs.lemmas.Option.{get_or_from_slice_get}
use Rattle.extent_map.specs.Replies.{bytes_in as bytes_of_piece}
use Rattle.extent_map.specs.declared.pieces.Piece.{Piece}
use Rattle.extent_map.specs.declared.pieces.Piece.TheVariants.{Zeros}
use Rattle.extent_map.proofs.ReplyLemmas.{put_is}
use Rattle.waiting_reads.proofs.StandLemmas.{ends_within}
use Rattle.waiting_reads.proofs.FillLemmas.{one_filled}
use Rattle.waiting_reads.proofs.stands.fill_one.Goals as goal

pub overflow_add-end : goal.overflow_add-end
overflow_add-end c =
    let within = ends_within c.args.pieces.now c.args.stand c.args.bytes.now c.bytes_in.result c.requires.stand c.requires.long c.bytes_in.ensures in
    search rules

pub slice_bounds-fill-end : goal.slice_bounds-fill-end
slice_bounds-fill-end c =
    let within = ends_within c.args.pieces.now c.args.stand c.args.bytes.now c.bytes_in.result c.requires.stand c.requires.long c.bytes_in.ensures in
    search rules

pub returns-clause-filled : goal.returns-clause-filled
returns-clause-filled c piece tape read here is gathered =
    let s = c.args.stand in
    let bytes = c.args.bytes.now in
    let part = c.fill.new.bytes in
    let same : get_or c.args.pieces.now s.number (Zeros 0) ≡ piece = get_or_from_slice_get c.args.pieces.now s.number piece (Zeros 0) here in
    let within = ends_within c.args.pieces.now s bytes c.bytes_in.result c.requires.stand c.requires.long c.bytes_in.ensures in
    let n : s.at + c.bytes_in.result - s.at ≡ bytes_of_piece piece = omega (arith, c.bytes_in.ensures, ap bytes_of_piece same) in
    let long : length part ≡ s.at + c.bytes_in.result - s.at = search rules in
    one_filled tape read c.args.place piece s.at bytes part c.fill.result c.from_ref.result.now (take (s.at + c.bytes_in.result - s.at) (drop s.at bytes)) _
    (c.from_ref.ensures.value ∙ ap (λ (p : Piece). p ∷ []) same) (ap (λ k. take k (drop s.at bytes)) n) gathered (c.fill.ensures.filled tape read is)
    (put_is bytes s.at _ (bytes_of_piece piece) part n) (long ∙ n)
