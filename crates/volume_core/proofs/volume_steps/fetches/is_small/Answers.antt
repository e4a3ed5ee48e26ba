use Rattle.std.proofs.Common.{◌≡◌, ◌+◌, suc, take, get_or, ap, arith}
use Rattle.extent_map.specs.declared.pieces.Piece.TheVariants.{Zeros}
use Rattle.extent_map.specs.Replies.{size_of}
use Rattle.extent_map.proofs.ReplyLemmas.{sizes, at_item}
use Rattle.volume_core.proofs.volume_steps.fetches.is_small.Goals as goal

pub loop-piece-preserved : goal.loop-piece-preserved
loop-piece-preserved c =
    let pieces = c.args.pieces.now in
    let i = c.loop-piece.piece-index in
    let p = get_or pieces i (Zeros 0) in
    let s = sizes pieces i p c.loop-piece-test.true (at_item pieces i (Zeros 0) c.loop-piece-test.true) in
    let next : suc i ≡ i + 1 = omega arith in (
      omega (arith, s.0, ap (λ k. size_of (take k pieces)) next, c.loop-piece.invariant.0, c.bytes_in-count.ensures),
      omega (arith, c.loop-piece.invariant.1, c.if-count-total.false),
    )
