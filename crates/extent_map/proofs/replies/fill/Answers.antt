use Rattle.std.proofs.Common.{◌≡◌, ◌+◌, suc, take, get_or, ap, ◌∙◌, arith, rules}
use Rattle.extent_map.specs.declared.pieces.Piece.TheVariants.{Zeros}
use Rattle.extent_map.specs.Replies.{size_of}
use Rattle.extent_map.proofs.ReplyLemmas.{sizes, at_item, put_steps, put_loses, ends}
use Rattle.extent_map.proofs.replies.fill.Goals as goal

pub fill_at-requires-clause-within : goal.fill_at-requires-clause-within
fill_at-requires-clause-within c =
    let pieces = c.args.pieces.now in
    let i = c.loop-piece.piece-index in
    let p = get_or pieces i (Zeros 0) in
    let s = sizes pieces i p c.loop-piece-test.true (at_item pieces i (Zeros 0) c.loop-piece-test.true) in
    omega (arith, s.1, c.loop-piece.invariant.0, c.loop-piece.invariant.1, c.requires, c.bytes_in-count.ensures)

pub overflow_add-at : goal.overflow_add-at
overflow_add-at c = omega (arith, c.fill_at.ensures.fits)

pub returns-then-not-fill_at-clause-filled : goal.returns-then-not-fill_at-clause-filled
returns-then-not-fill_at-clause-filled c tape read is gathered =
    let pieces = c.args.pieces.now in
    let i = c.loop-piece.piece-index in
    let p = get_or pieces i (Zeros 0) in
    put_loses tape read c.args.place pieces i c.loop-piece.at c.bytes_in-count.result c.loop-piece.bytes c.fill_at.new.bytes p c.loop-piece-test.true (at_item pieces i (Zeros 0) c.loop-piece-test.true)
    (c.loop-piece.invariant.2 tape read is gathered) c.bytes_in-count.ensures c.fill_at.result (search rules) (c.fill_at.ensures.filled tape read is)

pub loop-piece-preserved : goal.loop-piece-preserved
loop-piece-preserved c =
    let pieces = c.args.pieces.now in
    let i = c.loop-piece.piece-index in
    let p = get_or pieces i (Zeros 0) in
    let s = sizes pieces i p c.loop-piece-test.true (at_item pieces i (Zeros 0) c.loop-piece-test.true) in
    let next : suc i ≡ i + 1 = omega arith in (
      omega (arith, s.0, ap (λ k. size_of (take k pieces)) next, c.loop-piece.invariant.0, c.bytes_in-count.ensures),
      c.fill_at.ensures.long ∙ c.loop-piece.invariant.1,
      λ tape read is gathered.
          put_steps tape read c.args.place pieces i c.loop-piece.at c.bytes_in-count.result c.loop-piece.bytes c.fill_at.new.bytes p c.loop-piece-test.true (at_item pieces i (Zeros 0) c.loop-piece-test.true)
          (c.loop-piece.invariant.2 tape read is gathered) c.bytes_in-count.ensures c.fill_at.result (search rules) (c.fill_at.ensures.filled tape read is),
    )

pub returns-clause-filled : goal.returns-clause-filled
returns-clause-filled c tape read is gathered =
    ends tape read c.args.place c.args.pieces.now c.loop-piece.piece-index c.loop-piece.at c.loop-piece.bytes c.loop-piece-test.false (c.loop-piece.invariant.2 tape read is gathered)
