use Rattle.std.proofs.Common.{◌≡◌, ◌+◌, ◌-◌, take, drop, sym, subst, arith, rules}
use Rattle.extent_map.specs.Replies.{IsGatheredPiece}
use Rattle.extent_map.proofs.ReplyLemmas.{put_is}
use Rattle.extent_map.proofs.replies.fill_at.Goals as goal

pub returns-clause-filled : goal.returns-clause-filled
returns-clause-filled c tape read is gathered =
    let k : c.args.at + c.args.count - c.args.at ≡ c.args.count = omega arith in
    record {
      part = c.fill_piece.new.part;
      is = put_is c.args.bytes.now c.args.at _ c.args.count c.fill_piece.new.part k;
      long = search rules;
      filled = c.fill_piece.ensures.filled tape read is (subst (λ n. IsGatheredPiece tape read c.args.piece.now (take n (drop c.args.at c.args.bytes.now))) (sym k) gathered);
    }
