use Rattle.std.proofs.Common.{rules, ◌+◌, ◌++◌, take, drop, get_or, sym, ap, ◌∙◌, arith}
use Rattle.std.proofs.lemmas.List.Sorted.{IsNonDecreasingBy-from_sort_by_key, answers_always}
use Rattle.extent_map.specs.declared.pieces.Piece.TheVariants.{Zeros}
use Rattle.extent_map.specs.Replies.{bytes_in as bytes_of_piece, size_of}
use Rattle.extent_map.proofs.ReplyLemmas.{at_item, sizes}
use Rattle.waiting_reads.specs.Stands.{at_pos, stands_from}
use Rattle.waiting_reads.specs.declared.stands.Stand.{Stand}
use Rattle.waiting_reads.proofs.StandLemmas.{one_more, runs_stay, stands_all, stands_more}
use Rattle.waiting_reads.proofs.stands.stands_of.Goals as goal

pub overflow_add-at : goal.overflow_add-at
overflow_add-at c =
    let pieces = c.args.pieces.now in
    let i = c.loop-number.number in
    let p = get_or pieces i (Zeros 0) in
    let s = sizes pieces i p c.loop-number-test.true (at_item pieces i (Zeros 0) c.loop-number-test.true) in
    omega (arith, s.1, c.loop-number.invariant.0, c.requires, c.bytes_in-at.ensures)

pub loop-number-preserved : goal.loop-number-preserved
loop-number-preserved c =
    let pieces = c.args.pieces.now in
    let i = c.loop-number.number in
    let p = get_or pieces i (Zeros 0) in
    let item = at_item pieces i (Zeros 0) c.loop-number-test.true in
    let s = sizes pieces i p c.loop-number-test.true item in
    let noted = stands_more pieces i c.loop-number.at p c.loop-number.stands.items c.loop-number-test.true item c.loop-number.invariant.1 in (
      omega (arith, s.0, ap (λ k. size_of (take k pieces)) (one_more i), c.loop-number.invariant.0, c.bytes_in-at.ensures),
      noted
          ∙ ap (λ l. l ++ stands_from (i + 1) (c.loop-number.at + bytes_of_piece p) (drop (i + 1) pieces)) (sym (c.in_ok-put_stand.ensures {u = tt}))
          ∙ ap (λ n. c.put_stand.new.stands.items ++ stands_from (i + 1) (c.loop-number.at + n) (drop (i + 1) pieces)) (sym c.bytes_in-at.ensures),
    )

pub returns : goal.returns
returns c =
    let pieces = c.args.pieces.now in
    let made = stands_all pieces c.loop-number.number c.loop-number.at c.loop-number.stands.items (search rules) c.loop-number.invariant.1 in
    let stable = (c.in_ok-sort_by_key.ensures {u = tt}).stable (λ (s : Stand). s.pos) (answers_always _ _ _ (λ f a r g h. search rules)) in
    record {
      rise = IsNonDecreasingBy-from_sort_by_key (λ (s : Stand). s.pos) _ (c.in_ok-sort_by_key.ensures {u = tt}).sorted (λ a r q k. search rules);
      runs = λ pos. runs_stay c.loop-number.stands.items c.sort_by_key.new.self.items stable pos ∙ ap (at_pos pos) made;
    }
