use Rattle.std.proofs.Common.{rules, ◌+◌, drop, get_or, sym, ◌∙◌, subst}
use Rattle.std.proofs.lemmas.List.{get_or_default}
use Rattle.waiting_reads.proofs.StandLemmas.{run_stands}
use Rattle.waiting_reads.proofs.FillLemmas.{Ahead, goes_on, is_lost, is_over}
use Rattle.waiting_reads.proofs.stands.fill_at.Goals as goal

pub fill_one-requires-clause-stand : goal.fill_one-requires-clause-stand
fill_one-requires-clause-stand c =
    run_stands c.args.pieces.now c.args.stands.now c.run-stand-items.result.now c.args.place.pos c.requires.stands c.run-stand-items.ensures
    c.loop-stand.stand-index (record { pos = 0; number = 0; at = 0 }) c.loop-stand-test.true

pub returns-then-not-fill_one-clause-filled : goal.returns-then-not-fill_one-clause-filled
returns-then-not-fill_one-clause-filled c tape read is gathered =
    let run = c.run-stand-items.result.now in
    let k = c.loop-stand.stand-index in
    let s = get_or run k (record { pos = 0; number = 0; at = 0 }) in
    let ahead = subst (λ l. Ahead tape read c.args.place c.args.pieces.now c.loop-stand.bytes (drop k l)) (sym c.run-stand-items.ensures)
    (c.loop-stand.invariant.1 tape read is gathered) in
    is_lost tape read c.args.place c.args.pieces.now c.loop-stand.bytes run k s c.loop-stand-test.true
    (get_or_default run k (record { pos = 0; number = 0; at = 0 }) s c.loop-stand-test.true) ahead c.fill_one.new.bytes c.fill_one.result
    (λ piece here. c.fill_one.ensures.filled piece tape read here is) c.if-not-fill_one.true

pub loop-stand-preserved : goal.loop-stand-preserved
loop-stand-preserved c =
    let run = c.run-stand-items.result.now in
    let k = c.loop-stand.stand-index in
    let s = get_or run k (record { pos = 0; number = 0; at = 0 }) in (
      c.fill_one.ensures.long ∙ c.loop-stand.invariant.0,
      λ tape read is gathered.
          let ahead = subst (λ l. Ahead tape read c.args.place c.args.pieces.now c.loop-stand.bytes (drop k l)) (sym c.run-stand-items.ensures)
          (c.loop-stand.invariant.1 tape read is gathered) in
          subst (λ l. Ahead tape read c.args.place c.args.pieces.now c.fill_one.new.bytes (drop (k + 1) l)) c.run-stand-items.ensures
          (goes_on tape read c.args.place c.args.pieces.now c.loop-stand.bytes run k s c.loop-stand-test.true
          (get_or_default run k (record { pos = 0; number = 0; at = 0 }) s c.loop-stand-test.true) ahead c.fill_one.new.bytes c.fill_one.result
          (λ piece here. c.fill_one.ensures.filled piece tape read here is) c.if-not-fill_one.false),
    )

pub returns-clause-filled : goal.returns-clause-filled
returns-clause-filled c tape read is gathered =
    let run = c.run-stand-items.result.now in
    let k = c.loop-stand.stand-index in
    is_over tape read c.args.place c.args.pieces.now c.loop-stand.bytes run k (search rules)
    (subst (λ l. Ahead tape read c.args.place c.args.pieces.now c.loop-stand.bytes (drop k l)) (sym c.run-stand-items.ensures)
    (c.loop-stand.invariant.1 tape read is gathered))
