use Rattle.std.proofs.Common.{subst, [], drop}
use Rattle.std.proofs.lemmas.List.{take_all, drop_all}
use Rattle.file_tree.specs.Raws.{IsPlaced}
use Rattle.file_tree.proofs.RawLemmas.{placed_all, placed_step}
use Rattle.file_tree.proofs.raws.extents_in_turn.Goals as goal

pub loop-raw-preserved : goal.loop-raw-preserved
loop-raw-preserved c = placed_step c.args.letters c.args.block_size c.args.length c.args.raws.now c.loop-raw.raw-index _ c.loop-raw.extents.laid c.put_raw.new.extents.laid c.loop-raw-test.true c.requires c.loop-raw.invariant c.in_ok-put_raw.ensures

pub returns-clause-laid : goal.returns-clause-laid
returns-clause-laid c =
    let raws = c.args.raws.now in
    let done : IsPlaced c.args.letters c.args.block_size c.args.length raws [] c.loop-raw.extents.laid =
    subst (λ l. IsPlaced c.args.letters c.args.block_size c.args.length raws l c.loop-raw.extents.laid) (drop_all c.loop-raw.raw-index raws c.loop-raw-test.false)
    (subst (λ l. IsPlaced c.args.letters c.args.block_size c.args.length l (drop c.loop-raw.raw-index raws) c.loop-raw.extents.laid) (take_all c.loop-raw.raw-index raws c.loop-raw-test.false) c.loop-raw.invariant) in
    placed_all c.args.letters c.args.block_size c.args.length raws c.loop-raw.extents.laid c.set_length.new.self.laid done c.set_length.ensures.extents
