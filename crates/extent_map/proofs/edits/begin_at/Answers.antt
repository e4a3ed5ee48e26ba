use Rattle.std.proofs.Common.{◌∙◌, ap, set, arith}
use Rattle.tape_types.specs.Bounds.{longest_file}
use Rattle.extent_map.specs.Laid.{rest_of}
use Rattle.extent_map.proofs.PlaceLemmas.{IsAt, read_at, begun, all_done}
use Rattle.extent_map.proofs.edits.begin_at.Goals as goal

pub rest_of-requires-clause-far : goal.rest_of-requires-clause-far
rest_of-requires-clause-far c =
    (read_at c.args.block_size 0 longest_file c.args.extents.now.items c.args.place c.index-extent.result.now c.requires.laid (omega (arith, c.len.ensures)) c.index-extent.ensures).far

pub rest_of-requires-clause-offset : goal.rest_of-requires-clause-offset
rest_of-requires-clause-offset c =
    let x = c.index-extent.result.now in
    let at : IsAt c.args.block_size 0 longest_file x = read_at c.args.block_size 0 longest_file c.args.extents.now.items c.args.place x c.requires.laid (omega (arith, c.len.ensures)) c.index-extent.ensures in
    omega (arith, at.ends, c.saturating_sub.ensures)

pub returns-then-place-len-clause-items : goal.returns-then-place-len-clause-items
returns-then-place-len-clause-items c =
    let es = c.args.extents.now.items in
    let x = c.index-extent.result.now in
    ap (set es c.args.place) (c.rest_of.ensures ∙ ap (λ n. rest_of c.args.block_size n x) c.saturating_sub.ensures)
    ∙ begun c.args.block_size 0 longest_file es c.args.at c.args.place x c.requires.laid c.requires.place (omega (arith, c.len.ensures)) c.index-extent.ensures

pub returns-else-place-len-clause-items : goal.returns-else-place-len-clause-items
returns-else-place-len-clause-items c =
    all_done c.args.block_size 0 longest_file c.args.extents.now.items c.args.at c.args.place c.requires.laid c.requires.place (omega (arith, c.len.ensures))
