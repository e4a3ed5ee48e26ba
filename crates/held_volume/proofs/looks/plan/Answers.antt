use Rattle.std.proofs.Common.{◌≡◌, Bool, ◌-◌, ◌≤◌, min, sym, ap, ◌∙◌, arith}
use Rattle.std.specs.List.{All, flat_map}
use Rattle.extent_map.specs.Cells.{Tape, file_cells}
use Rattle.extent_map.specs.Pieces.{IsInOneBlock, planned, read_piece}
use Rattle.extent_map.specs.Replies.{size_of}
use Rattle.plain_tree.specs.Cells.{range_of}
use Rattle.tape_layout.specs.Plans.{Plan}
use Rattle.space_laws.specs.Standing.{Given, Standing}
use Rattle.held_volume.specs.declared.volume_sync.frames.Frame.{Frame}
use Rattle.file_tree.proofs.CallLemmas.{file_there}
use Rattle.file_tree.proofs.RefusalLemmas.{whole_read}
use Rattle.plain_tree.specs.Paths.{Path}
use Rattle.held_volume.specs.Reads.{IsPlanOfAtMost, IsReadPlan, IsReadable}
use Rattle.held_volume.specs.Stocks.{IsStock, stocked}
use Rattle.held_volume.proofs.looks.plan.Goals as goal
use Rattle.held_volume.proofs.ReadPlans.{plan_of_most, read_planned, two_ok}

pub extents-extents-requires : goal.extents-extents-requires
extents-extents-requires c =
    let path = c.requires.0 in
    let readable = c.requires.1 in
    file_there c.args.tree.now path c.args.file readable.stands
    (sym (whole_read c.args.tree.now path c.args.offset c.args.count) ∙ readable.free c.args.offset c.args.count)

pub returns-clause-reads : goal.returns-clause-reads
returns-clause-reads c =
    let room = c.extents-extents.result.now in
    two_ok c.plan.result
    (λ pieces. pieces ≡ planned room.laid c.min-from.result c.min-within.result)
    (λ pieces. (tape : Tape) → flat_map (read_piece tape) pieces ≡ range_of (file_cells tape room.laid) c.min-from.result c.min-within.result)
    (λ pieces. (path : Path) → IsReadable c.args.tree.now path c.args.file → (l : Plan) (f : Frame) (tape : Tape) (g : Given) (on : Bool) (st : Standing) → IsStock tape g on st (stocked c.args.tree.now l f)
    → IsReadPlan tape st c.args.tree.now path c.args.offset c.args.count pieces)
    (λ pieces is reads path readable. read_planned c.args.tree.now path c.args.file c.args.offset c.args.count c.min-from.result c.min-within.result room pieces
    c.count-count.ensures.good readable.stands c.extents-extents.ensures.extents c.extents-extents.ensures.laid (readable.free c.args.offset c.args.count)
    (c.min-from.ensures ∙ ap (min c.args.offset) c.length.ensures) (c.min-within.ensures ∙ ap (λ n. min c.args.count (n - c.min-from.result)) c.length-2.ensures) is reads)
    c.plan.ensures.pieces c.plan.ensures.bytes

pub returns-clause-most : goal.returns-clause-most
returns-clause-most c =
    let room = c.extents-extents.result.now in
    let low : c.min-within.result ≤ c.args.count = omega (arith, c.min-within.ensures) in
    two_ok c.plan.result (λ pieces. size_of pieces ≡ c.min-within.result) (All (IsInOneBlock room.laid.block_size)) (IsPlanOfAtMost c.args.tree.now.block_size c.args.count)
    (λ pieces long each. plan_of_most c.args.tree.now.block_size c.args.count room.laid c.min-within.result pieces c.extents-extents.ensures.laid each long low)
    c.plan.ensures.size c.plan.ensures.blocks
