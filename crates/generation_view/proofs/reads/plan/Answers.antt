use Rattle.std.proofs.Common.{◌≡◌, ◌∙◌, ◌-◌, min, ap}
use Rattle.std.specs.List.{flat_map}
use Rattle.extent_map.specs.Cells.{Tape, file_cells}
use Rattle.extent_map.specs.Pieces.{planned, read_piece}
use Rattle.extent_map.specs.Replies.{size_of}
use Rattle.plain_tree.specs.Cells.{range_of}
use Rattle.held_volume.proofs.ReadPlans.{two_ok}
use Rattle.generation_view.specs.Reads.{ArePlanned}
use Rattle.generation_view.proofs.RangeReads.{range_planned}
use Rattle.generation_view.proofs.reads.plan.Goals as goal

pub returns : goal.returns
returns c =
    let laid = c.extents-extents.result.now.laid in
    two_ok c.plan.result
    (λ pieces. (pieces ≡ planned laid c.min-from.result c.min-within.result) × (size_of pieces ≡ c.min-within.result))
    (λ pieces. (tape : Tape) → flat_map (read_piece tape) pieces ≡ range_of (file_cells tape laid) c.min-from.result c.min-within.result)
    (ArePlanned c.args.tree.now c.args.file c.args.offset c.args.count)
    (λ pieces is reads. range_planned c.args.tree.now c.args.file c.args.offset c.args.count c.min-from.result c.min-within.result c.extents-extents.result.now pieces
    c.count-tree_is_good.ensures.good c.extents-extents.ensures.extents c.extents-extents.ensures.laid
    (c.min-from.ensures ∙ ap (min c.args.offset) c.length.ensures) (c.min-within.ensures ∙ ap (λ n. min c.args.count (n - c.min-from.result)) c.length-2.ensures)
    is.0 is.1 reads)
    (two_ok c.plan.result (λ pieces. pieces ≡ planned laid c.min-from.result c.min-within.result) (λ pieces. size_of pieces ≡ c.min-within.result)
    (λ pieces. (pieces ≡ planned laid c.min-from.result c.min-within.result) × (size_of pieces ≡ c.min-within.result))
    (λ pieces is long. (is, long)) c.plan.ensures.pieces c.plan.ensures.size)
    c.plan.ensures.bytes
