use Rattle.std.proofs.Common.{◌≡◌, ◌<◌, sym, ap, ◌∙◌, subst, arith}
use Rattle.tape_types.specs.Bounds.{longest_file}
use Rattle.plain_tree.specs.Cells as plain
use Rattle.extent_map.specs.Laid.{Room, IsLaid}
use Rattle.extent_map.specs.Cells.{cells_of, file_cells}
use Rattle.extent_map.proofs.LaidLemmas.{laid_as, overlaid_is, overlaid_laid, laid_raise}
use Rattle.extent_map.proofs.LawLemmas.{overlays_write}
use Rattle.extent_map.proofs.extents.Extents.overlay.Goals as goal

pub put-requires-clause-laid : goal.put-requires-clause-laid
put-requires-clause-laid c =
    let f = c.self.inside in
    laid_raise f.block_size 0 f.length longest_file f.extents.items c.self.invariant.can_be c.self.invariant.are_laid

pub invariant_of-self : goal.invariant_of-self
invariant_of-self c =
    let f = c.self.inside in
    let new = c.args.new in
    let size : f.block_size ≡ c.args.self.now.laid.block_size = ap (λ (r : Room). r.laid.block_size) c.self.view_is in
    let byte : new.byte < f.block_size = omega (arith, c.requires.byte) in
    subst IsLaid (sym (overlaid_is f.block_size f.length c.max-self-inside.result f.extents.items c.put.new.extents.items new c.put.ensures c.max-self-inside.ensures))
    (overlaid_laid (laid_as f.block_size f.length f.extents.items) new c.self.invariant c.requires.some c.requires.fits byte c.requires.block)

pub returns-clause-laid : goal.returns-clause-laid
returns-clause-laid c = invariant_of-self c

pub returns-clause-bytes : goal.returns-clause-bytes
returns-clause-bytes c = λ tape.
    let f = c.self.inside in
    let new = c.args.new in
    ap (file_cells tape) (overlaid_is f.block_size f.length c.max-self-inside.result f.extents.items c.put.new.extents.items new c.put.ensures c.max-self-inside.ensures)
    ∙ overlays_write tape (laid_as f.block_size f.length f.extents.items) new c.self.invariant
    ∙ ap (λ (r : Room). plain.written (file_cells tape r.laid) new.offset (cells_of tape r.laid.block_size new)) c.self.view_is
