use Rattle.std.proofs.Common.{sym, ap, ◌∙◌, subst}
use Rattle.tape_types.specs.Bounds.{longest_file}
use Rattle.plain_tree.specs.Cells as plain
use Rattle.extent_map.specs.Laid.{Room, IsLaid}
use Rattle.extent_map.specs.Cells.{file_cells}
use Rattle.extent_map.proofs.LaidLemmas.{laid_as, resized_laid, laid_raise}
use Rattle.extent_map.proofs.LawLemmas.{lengths_truncate}
use Rattle.extent_map.proofs.extents.Extents.set_length.Goals as goal

pub cut_off-requires : goal.cut_off-requires
cut_off-requires c =
    let f = c.self.inside in
    (f.block_size, laid_raise f.block_size 0 f.length longest_file f.extents.items c.self.invariant.can_be c.self.invariant.are_laid)

pub invariant_of-self : goal.invariant_of-self
invariant_of-self c =
    let f = c.self.inside in
    subst IsLaid (sym (ap (laid_as f.block_size c.args.length) c.cut_off.ensures)) (resized_laid (laid_as f.block_size f.length f.extents.items) c.args.length c.self.invariant c.requires)

pub returns-clause-laid : goal.returns-clause-laid
returns-clause-laid c = invariant_of-self c

pub returns-clause-bytes : goal.returns-clause-bytes
returns-clause-bytes c = λ tape.
    let f = c.self.inside in
    ap (λ es. file_cells tape (laid_as f.block_size c.args.length es)) c.cut_off.ensures
    ∙ lengths_truncate tape (laid_as f.block_size f.length f.extents.items) c.args.length c.self.invariant
    ∙ ap (λ (r : Room). plain.resized (file_cells tape r.laid) c.args.length) c.self.view_is
