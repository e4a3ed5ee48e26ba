use Rattle.std.proofs.Common.{sym, ◌∙◌}
use Rattle.held_volume.proofs.changes.set_length.Goals as goal
use Rattle.plain_tree.proofs.Validity.{free_within}
use Rattle.plain_tree.specs.declared.calls.Call.TheVariants as asks
use Rattle.file_tree.specs.Tree.{plain_of, whole}
use Rattle.file_tree.proofs.CallLemmas.{file_there, long_free}
use Rattle.held_volume.proofs.Asks.{cut_changes, cut_still}

pub extents-requires : goal.extents-requires
extents-requires c = file_there c.args.tree.now c.requires.0 c.args.file c.requires.1 (long_free (plain_of whole c.args.tree.now) c.requires.0 c.args.length (free_within (plain_of whole c.args.tree.now) (asks.Truncate c.requires.0 c.args.length) c.requires.2).1).0

pub returns-then-length : goal.returns-then-length
returns-then-length c path stands free = cut_still c.args.tree.now path c.args.file c.extents.result.now c.args.length c.args.at c.count-count.ensures.good stands c.extents.ensures.extents free (sym c.length.ensures ∙ c.if-length.true)

pub returns : goal.returns
returns c path stands free =
    let s = c.set_length.ensures in
    cut_changes c.args.tree.now path c.args.file c.extents.result.now c.args.length c.args.at c.count-count.ensures.good stands c.extents.ensures.extents free
    c.set_length.new.self c.count-count_now.ensures.good (λ e. c.if-length.false (c.length.ensures ∙ e)) s.plain s.numbers s.extents s.others s.blocks s.volume
