use Rattle.std.proofs.Common.{◌≤◌, length, subst}
use Rattle.file_tree.specs.Tree.{FileTree}
use Rattle.generation_view.specs.Reads.{blocks_read}
use Rattle.generation_view.proofs.RangeReads.{blocks_few}
use Rattle.generation_view.specs.ViewCommands.Texts.{view_text}
use Rattle.generation_view.proofs.ViewCommands.ViewClauses.{view_answered, view_listed, view_unseen}
use Rattle.generation_view.proofs.view_commands.trees.run_view.Goals as goal

pub returns-in-None : goal.returns-in-None
returns-in-None g c =
    view_listed c.args.asked g.D.Drive c.args.drive c.open_view.new.drive c.in-Ok.view c.in-Ok.ensures.opened.generation_is c.in-Ok.ensures.found c.in-Ok.ensures.looks _ _ _ _
    c.write_view.ensures.drive c.write_view.ensures.log c.in-None.is c.write_view.ensures.told

pub returns-in-Some : goal.returns-in-Some
returns-in-Some g c =
    view_answered c.args.asked g.D.Drive c.args.drive c.open_view.new.drive c.in-Ok.view c.in-Ok.ensures.opened.generation_is c.in-Ok.ensures.found c.in-Ok.ensures.looks c.in-Some.path
    _ _ _ _ c.in-Some.is c.in-Ok.ensures.counts.later
    (subst (λ (t : FileTree). length (blocks_read t c.in-Some.path 0 1048576) ≤ 1048576) c.tree.ensures (blocks_few c.tree.result.now c.in-Some.path 1048576 c.count-tree_is_good.ensures.good))
    c.read_view.ensures

pub returns-in-Err : goal.returns-in-Err
returns-in-Err g c =
    view_unseen c.args.asked g.D.Drive c.args.drive c.open_view.new.drive _ _ _ _ c.in-Err.error c.tell_made.ensures.drive c.tell_made.ensures.log
    c.in-Err.ensures.refused c.in-Err.ensures.counts.told c.in-Err.ensures.looks _ c.view_status.ensures
    (c.tell_made.ensures.told (view_text c.in-Err.error) c.view_text.ensures)
