use Rattle.std.proofs.Common.{◌≡◌, length, subst, arith}
use Rattle.extent_map.specs.Cells.{tape_of}
use Rattle.plain_tree.specs.Calls.{answer}
use Rattle.plain_tree.specs.declared.calls.Answer.{Answer}
use Rattle.plain_tree.specs.declared.calls.Answer.TheVariants as answers
use Rattle.plain_tree.specs.declared.calls.Call.TheVariants as asks
use Rattle.file_tree.specs.Tree.{plain_of}
use Rattle.generation_view.specs.Reads.{IsReadBy, blocks_read}
use Rattle.generation_view.specs.Views.{Opened}
use Rattle.generation_view.proofs.Fetches.{not_read}
use Rattle.generation_view.proofs.RangeReads.{at_read, file_read, refused_read}
use Rattle.generation_view.proofs.views.View.read.Goals as goal

pub read_file-requires-clause-file : goal.read_file-requires-clause-file
read_file-requires-clause-file g c =
    let at = at_read c.self.inside.tree c.args.path c.as_slice.result.now c.args.offset c.args.count c.in-Ok.file
    c.as_slice.ensures c.in-Ok.ensures in
    file_read c.self.inside.tree c.args.path c.args.offset c.args.count c.in-Ok.file at.0 at.1

pub returns-in-Ok : goal.returns-in-Ok
returns-in-Ok g c =
    let at = at_read c.self.inside.tree c.args.path c.as_slice.result.now c.args.offset c.args.count c.in-Ok.file
    c.as_slice.ensures c.in-Ok.ensures in
    subst (λ (view : Opened). IsReadBy g.D.Drive (length (blocks_read view.tree c.args.path c.args.offset c.args.count)) (λ held. answer (plain_of (tape_of held) view.tree) (asks.Read c.args.path c.args.offset c.args.count)) c.args.drive.now c.read_file.new.drive c.read_file.result)
    c.self.view_is (c.read_file.ensures c.args.path at.1 at.0)

pub returns : goal.returns
returns g c =
    not_read g.D.Drive c.args.drive.now c.args.drive.now _ (λ held. answer (plain_of (tape_of held) c.args.self.now.tree) (asks.Read c.args.path c.args.offset c.args.count))
    (answers.Refused c.in-Err.refusal) (omega (arith, c.commands-commands_are_in_range.ensures))
    (λ held. subst (λ (view : Opened). answers.Refused c.in-Err.refusal ≡ answer (plain_of (tape_of held) view.tree) (asks.Read c.args.path c.args.offset c.args.count)) c.self.view_is
    (refused_read c.self.inside.tree c.args.path c.as_slice.result.now c.args.offset c.args.count c.in-Err.refusal c.as_slice.ensures c.in-Err.ensures (tape_of held)))
