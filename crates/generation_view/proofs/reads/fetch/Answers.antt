use Rattle.std.proofs.Common.{◌∙◌, List, ℕ, sym, subst}
use Rattle.extent_map.specs.Cells.{tape_of}
use Rattle.extent_map.specs.Replies.{IsBlock}
use Rattle.generation_view.proofs.Fetches.{block_read, fetched_one}
use Rattle.generation_view.proofs.reads.fetch.Goals as goal

pub returns-in-Ok-read-clause-blocks : goal.returns-in-Ok-read-clause-blocks
returns-in-Ok-read-clause-blocks g c =
    fetched_one g.D.Drive c.args.place c.args.drive.now c.as_slice.result.now c.args.reading.now c.fill.new.self c.fill.ensures
    (λ held h. subst (λ (block : List ℕ). IsBlock (tape_of held) c.args.place block) (sym c.as_slice.ensures.value)
    (block_read held c.args.place c.in-Ok-read.field-0 _ (c.in-Ok-read.ensures.item c.args.place held c.in-Ok.ensures.head (c.in-Ok.ensures.held ∙ h))))
