use Rattle.std.proofs.Common.{◌/◌, ◌%◌, ℕ, ap, ◌∙◌, refl, Some, arith}
use Rattle.plain_tree.specs.Cells.{Cell, resized}
use Rattle.plain_tree.specs.Pages.{byte_at, byte_in}
use Rattle.plain_tree.proofs.PageLemmas.{cells_resized, padded_is}
use Rattle.plain_tree.proofs.paged.PagedFile.resize.Goals as goal
use Rattle.plain_tree.proofs.paged.PagedFile.resize.Goals.{then-length-self, else-length-self}

pub returns : goal.returns
returns c =
    let len = c.self.inside.length in
    let before = c.self.inside.pages.entries in
    let old : ℕ → Cell = λ i. Some (byte_at (λ b. b.value) before i) in
    elim c.if-length-self.branch [
      | then-length-self w ↦
          let new : ℕ → Cell = λ i. Some (byte_at (λ b. b.value) w.clear_tail.new.pages.entries i) in
          rw w.self-inside-is (
          cells_resized old new len c.args.length
          (λ i low. ap Some (w.clear_tail.ensures.below i low ∙ ap (λ p. byte_in (λ b. b.value) p (i % 4096)) (w.drop_pages.ensures.kept (i / 4096) (omega (arith, w.div_ceil.ensures)))))
          (λ i past. ap Some (c.self.invariant i past))
          ∙ padded_is old len c.args.length ∙ ap (λ cells. resized cells c.args.length) c.self.view_is)
      | else-length-self w ↦
          rw w.self-inside-is (cells_resized old old len c.args.length (λ i low. refl) (λ i past. ap Some (c.self.invariant i past))
          ∙ padded_is old len c.args.length ∙ ap (λ cells. resized cells c.args.length) c.self.view_is)
    ]
