use Rattle.std.proofs.Common.{◌+◌, ◌≡◌, ◌++◌, length, drop, map, sym, ap, ◌∙◌, Some, ℕ, arith}
use Rattle.std.specs.List.{range_with_len}
use Rattle.std.proofs.Math.ListN.{get_or-map}
use Rattle.std.proofs.lemmas.List.{length-map}
use Rattle.plain_tree.specs.Cells.{Cell, written}
use Rattle.plain_tree.specs.Pages.{byte_at}
use Rattle.plain_tree.proofs.PageLemmas.{cells_written, padded_is}
use Rattle.plain_tree.proofs.paged.PagedFile.write.Goals as goal

pub returns-clause-ok : goal.returns-clause-ok
returns-clause-ok c =
    let before = c.self.inside.pages.entries in
    let len = c.self.inside.length in
    let bytes = c.args.bytes.now in
    let some : ℕ → Cell = λ b. Some b in
    let old : ℕ → Cell = λ i. Some (byte_at (λ b. b.value) before i) in
    let new : ℕ → Cell = λ i. Some (byte_at (λ b. b.value) c.put_bytes.new.pages.entries i) in
    let long : length (map some bytes) ≡ length bytes = length-map bytes some in
    cells_written old new len c.max-self-inside.result c.args.offset (map some bytes)
    (λ k within. ap Some (c.put_bytes.ensures.inside k (omega arith)) ∙ sym (get_or-map some bytes k 0))
    (λ i low. ap Some (c.put_bytes.ensures.below i low ∙ c.in_ok-add_pages.ensures.same i))
    (λ i high. ap Some (c.put_bytes.ensures.above i (omega arith) ∙ c.in_ok-add_pages.ensures.same i))
    (λ i past. ap Some (c.self.invariant i past)) (omega (arith, c.max-self-inside.ensures))
    ∙ ap (λ p. p ++ map some bytes ++ drop (c.args.offset + length (map some bytes)) (map old (range_with_len 0 len))) (padded_is old len c.args.offset)
    ∙ ap (λ cells. written cells c.args.offset (map some bytes)) c.self.view_is
