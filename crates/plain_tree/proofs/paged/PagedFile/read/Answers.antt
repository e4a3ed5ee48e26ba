use Rattle.std.proofs.Common.{◌+◌, ◌-◌, ℕ, sym, ap, ◌∙◌, Some, arith}
use Rattle.std.specs.List.{range_with_len}
use Rattle.plain_tree.specs.Cells.{Cell, bytes_of, range_of}
use Rattle.plain_tree.specs.Pages.{byte_at}
use Rattle.plain_tree.proofs.PageLemmas.{cells_read, all_there}
use Rattle.plain_tree.proofs.paged.PagedFile.read.Goals as goal

pub returns : goal.returns
returns c =
    let len = c.self.inside.length in
    let byte : ℕ → ℕ = byte_at (λ b. b.value) c.self.inside.pages.entries in
    let cell : ℕ → Cell = λ i. Some (byte i) in
    let from = c.min-from.result in
    let n = from + c.min-size.result - from in
    ap (λ cells. bytes_of (range_of cells c.args.offset c.args.count)) (sym c.self.view_is)
    ∙ sym (ap bytes_of (cells_read cell len c.args.offset from c.args.count n (omega arith) (omega arith)))
    ∙ all_there byte (range_with_len from n)
    ∙ sym (ap Some (c.from_vec.ensures ∙ c.in_ok-bytes.ensures))
