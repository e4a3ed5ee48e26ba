use Rattle.std.proofs.Common.{◌+◌, ◌≡◌, ◌/◌, ◌%◌, ◌++◌, slice_index, sym, ap, ◌∙◌, arith, get_or}
use Rattle.std.proofs.lemmas.Result.{on_ok_weaker}
use Rattle.plain_tree.specs.Pages.{byte_at, byte_in, page_at}
use Rattle.plain_tree.proofs.PageLemmas.{ranges_same}
use Rattle.plain_tree.proofs.paged.append_piece.Goals as goal

pub returns-in-Some : goal.returns-in-Some
returns-in-Some c = on_ok_weaker c.append_part.result
    (λ is. is ∙ ap (λ l. c.args.bytes.now.items ++ l) (ranges_same (λ i. slice_index c.deref.result.now i) (byte_at (λ b. b.value) c.args.pages.now.entries) (c.args.at % 4096) c.args.at c.args.count
    (λ k within.
    let page : (c.args.at + k) / 4096 ≡ c.args.at / 4096 = omega arith in
    let place : c.args.at % 4096 + k ≡ (c.args.at + k) % 4096 = omega arith in
    ap (λ j. get_or c.deref.result.now j 0) place ∙ ap (λ l. get_or l ((c.args.at + k) % 4096) 0) c.deref.ensures ∙ ap (λ p. byte_in (λ b. b.value) p ((c.args.at + k) % 4096)) (c.in-Some.ensures.value ∙ ap (page_at c.args.pages.now.entries) (sym page)))))
    c.append_part.ensures

pub returns-in-None : goal.returns-in-None
returns-in-None c = on_ok_weaker c.append_zeros.result
    (λ is. is ∙ ap (λ l. c.args.bytes.now.items ++ l) (ranges_same (λ i. 0) (byte_at (λ b. b.value) c.args.pages.now.entries) 0 c.args.at c.args.count
    (λ k within.
    let page : (c.args.at + k) / 4096 ≡ c.args.at / 4096 = omega arith in
    ap (λ p. byte_in (λ b. b.value) p ((c.args.at + k) % 4096)) (c.in-None.ensures.value ∙ ap (page_at c.args.pages.now.entries) (sym page)))))
    c.append_zeros.ensures
