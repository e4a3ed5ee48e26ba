use Rattle.std.proofs.Common.{◌/◌, ◌%◌, ap, sym, ◌∙◌, get_or, arith, is_some}
use Rattle.plain_tree.proofs.PageLemmas.{byte_kept}
use Rattle.plain_tree.proofs.paged.clear_tail.Goals as goal

pub returns-in-Some-clause-below : goal.returns-in-Some-clause-below
returns-in-Some-clause-below c i low =
    byte_kept (λ b. b.value) c.args.pages.now.entries _ (c.args.offset / 4096) _ ((c.get_mut.follows.holds _).3 (ap is_some (sym c.in-Some.ensures.value))).0 c.in-Some.page.now i c.in-Some.ensures.value
    (λ same. c.clear_part.ensures.below (i % 4096) (omega arith) ∙ ap (λ l. get_or l (i % 4096) 0) c.deref_mut.ensures.value)

pub returns-in-Some-clause-others : goal.returns-in-Some-clause-others
returns-in-Some-clause-others c i other =
    byte_kept (λ b. b.value) c.args.pages.now.entries _ (c.args.offset / 4096) _ ((c.get_mut.follows.holds _).3 (ap is_some (sym c.in-Some.ensures.value))).0 c.in-Some.page.now i c.in-Some.ensures.value
    (λ same. absurd (other (sym same)))
