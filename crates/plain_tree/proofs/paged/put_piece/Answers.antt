use Rattle.std.proofs.Common.{◌/◌, ◌%◌, ap, ◌∙◌, get_or, ⊎_elim, inl, inr, arith}
use Rattle.plain_tree.proofs.PageLemmas.{pages_kept, byte_kept}
use Rattle.plain_tree.proofs.paged.put_piece.Goals as goal

pub returns-in-Some-clause-others : goal.returns-in-Some-clause-others
returns-in-Some-clause-others c i away =
    byte_kept (λ b. b.value) c.args.pages.now.entries _ (c.args.at / 4096) _ ((c.get_mut.follows.holds _).3 c.requires.there).0 c.in-Some.page.now i c.in-Some.ensures.value
    (λ same. c.put_part.ensures.others (i % 4096) (⊎_elim (λ low. inl (omega arith)) (λ high. inr (omega arith)) away) ∙ ap (λ l. get_or l (i % 4096) 0) c.deref_mut.ensures.value)

pub returns-in-Some-clause-kept : goal.returns-in-Some-clause-kept
returns-in-Some-clause-kept c = pages_kept (λ b. b.value) c.args.pages.now.entries _ (c.args.at / 4096) _ ((c.get_mut.follows.holds _).3 c.requires.there).0
