use Rattle.std.proofs.Common.{sym, ap, ◌∙◌, get_or}
use Rattle.plain_tree.proofs.PageLemmas.{pages_kept, bytes_same, zeros, none_of}
use Rattle.plain_tree.proofs.paged.add_page.Goals as goal

pub returns-clause-same : goal.returns-clause-same
returns-clause-same c = bytes_same (λ b. b.value) c.args.pages.now.entries c.insert.new.self.entries c.args.number c.in_ok-page.page c.in_ok-insert.ensures.updates.0 (none_of _ (sym c.contains_key.ensures ∙ c.if-contains_key.false)) (λ j. ap (λ l. get_or l j 0) c.in_ok-page.ensures.ok ∙ zeros 4096 j)

pub returns-clause-kept : goal.returns-clause-kept
returns-clause-kept c = pages_kept (λ b. b.value) c.args.pages.now.entries c.insert.new.self.entries c.args.number c.in_ok-page.page c.in_ok-insert.ensures.updates.0
