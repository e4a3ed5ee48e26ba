use Rattle.std.proofs.Common.{◌≡◌, cond, ltb, is_some, None, ap, ◌∙◌, rules}
use Rattle.std.proofs.lemmas.Map.Made.{filter_same_pairs}
use Rattle.std.specs.List.{filter}
use Rattle.plain_tree.specs.Pages.{page_at}
use Rattle.plain_tree.proofs.PageLemmas.{page_filtered, ltb-is_true, ltb-is_false}
use Rattle.plain_tree.proofs.paged.drop_pages.Goals as goal

pub returns-clause-kept : goal.returns-clause-kept
returns-clause-kept c q low =
    let kept : c.retain.new.self.entries ≡ filter (λ e. ltb e.0 c.args.first) c.args.pages.now.entries = filter_same_pairs _ (λ e. ltb e.0 c.args.first) _ (λ k v b w f' t. search rules) c.args.pages.now.entries c.retain.new.self.entries c.retain.ensures.filtered in
    ap (λ es. page_at es q) kept ∙ page_filtered c.args.pages.now.entries c.args.first q ∙ ap (λ b. cond b (page_at c.args.pages.now.entries q) None) (ltb-is_true q c.args.first low)

pub returns-clause-gone : goal.returns-clause-gone
returns-clause-gone c q high =
    let kept : c.retain.new.self.entries ≡ filter (λ e. ltb e.0 c.args.first) c.args.pages.now.entries = filter_same_pairs _ (λ e. ltb e.0 c.args.first) _ (λ k v b w f' t. search rules) c.args.pages.now.entries c.retain.new.self.entries c.retain.ensures.filtered in
    ap (λ es. is_some (page_at es q)) kept ∙ ap is_some (page_filtered c.args.pages.now.entries c.args.first q) ∙ ap (λ b. is_some (cond b (page_at c.args.pages.now.entries q) None)) (ltb-is_false q c.args.first high)
