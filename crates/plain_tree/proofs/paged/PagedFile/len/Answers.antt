use Rattle.std.proofs.Common.{sym, ap, ◌∙◌, length, Some}
use Rattle.std.proofs.lemmas.List.FromFn.{length-map-range_with_len}
use Rattle.plain_tree.specs.Pages.{byte_at}
use Rattle.plain_tree.proofs.paged.PagedFile.len.Goals as goal

pub returns : goal.returns
returns c = sym (length-map-range_with_len (λ i. Some (byte_at (λ b. b.value) c.self.inside.pages.entries i)) 0 c.self.inside.length) ∙ ap length c.self.view_is
