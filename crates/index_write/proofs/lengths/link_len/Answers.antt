use Rattle.std.proofs.Common.{List, ℕ, ◌∙◌, ap, length}
use Rattle.std.specs.Fmt.{decimal}
use Rattle.ltfs_documents.specs.declared.doc_fields.tags.Tag.TheVariants.{Symlink}
use Rattle.index_model.specs.Canonical.{name}
use Rattle.index_model.specs.Values.{facts_of}
use Rattle.index_write.specs.Sizes.{size}
use Rattle.index_write.proofs.SizeLemmas.{link_total}
use Rattle.index_write.proofs.lengths.link_len.Goals as goal

pub returns : goal.returns
returns c =
    let count = c.digits_len.ensures ∙ ap (λ (x : List ℕ). length (decimal (length x))) c.as_str-text.ensures in
    let linked = c.symlink_len.ensures ∙ ap (λ (x : List ℕ). size (name Symlink x)) c.as_str-text.ensures in
    link_total (facts_of c.args.node.now) c.args.text.now _ _ _ _ c.facts_len.ensures count linked c.total.ensures
