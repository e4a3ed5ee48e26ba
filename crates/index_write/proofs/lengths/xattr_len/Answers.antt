use Rattle.std.proofs.Common.{List, ℕ, ◌∙◌, ap}
use Rattle.ltfs_documents.specs.declared.doc_fields.tags.Tag.TheVariants.{Key}
use Rattle.index_model.specs.Canonical.{name}
use Rattle.index_write.specs.Parts.{value_text}
use Rattle.index_write.specs.Sizes.{size}
use Rattle.index_write.proofs.AttributeLemmas.{xattr_total}
use Rattle.index_write.proofs.lengths.xattr_len.Goals as goal

pub returns : goal.returns
returns c =
    let key = c.key_len.ensures ∙ ap (λ (x : List ℕ). size (name Key x)) c.as_str.ensures in
    let value = c.value_len.ensures ∙ ap (λ (x : List ℕ). size (value_text x)) c.as_slice.ensures in
    xattr_total c.args.xattr.now _ _ _ key value c.total.ensures
