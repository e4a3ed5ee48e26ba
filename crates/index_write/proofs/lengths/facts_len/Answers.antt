use Rattle.std.proofs.Common.{List, ℕ, ◌∙◌, ap}
use Rattle.ltfs_documents.specs.declared.doc_fields.tags.Tag.TheVariants.{Name}
use Rattle.tape_types.specs.declared.node_keys.xattrs.Xattr.{Xattr}
use Rattle.index_model.specs.Canonical.{attributes, name}
use Rattle.index_model.specs.Values.{facts_of}
use Rattle.index_write.specs.Sizes.{size}
use Rattle.index_write.proofs.SizeLemmas.{facts_total}
use Rattle.index_write.proofs.lengths.facts_len.Goals as goal

pub returns : goal.returns
returns c =
    let named = c.name_len.ensures ∙ ap (λ (x : List ℕ). size (name Name x)) c.as_str.ensures in
    let told = c.attributes_len.ensures ∙ ap (λ (xs : List Xattr). size (attributes xs)) c.as_slice.ensures in
    facts_total (facts_of c.args.node.now) _ _ _ _ _ c.digits_len.ensures named c.truth_len.ensures told c.total.ensures
