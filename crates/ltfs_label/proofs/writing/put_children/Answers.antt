use Rattle.std.proofs.Common.{◌∙◌, ◌++◌, List, ℕ, ap}
use Rattle.ltfs_documents.specs.declared.doc_fields.tags.Tag.TheVariants.{Creator}
use Rattle.ltfs_label.specs.Canonical.{leaf_text}
use Rattle.ltfs_documents.specs.DocElements.Pieces.{words}
use Rattle.ltfs_label.proofs.Assembled.{seven}
use Rattle.ltfs_label.proofs.writing.put_children.Goals as goal

pub returns : goal.returns
returns c =
    let creator = c.in_ok-put_words.ensures ∙ ap (λ (text : List ℕ). c.args.out.now.items ++ leaf_text Creator (words text)) c.as_str.ensures in
    seven c.args.out.now.items _ _ _ _ _ _ _ _ _ _ _ _ _ _ creator c.in_ok-put_moment.ensures c.in_ok-put_identifier.ensures c.in_ok-put_location.ensures c.in_ok-put_partitions.ensures c.in_ok-put_number.ensures c.in_ok-put_truth.ensures
