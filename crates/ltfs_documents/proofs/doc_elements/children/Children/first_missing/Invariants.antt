use Rattle.std.proofs.Common.{◌≡◌, List, drop}
use Rattle.ltfs_documents.specs.declared.doc_fields.tags.Tag.{Tag}
use Rattle.ltfs_documents.specs.DocElements.Children.{Holds, first_missing}
use Rattle.ltfs_documents.proofs.doc_elements.children.Children.first_missing.Given as goal

abbrev pub invariant-loop-tag : goal.invariant-loop-tag
invariant-loop-tag l = (tags : List Tag) → Holds l.self tags → first_missing (drop l.tag-index l.required) tags ≡ first_missing l.required tags
