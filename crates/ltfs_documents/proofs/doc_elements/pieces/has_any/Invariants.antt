use Rattle.std.proofs.Common.{◌≡◌, List, drop}
use Rattle.ltfs_documents.specs.declared.doc_fields.tags.Tag.{Tag}
use Rattle.ltfs_documents.specs.DocElements.Children.{Holds}
use Rattle.ltfs_documents.specs.DocElements.Pieces.{has_any}
use Rattle.ltfs_documents.proofs.doc_elements.pieces.has_any.Given as goal

abbrev pub invariant-loop-tag : goal.invariant-loop-tag
invariant-loop-tag l = (there : List Tag) → Holds l.seen there → has_any (drop l.tag-index l.tags) there ≡ has_any l.tags there
