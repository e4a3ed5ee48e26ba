use Rattle.std.proofs.Common.{◌∙◌, sym}
use Rattle.ltfs_documents.proofs.DocElements.Missing.{missing_more}
use Rattle.ltfs_documents.proofs.doc_elements.children.Children.first_missing.Goals as goal

pub loop-tag-preserved : goal.loop-tag-preserved
loop-tag-preserved c = λ tags holds. sym (missing_more tags c.args.required.now c.loop-tag.tag-index _ c.loop-tag-test.true (sym (c.if-not-has.ensures tags holds))) ∙ c.loop-tag.invariant tags holds
