use Rattle.ltfs_documents.proofs.DocFields.Escapes.{escape_kept, plain_kept}
use Rattle.ltfs_documents.proofs.doc_fields.writing.put_text_parts.Goals as goal
use Rattle.ltfs_documents.proofs.doc_fields.writing.put_text_parts.Goals.{in-Some+in_ok-put+in_ok-put-2, in_default}

pub loop-i-preserved : goal.loop-i-preserved
loop-i-preserved c =
    let old = c.args.out.now.items in
    let text = c.args.text.now in
    elim c.match-escape_of.branch [
      | in-Some+in_ok-put+in_ok-put-2 w ↦ rw (w.out-is, w.from-is)
          (escape_kept old c.loop-i.out.items _ _ text _ c.loop-i.from c.loop-i.i c.loop-i-test.true w.in-Some.ensures w.in_ok-put.ensures.ok w.in_ok-put-2.ensures.ok c.loop-i.invariant)
      | in_default w ↦ rw (w.out-is, w.from-is) (plain_kept old c.loop-i.out.items text c.loop-i.from c.loop-i.i c.loop-i-test.true w.in_default.ensures c.loop-i.invariant)
    ]
