use Rattle.std.proofs.Common.{codes, ◌++◌}
use Rattle.std.specs.Fmt.{decimal}
use Rattle.ltfs_documents.specs.declared.doc_fields.tags.Tag.TheVariants.{FileOffset, Partition, StartBlock, ByteOffset}
use Rattle.index_model.specs.Canonical.{letter, number}
use Rattle.index_write.proofs.Assembled.{ok5, err5, joined}
use Rattle.index_write.proofs.nodes.put_extent.Goals as goal

pub returns-clause-ok : goal.returns-clause-ok
returns-clause-ok c =
    let e = c.args.extent.now in
    ok5 c.put_number-4.result _ c.args.out.now.items _ _ _ _ _ _ _ _ _ _ c.in_ok-put_number.ensures.ok c.in_ok-put_sign.ensures.ok c.in_ok-put_number-2.ensures.ok c.in_ok-put_number-3.ensures.ok
    (joined (codes "<extent>" ++ (number FileOffset e.offset ++ letter Partition e.letter ++ number StartBlock e.block ++ number ByteOffset e.byte)) (codes "<bytecount>") (decimal e.count) (codes "</bytecount>") (codes "</extent>")) c.put_number-4.ensures.ok

pub returns-clause-err : goal.returns-clause-err
returns-clause-err c = err5 c.put_number-4.result c.args.out.now.items _ _ _ _ _ _ _ _ _ c.in_ok-put_number.ensures.ok c.in_ok-put_sign.ensures.ok c.in_ok-put_number-2.ensures.ok c.in_ok-put_number-3.ensures.ok c.put_number-4.ensures.err
