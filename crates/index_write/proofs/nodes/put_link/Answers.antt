use Rattle.std.proofs.Common.{refl, length, List, ℕ, ◌++◌, ◌∙◌, ap}
use Rattle.ltfs_documents.specs.declared.doc_fields.tags.Tag.TheVariants.{Symlink}
use Rattle.index_model.specs.Canonical.{name}
use Rattle.index_model.specs.Values.{facts_of}
use Rattle.index_write.specs.Parts.{file_start}
use Rattle.index_write.proofs.Assembled.{ok3, err3}
use Rattle.index_write.proofs.nodes.put_link.Goals as goal

pub returns-clause-ok : goal.returns-clause-ok
unfolding file_start
returns-clause-ok c =
    let front = c.in_ok-put_front.ensures.ok ∙ ap (λ (x : List ℕ). c.args.out.now.items ++ file_start (facts_of c.args.node.now) (length x)) c.as_str-text.ensures in
    let linked = c.in_ok-put_symlink.ensures.ok ∙ ap (λ (x : List ℕ). c.put_front.new.out.items ++ name Symlink x) c.as_str-text.ensures in
    ok3 c.put.result _ c.args.out.now.items _ _ _ _ _ _ front linked refl c.put.ensures.ok

pub returns-clause-err : goal.returns-clause-err
returns-clause-err c = err3 c.put.result c.args.out.now.items _ _ _ _ _ c.in_ok-put_front.ensures.ok c.in_ok-put_symlink.ensures.ok c.put.ensures.err
