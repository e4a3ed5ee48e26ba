use Rattle.std.proofs.Common.{List, ℕ, ◌++◌, ◌∙◌, ap, refl}
use Rattle.ltfs_documents.specs.declared.doc_fields.tags.Tag.TheVariants.{Creator}
use Rattle.index_model.specs.Canonical.{words}
use Rattle.index_write.specs.Parts.{volume_front}
use Rattle.index_write.proofs.Assembled.{ok5, err5}
use Rattle.index_write.proofs.volume.put_facts.Goals as goal

pub returns-clause-ok : goal.returns-clause-ok
unfolding volume_front
returns-clause-ok c =
    let creator = c.in_ok-put_words.ensures.ok ∙ ap (λ (x : List ℕ). c.args.out.now.items ++ words Creator x) c.as_str.ensures in
    ok5 c.put_moment.result _ c.args.out.now.items _ _ _ _ _ _ _ _ _ _ creator c.in_ok-put_comment.ensures.ok c.in_ok-put_identifier.ensures.ok c.in_ok-put_number.ensures.ok refl c.put_moment.ensures.ok

pub returns-clause-err : goal.returns-clause-err
returns-clause-err c = err5 c.put_moment.result c.args.out.now.items _ _ _ _ _ _ _ _ _ c.in_ok-put_words.ensures.ok c.in_ok-put_comment.ensures.ok c.in_ok-put_identifier.ensures.ok c.in_ok-put_number.ensures.ok c.put_moment.ensures.err
