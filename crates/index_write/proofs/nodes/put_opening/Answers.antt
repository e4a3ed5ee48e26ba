use Rattle.std.proofs.Common.{List, ℕ, ◌++◌, ◌∙◌, ap, refl}
use Rattle.ltfs_documents.specs.declared.doc_fields.tags.Tag.TheVariants.{Name}
use Rattle.index_model.specs.Canonical.{name}
use Rattle.index_write.specs.Parts.{opening}
use Rattle.index_write.proofs.Assembled.{ok4, err4}
use Rattle.index_write.proofs.nodes.put_opening.Goals as goal

pub returns-clause-ok : goal.returns-clause-ok
unfolding opening
returns-clause-ok c =
    let named = c.in_ok-put_name.ensures.ok ∙ ap (λ (x : List ℕ). c.put_number.new.out.items ++ name Name x) c.as_str.ensures in
    ok4 c.put.result _ c.args.out.now.items _ _ _ _ _ _ _ _ c.in_ok-put_number.ensures.ok named c.in_ok-put_traits.ensures.ok refl c.put.ensures.ok

pub returns-clause-err : goal.returns-clause-err
returns-clause-err c = err4 c.put.result c.args.out.now.items _ _ _ _ _ _ _ c.in_ok-put_number.ensures.ok c.in_ok-put_name.ensures.ok c.in_ok-put_traits.ensures.ok c.put.ensures.err
