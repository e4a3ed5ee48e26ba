use Rattle.std.proofs.Common.{List, ℕ, ◌++◌, ◌∙◌, ap}
use Rattle.ltfs_documents.specs.declared.doc_fields.tags.Tag.TheVariants.{Name}
use Rattle.index_model.specs.Canonical.{name}
use Rattle.index_model.specs.Values.{facts_of}
use Rattle.index_write.specs.Parts.{file_start}
use Rattle.index_write.proofs.Assembled.{ok4, err4, traits_joined}
use Rattle.index_write.proofs.nodes.put_front.Goals as goal

pub returns-clause-ok : goal.returns-clause-ok
unfolding file_start
returns-clause-ok c =
    let named = c.in_ok-put_name.ensures.ok ∙ ap (λ (x : List ℕ). c.put_number.new.out.items ++ name Name x) c.as_str.ensures in
    ok4 c.put_traits.result _ c.args.out.now.items _ _ _ _ _ _ _ _ c.in_ok-put_number.ensures.ok named c.in_ok-put_number-2.ensures.ok (traits_joined (facts_of c.args.node.now) c.args.length) c.put_traits.ensures.ok

pub returns-clause-err : goal.returns-clause-err
returns-clause-err c = err4 c.put_traits.result c.args.out.now.items _ _ _ _ _ _ _ c.in_ok-put_number.ensures.ok c.in_ok-put_name.ensures.ok c.in_ok-put_number-2.ensures.ok c.put_traits.ensures.err
