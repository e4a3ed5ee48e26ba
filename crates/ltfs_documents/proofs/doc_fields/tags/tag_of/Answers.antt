use Rattle.std.proofs.Common.{sym, ◌∙◌, arith}
use Rattle.std.specs.Cmp.Lexicographic.{bytes_decides}
use Rattle.ltfs_documents.proofs.DocFields.Names.{named, not_named, none_empty}
use Rattle.ltfs_documents.proofs.doc_fields.tags.tag_of.Goals as goal

pub returns-then-is_empty : goal.returns-then-is_empty
returns-then-is_empty c = none_empty c.args.name.now (grind (arith))

pub returns-then-eq : goal.returns-then-eq
returns-then-eq c =
    let is = (bytes_decides c.args.name.now c.name_of.result.now).0 (sym c.eq.ensures ∙ c.if-eq.true) in
    rw (is, c.name_of.ensures.name) (sym (named c.likely-tag.result))

pub returns-else-eq : goal.returns-else-eq
returns-else-eq c =
    not_named c.args.name.now c.likely-tag.result c.likely-tag.ensures (λ is.
    let yes = (bytes_decides c.args.name.now c.name_of.result.now).1 (is ∙ sym c.name_of.ensures.name) in
    absurd (cc))
