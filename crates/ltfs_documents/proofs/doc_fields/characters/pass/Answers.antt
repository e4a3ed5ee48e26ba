use Rattle.std.proofs.Common.{◌∙◌, ap, sym}
use Rattle.std.specs.Str.{chars}
use Rattle.std.specs.Str.Iter.{chars_rest}
use Rattle.std.specs.declared.str.Chars.{Chars}
use Rattle.ltfs_documents.specs.DocFields.Texts.{resolved}
use Rattle.ltfs_documents.proofs.DocFields.Passing.{none_is_left, pass_one}
use Rattle.ltfs_documents.proofs.doc_fields.characters.pass.Goals as goal

pub returns-in-None-clause-stands : goal.returns-in-None-clause-stands
returns-in-None-clause-stands c cut =
    let same = c.in-None.ensures.steps.0.1 in
    c.loop-i.invariant.stands cut ∙ none_is_left cut (chars_rest c.loop-i.rest) c.loop-i.at _ c.in-None.ensures.steps.0.0
    ∙ ap (λ (r : Chars). resolved cut 0 c.loop-i.at (chars (chars_rest r))) (sym same)

pub loop-i-preserved : goal.loop-i-preserved
loop-i-preserved c =
    rw c.len_utf8-at.ensures.len
    (pass_one (chars_rest c.args.rest.now) c.args.place c.args.count (chars_rest c.loop-i.rest) (chars_rest c.next.new.self) c.loop-i.at c.loop-i.i c.in-Some.c c.loop-i-test.true c.loop-i.invariant c.in-Some.ensures.steps.0)

pub returns-clause-fewer : goal.returns-clause-fewer
returns-clause-fewer c = c.loop-i.invariant.fewer
