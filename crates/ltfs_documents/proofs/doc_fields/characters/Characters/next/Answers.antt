use Rattle.std.proofs.Common.{◌∙◌, ◌+◌, ℕ, List, Bool, ap, sym}
use Rattle.std.specs.Str.{chars}
use Rattle.std.specs.Str.Iter.{chars_rest}
use Rattle.ltfs_documents.specs.DocFields.Characters.{characters}
use Rattle.ltfs_documents.specs.DocFields.Texts.{resolved, unit_at}
use Rattle.ltfs_documents.proofs.DocFields.Passing.{ends_there, stops_at, takes_one}
use Rattle.ltfs_documents.proofs.doc_fields.characters.Characters.next.Goals as goal

pub returns-in_err-c-clause-value : goal.returns-in_err-c-clause-value
returns-in_err-c-clause-value c =
    rw c.from_residual.ensures (sym (ap characters c.self.view_is) ∙ ends_there c.self.inside.cut (chars_rest c.self.inside.rest) c.self.inside.place c.in_err-c.ensures.steps.0.0)

pub returns-in-Ok-clause-value : goal.returns-in-Ok-clause-value
returns-in-Ok-clause-value c =
    let behind = c.as_bytes.ensures.value ∙ c.as_str.ensures in
    let is = sym (ap (λ (b : List ℕ). unit_at c.self.inside.cut c.self.inside.place c.in_ok-c.c b) behind) ∙ sym c.unit.ensures ∙ c.in-Ok.is in
    let passed = λ (cut : Bool). ap (λ n. resolved cut c.in-Ok.more (c.self.inside.place + n) (chars (chars_rest c.next.new.self))) (sym c.len_utf8.ensures.len) ∙ c.pass-self-inside.ensures.stands cut in
    sym (ap characters c.self.view_is)
    ∙ takes_one c.self.inside.cut (chars_rest c.self.inside.rest) (chars_rest c.next.new.self) (chars_rest c.pass-self-inside.new.rest) c.self.inside.place c.pass-self-inside.result c.in_ok-c.c c.in-Ok.given c.in-Ok.more c.self.invariant.0
    c.in_ok-c.ensures.steps.0 is passed

pub returns-in-Err-clause-value : goal.returns-in-Err-clause-value
returns-in-Err-clause-value c =
    let behind = c.as_bytes.ensures.value ∙ c.as_str.ensures in
    let is = sym (ap (λ (b : List ℕ). unit_at c.self.inside.cut c.self.inside.place c.in_ok-c.c b) behind) ∙ sym c.unit.ensures ∙ c.in-Err.is in
    sym (ap characters c.self.view_is)
    ∙ stops_at c.self.inside.cut (chars_rest c.self.inside.rest) (chars_rest c.next.new.self) c.self.inside.place c.in_ok-c.c c.in-Err.fault c.self.invariant.0 c.in_ok-c.ensures.steps.0 is
