use Rattle.std.proofs.Common.{◌∙◌, ℕ, Some, Ok, Result, sym, ap, subst, string_bytes}
use Rattle.std.specs.Str.{chars}
use Rattle.ltfs_documents.specs.declared.doc_fields.errors.FieldErr.{FieldErr}
use Rattle.ltfs_documents.specs.DocFields.Characters.{IsTaken, characters}
use Rattle.ltfs_documents.specs.DocFields.Texts.{resolved}
use Rattle.ltfs_documents.proofs.DocFields.TextSteps.{ends_text, fails, stops_text, takes_unit}
use Rattle.ltfs_documents.proofs.doc_fields.texts.resolve_each.Goals as goal

pub loop-taken-preserved : goal.loop-taken-preserved
loop-taken-preserved c =
    let left = characters c.loop-taken.left in
    let behind = characters c.next.new.self in
    takes_unit (resolved c.args.cut 0 c.args.at (chars c.args.text.now)) left behind c.in-Ok.c (string_bytes c.loop-taken.out) (string_bytes c.push.new.self) c.loop-taken.invariant
    (subst (λ (t : Result ℕ FieldErr). IsTaken (Some t) left behind) c.in-Ok.is c.in-Some.ensures.value) c.in_ok-push-in-Ok.ensures.bytes

pub returns-in-Err : goal.returns-in-Err
returns-in-Err c =
    let left = characters c.loop-taken.left in
    let behind = characters c.next.new.self in
    fails c.in-Err.fault _
    (stops_text c.args.cut c.args.at c.args.text.now (string_bytes c.loop-taken.out) left behind c.in-Err.fault c.loop-taken.invariant
    (subst (λ (t : Result ℕ FieldErr). IsTaken (Some t) left behind) c.in-Err.is c.in-Some.ensures.value))

pub returns : goal.returns
returns c =
    ends_text c.args.cut c.args.at c.args.text.now (string_bytes c.loop-taken.out) (characters c.loop-taken.left) (characters c.next.new.self) c.loop-taken.invariant c.in_default.ensures.value
    ∙ ap Ok (sym c.from_string.ensures)
