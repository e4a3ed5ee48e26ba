use Rattle.std.proofs.Common.{◌∙◌, ℕ, Some, Result, subst}
use Rattle.ltfs_documents.specs.declared.doc_fields.errors.FieldErr.{FieldErr}
use Rattle.ltfs_documents.specs.DocFields.Characters.{IsTaken, characters}
use Rattle.ltfs_documents.proofs.DocElements.Base64Characters.{decoding_begins, decoding_goes_on, decoding_stops}
use Rattle.ltfs_documents.proofs.doc_elements.encodings.decode_characters.Goals as goal

pub loop-taken-init : goal.loop-taken-init
loop-taken-init c = decoding_begins (characters c.args.left) c.in_ok-out.out.items c.in_ok-block.block.items c.in_ok-out.ensures.items c.in_ok-block.ensures.items

pub returns-then-not-branch : goal.returns-then-not-branch
returns-then-not-branch c =
    let left = characters c.loop-taken.left in
    let one = subst (λ (t : Result ℕ FieldErr). IsTaken (Some t) left (characters c.next.new.self)) c.in-Ok.is c.in-Some.ensures.value in
    decoding_stops (characters c.args.left) left c.next.new.self c.loop-taken.out.items c.loop-taken.block.items c.take_bytes.new.out.items c.take_bytes.new.block.items c.as_bytes-bytes.result.now c.in-Ok.c c.in_ok-take_bytes.field-0
    c.loop-taken.invariant one (c.as_bytes-bytes.ensures.value ∙ c.encode_utf8.ensures.value) (c.in_ok-take_bytes.ensures {u = tt}) c.if-not-branch.true

pub loop-taken-preserved : goal.loop-taken-preserved
loop-taken-preserved c =
    let left = characters c.loop-taken.left in
    let one = subst (λ (t : Result ℕ FieldErr). IsTaken (Some t) left (characters c.next.new.self)) c.in-Ok.is c.in-Some.ensures.value in
    decoding_goes_on (characters c.args.left) left c.next.new.self c.loop-taken.out.items c.loop-taken.block.items c.take_bytes.new.out.items c.take_bytes.new.block.items c.as_bytes-bytes.result.now c.in-Ok.c c.in_ok-take_bytes.field-0
    c.loop-taken.invariant one (c.as_bytes-bytes.ensures.value ∙ c.encode_utf8.ensures.value) (c.in_ok-take_bytes.ensures {u = tt}) c.if-not-branch.false
