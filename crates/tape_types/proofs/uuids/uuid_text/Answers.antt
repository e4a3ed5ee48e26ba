use Rattle.std.proofs.Common.{rules, ◌<◌, ◌^◌, ◌∙◌, sym, length, ap, Some}
use Rattle.uuid.specs.Text.{hyphenated_text, lower, parsed}
use Rattle.tape_types.proofs.UuidLemmas.{length-uuid, uuid_in-written}
use Rattle.tape_types.proofs.uuids.uuid_text.Goals as goal

pub copy_from_slice-requires : goal.copy_from_slice-requires
copy_from_slice-requires c =
    let e = c.hyphenated.ensures ∙ c.from_u128.ensures in
    let text = c.as_bytes.ensures.value ∙ c.encode_lower-text.ensures.text ∙ ap (hyphenated_text lower) e in
    sym (ap length text ∙ length-uuid c.args.uuid)

pub returns-clause-text : goal.returns-clause-text
returns-clause-text c =
    let e = c.hyphenated.ensures ∙ c.from_u128.ensures in
    c.copy_from_slice.ensures.after ∙ c.as_bytes.ensures.value ∙ c.encode_lower-text.ensures.text ∙ ap (hyphenated_text lower) e

pub returns-clause-parsed : goal.returns-clause-parsed
returns-clause-parsed c =
    let fits : c.args.uuid < 2 ^ 128 = search rules in
    let long = ap length (returns-clause-text c) ∙ length-uuid c.args.uuid in
    let e = c.hyphenated.ensures ∙ c.from_u128.ensures in
    let copied = c.copy_from_slice.ensures.after ∙ c.as_bytes.ensures.value in
    uuid_in-written c.copy_from_slice.new.self c.args.uuid long fits (sym (ap Some e) ∙ c.encode_lower-text.ensures.parsed ∙ ap parsed (sym copied))
