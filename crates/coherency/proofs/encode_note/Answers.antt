use Rattle.std.proofs.Common.{rules, arith, ◌≡◌, ◌∙◌, sym, length, ap, refl, List, ℕ, Fits}
use Rattle.std.specs.Int.{w64, to_be_bytes}
use Rattle.coherency.proofs.NoteLemmas.{fields, put_field, written, fields-note}
use Rattle.coherency.proofs.encode_note.Goals as goal

pub returns-clause-bytes : goal.returns-clause-bytes
returns-clause-bytes c =
    let v = c.args.values.now in
    let long : length c.uuid_text.result ≡ 36 = search rules in
    written c.put.new.note c.put-2.new.note c.put-3.new.note c.put-4.new.note c.put-5.new.note c.put-6.new.note c.put-7.new.note c.put-8.new.note
    (to_be_bytes w64 v.vcr) (to_be_bytes w64 v.generation) (to_be_bytes w64 v.block) c.uuid_text.result refl refl refl long
    c.put.ensures
    (c.put-2.ensures ∙ ap (λ (field : List ℕ). put_field 1 field c.put.new.note) c.to_be_bytes.ensures)
    (c.put-3.ensures ∙ ap (λ (field : List ℕ). put_field 9 field c.put-2.new.note) c.to_be_bytes-2.ensures)
    (c.put-4.ensures ∙ ap (λ (field : List ℕ). put_field 17 field c.put-3.new.note) c.to_be_bytes-3.ensures)
    c.put-5.ensures c.put-6.ensures c.put-7.ensures c.put-8.ensures
    ∙ ap (fields (to_be_bytes w64 v.vcr) (to_be_bytes w64 v.generation) (to_be_bytes w64 v.block)) c.uuid_text.ensures.text

pub returns-clause-decodes : goal.returns-clause-decodes
returns-clause-decodes c =
    let v = c.args.values.now in
    let long : length c.uuid_text.result ≡ 36 = search rules in
    let vcr_fits : Fits w64 v.vcr = search rules in
    let generation_fits : Fits w64 v.generation = search rules in
    let block_fits : Fits w64 v.block = search rules in
    let text = ap (fields (to_be_bytes w64 v.vcr) (to_be_bytes w64 v.generation) (to_be_bytes w64 v.block)) c.uuid_text.ensures.text in
    fields-note c.put-8.new.note c.uuid_text.result v long (omega arith) (omega arith) (omega arith) c.uuid_text.ensures.parsed (returns-clause-bytes c ∙ sym text)
