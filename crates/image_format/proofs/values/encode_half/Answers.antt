use Rattle.std.proofs.Common.{rules, ◌≡◌, ◌∙◌, ◌∷◌, ◌++◌, [], List, ℕ, length, replicate, ap, refl}
use Rattle.std.specs.Int.{w64, to_be_bytes}
use Rattle.image_format.specs.Values.{flag}
use Rattle.image_format.proofs.Fields.{half_written, put_field}
use Rattle.image_format.proofs.values.encode_half.Goals as goal

pub returns : goal.returns
returns c =
    let h = c.args.half.now in
    let long : length c.encode_note.result ≡ 71 = search rules in
    half_written c.put.new.bytes c.put-2.new.bytes c.put-3.new.bytes c.put-4.new.bytes
    (to_be_bytes w64 h.count) (to_be_bytes w64 h.end) c.encode_note.result (flag h.torn) refl refl long
    (c.put.ensures ∙ ap (λ (field : List ℕ). put_field 0 field (replicate 88 0)) c.to_be_bytes.ensures)
    (c.put-2.ensures ∙ ap (λ (field : List ℕ). put_field 8 field c.put.new.bytes) c.to_be_bytes-2.ensures)
    (c.put-3.ensures ∙ ap (λ (b : ℕ). put_field 16 (b ∷ []) c.put-2.new.bytes) c.flag.ensures)
    c.put-4.ensures
    ∙ ap (λ (field : List ℕ). to_be_bytes w64 h.count ++ to_be_bytes w64 h.end ++ flag h.torn ∷ field) c.encode_note.ensures
