use Rattle.std.proofs.Common.{rules, ◌≡◌, ◌∙◌, ◌++◌, List, ℕ, length, replicate, ap, refl}
use Rattle.std.specs.Int.{w64, to_be_bytes}
use Rattle.image_format.specs.Values.{half_bytes}
use Rattle.image_format.proofs.Fields.{put_field, value_written}
use Rattle.image_format.proofs.values.encode_value.Goals as goal

pub returns : goal.returns
returns c =
    let s = c.args.value.now in
    let ip_long : length c.encode_half.result ≡ 88 = search rules in
    let dp_long : length c.encode_half-2.result ≡ 88 = search rules in
    value_written c.put.new.bytes c.put-2.new.bytes c.put-3.new.bytes c.put-4.new.bytes
    (to_be_bytes w64 s.serial) (to_be_bytes w64 s.vcr) c.encode_half.result c.encode_half-2.result refl refl ip_long dp_long
    (c.put.ensures ∙ ap (λ (field : List ℕ). put_field 0 field (replicate 255 0)) c.to_be_bytes.ensures)
    (c.put-2.ensures ∙ ap (λ (field : List ℕ). put_field 8 field c.put.new.bytes) c.to_be_bytes-2.ensures)
    c.put-3.ensures
    c.put-4.ensures
    ∙ ap (λ (field : List ℕ). to_be_bytes w64 s.serial ++ to_be_bytes w64 s.vcr ++ field ++ c.encode_half-2.result ++ replicate 63 0) c.encode_half.ensures
    ∙ ap (λ (field : List ℕ). to_be_bytes w64 s.serial ++ to_be_bytes w64 s.vcr ++ half_bytes s.ip ++ field ++ replicate 63 0) c.encode_half-2.ensures
