use Rattle.std.proofs.Common.{◌<◌, ◌+◌, ◌*◌, ◌++◌, length, take, ap, ◌∙◌, arith, rules}
use Rattle.std.specs.List.{flat_map}
use Rattle.std.proofs.lemmas.List.Elements.{All-from_get_or}
use Rattle.std.proofs.lemmas.Slice.{take-put_mid}
use Rattle.session_script.specs.LogText.{hex_byte}
use Rattle.session_script.proofs.HexText.{encoded}
use Rattle.session_script.proofs.short.Short.put_hex.Goals as goal

pub returns : goal.returns
returns c =
    let short = c.self.inside in
    let bytes = c.args.bytes.now in
    let room = c.encode_to_slice.new.output in
    let is = encoded c.encode_to_slice.result bytes room (c.encode_to_slice.ensures.fits.1 (search rules)) c.encode_to_slice.ensures.written
    (All-from_get_or (λ b. b < 256) bytes 0 (λ i within. omega (arith, c.type_inv.bytes i))) in
    take-put_mid short.len _ short.bytes room (short.len + 2 * length bytes) (search rules) (search rules)
    ∙ ap (λ l. take short.len short.bytes ++ l) is
    ∙ ap (λ l. l ++ flat_map hex_byte bytes) c.self.view_is
