use Rattle.std.proofs.Common.{rules, ℕ, List, ◌≡◌, ◌<◌, ◌^◌, ◌∙◌, ap, length}
use Rattle.image_slots.specs.Slots.{serial_of}
use Rattle.image_slots.proofs.Values.{put_field, serial_back, value_made}
use Rattle.image_slots.proofs.sides.value_of.Goals as goal

pub returns-clause-value : goal.returns-clause-value
returns-clause-value c =
    let long : length c.args.rest.now ≡ 247 = search rules in
    value_made c.args.serial c.args.rest.now c.fill.new.value c.fill-2.new.value long
    (c.fill.ensures ∙ ap (λ (field : List ℕ). put_field 0 field _) c.to_be_bytes.ensures) c.fill-2.ensures

pub returns-clause-serial : goal.returns-clause-serial
returns-clause-serial c =
    let fits : c.args.serial < 2 ^ 64 = search rules in
    ap serial_of (returns-clause-value c) ∙ serial_back c.args.serial c.args.rest.now fits
