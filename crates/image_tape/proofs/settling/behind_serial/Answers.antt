use Rattle.std.proofs.Common.{arith, ◌∙◌, drop}
use Rattle.std.proofs.lemmas.List.{length-drop, take_all}
use Rattle.image_tape.proofs.settling.behind_serial.Goals as goal

pub returns : goal.returns
returns c =
    c.copy_from_slice.ensures.after
    ∙ take_all 247 (drop 8 c.args.bytes.now) (omega (arith, length-drop 8 c.args.bytes.now, c.told-bytes))
