use Rattle.std.proofs.Common.{◌+◌, ◌*◌, take, drop, sym, ap, ◌∙◌, arith}
use Rattle.std.proofs.lemmas.List.{take_more_set, length-set}
use Rattle.session_script.proofs.HexBytes.{odd, rest_of, pair_more, pair_wrong}
use Rattle.session_script.proofs.bytes.hex_bytes.Goals as goal

pub returns-then-digits-ne0 : goal.returns-then-digits-ne0
returns-then-digits-ne0 c = sym (odd c.args.digits.now (omega arith))

pub returns-in_default : goal.returns-in_default
returns-in_default c =
    sym (pair_wrong c.args.digits.now (take c.loop-k.k c.loop-k.bytes.items) c.loop-k.k (omega arith) (sym c.byte_of.ensures ∙ c.in_default.is))
    ∙ c.loop-k.invariant.1

pub loop-k-preserved : goal.loop-k-preserved
loop-k-preserved c = (
  length-set c.loop-k.bytes.items c.loop-k.k c.in-Some.byte ∙ c.loop-k.invariant.0,
  ap (λ bytes. rest_of bytes (drop (2 * (c.loop-k.k + 1)) c.args.digits.now)) (take_more_set c.loop-k.bytes.items c.loop-k.k c.in-Some.byte (omega (arith, c.loop-k.invariant.0)))
      ∙ sym (pair_more c.args.digits.now (take c.loop-k.k c.loop-k.bytes.items) c.loop-k.k c.in-Some.byte (omega arith) (sym c.byte_of.ensures ∙ c.in-Some.is))
      ∙ c.loop-k.invariant.1,
)
