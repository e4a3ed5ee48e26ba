use Rattle.std.proofs.Common.{take, ap, ◌∙◌, arith, length-take}
use Rattle.std.specs.List.{flat_map}
use Rattle.std.proofs.lemmas.List.{take_all}
use Rattle.session_script.specs.Escapes.{escaped, escaped_byte}
use Rattle.session_script.proofs.Fillings.{one_more, first_and_rest}
use Rattle.session_script.proofs.tails.put_escaped.Goals as goal

pub put_byte-requires : goal.put_byte-requires
put_byte-requires c = omega (arith, c.loop-byte.invariant.few, c.loop-byte-test.true, length-take c.min-count.result c.args.text.now, c.min-count.ensures)

pub loop-byte-preserved : goal.loop-byte-preserved
loop-byte-preserved c = record {
  so_far = one_more escaped_byte (take c.min-count.result c.args.text.now) c.loop-byte.byte-index 0 c.loop-byte.short c.put_byte.new.short c.loop-byte-test.true c.loop-byte.invariant.so_far c.put_byte.ensures.text;
  few = omega (arith, c.loop-byte.invariant.few, c.put_byte.ensures.few);
  many = omega (arith, c.loop-byte.invariant.many, c.put_byte.ensures.some);
}

pub returns-clause-same : goal.returns-clause-same
unfolding escaped
returns-clause-same c =
    let first = take c.min-count.result c.args.text.now in
    first_and_rest escaped_byte c.args.text.now c.min-count.result c.loop-byte.short
    (c.loop-byte.invariant.so_far ∙ ap (flat_map escaped_byte) (take_all c.loop-byte.byte-index first c.loop-byte-test.false))

pub returns-clause-some : goal.returns-clause-some
returns-clause-some c = λ some.
    omega (arith, some, c.loop-byte.invariant.many, c.loop-byte-test.false, length-take c.min-count.result c.args.text.now, c.min-count.ensures)
