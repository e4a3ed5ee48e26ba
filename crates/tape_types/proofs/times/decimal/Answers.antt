use Rattle.std.proofs.Common.{rules, arith, ◌∙◌}
use Rattle.tape_types.proofs.DigitLemmas.{digits_written}
use Rattle.tape_types.proofs.times.decimal.Goals as goal

pub loop-at-preserved : goal.loop-at-preserved
loop-at-preserved g c = record {
  whole = search rules;
  within = omega arith;
  written = c.loop-at.invariant.written ∙ digits_written c.loop-at.text c.loop-at.at c.loop-at.rest (omega arith) (omega arith);
}
