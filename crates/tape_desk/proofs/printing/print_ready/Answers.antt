use Rattle.std.proofs.Common.{arith, rules, ◌<◌, ◌^◌}
use Rattle.tape_desk.proofs.HereLemmas.{here_from, still_sound}
use Rattle.tape_desk.proofs.Prints.{few_before, over_then, placed_there, reply_there, taken_at}
use Rattle.tape_desk.proofs.printing.print_ready.Goals as goal

pub reply_here-requires : goal.reply_here-requires
reply_here-requires g c =
    here_from c.args.printer.now c.loop-printer.printer c.args.volume.now.marks c.lines-place.result c.requires.here
    c.loop-printer.invariant.0 c.loop-printer.invariant.2 c.loop-printer.invariant.3 c.lines-place.ensures c.is_open.result
    c.is_open.ensures c.loop-printer-test.true

pub placed-requires : goal.placed-requires
placed-requires g c = placed_there c.args.volume.now.history c.args.volume.now.replies c.lines-place.result c.in-Some.reply.now
    c.requires.count c.in-Some.ensures

pub print-requires : goal.print-requires
print-requires g c =
    let less : c.placements-few.result < 2 ^ 64 = search rules in record {
      few = few_before c.args.volume.now.history c.args.volume.now.replies c.loop-printer.printer.lines c.placements-few.result
          c.in-Some.reply.now c.requires.count c.placements-few.ensures less
          (reply_there c.args.volume.now.replies c.loop-printer.printer.lines c.lines-place.result c.in-Some.reply.now
          c.lines-place.ensures c.in-Some.ensures);
    }

pub loop-printer-preserved : goal.loop-printer-preserved
loop-printer-preserved g c = (
  over_then c.args.printer.now c.loop-printer.printer c.print.new.self c.loop-printer.invariant.0 c.print.ensures.over,
  taken_at g.K.Sink c.loop-printer.printer c.print.new.self c.args.volume.now.history c.args.volume.now.replies c.placed.result
      c.in-Some.reply.now c.lines-place.result c.lines-place.ensures c.placed.ensures c.in-Some.ensures
      c.print.ensures.lines c.print.ensures.text c.loop-printer.invariant.1,
  omega (arith, c.loop-printer.invariant.2, c.print.ensures.lines),
  still_sound c.args.printer.now c.loop-printer.printer c.print.new.self c.loop-printer.invariant.3 c.is_open.result c.is_open.ensures
      c.loop-printer-test.true,
)
