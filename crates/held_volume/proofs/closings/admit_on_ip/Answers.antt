use Rattle.std.proofs.Common.{Ok, Err}
use Rattle.held_volume.specs.Stocks.{stocked}
use Rattle.held_volume.proofs.closings.admit_on_ip.Goals as goal
use Rattle.held_volume.proofs.CloseLemmas.{ip_end, ip_still}

pub returns-in_default-clause-applied : goal.returns-in_default-clause-applied
returns-in_default-clause-applied c tree early g on st at i told =
    ip_still (stocked tree c.args.layout.now c.args.frame.now) c.args.due.now g st at c.in_default.is

pub returns-in-Ok-clause-applied : goal.returns-in-Ok-clause-applied
returns-in-Ok-clause-applied c tree early g on st at i told =
    ip_end tree c.args.layout.now c.admit_close_document.new.layout c.args.frame.now c.admit_close_document.new.frame at c.args.due.now c.in-Some.doc c.as_slice.result.now early g on st i told
    c.in-Some.is c.as_slice.ensures.value (Ok c.in-Ok.field-0) (c.in-Ok.ensures {u = tt})

pub returns-in-Err-clause-applied : goal.returns-in-Err-clause-applied
returns-in-Err-clause-applied c tree early g on st at i told =
    ip_end tree c.args.layout.now c.admit_close_document.new.layout c.args.frame.now c.admit_close_document.new.frame at c.args.due.now c.in-Some.doc c.as_slice.result.now early g on st i told
    c.in-Some.is c.as_slice.ensures.value (Err c.in-Err.e) (c.in-Err.ensures {u = tt})
