use Rattle.std.proofs.lemmas.Option.{slice_get-get_or}
use Rattle.index_model.proofs.IndexFaults.ExtentSteps.{end, step}
use Rattle.index_model.proofs.index_faults.extents.ascend.Goals as goal

pub loop-extent-preserved : goal.loop-extent-preserved
loop-extent-preserved c =
    let is = slice_get-get_or c.args.extents.now c.loop-extent.extent-index record { offset = 0; letter = 0; block = 0; byte = 0; count = 0 } c.loop-extent-test.true in
    step c.args.extents.now c.loop-extent.end c.loop-extent.extent-index c.loop-extent.invariant _ is c.in-Some.next c.in-Some.ensures.next

pub returns-clause-yes : goal.returns-clause-yes
returns-clause-yes c = λ _. end c.args.extents.now c.loop-extent.end c.loop-extent.extent-index c.loop-extent.invariant c.loop-extent-test.false
