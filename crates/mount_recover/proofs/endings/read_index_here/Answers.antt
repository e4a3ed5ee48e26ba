use Rattle.std.proofs.Common.{◌≡◌, ◌+◌, Option, Some, true, false, sym, subst, ◌∙◌}
use Rattle.std.specs.Prelude.{IfSome}
use Rattle.tape_types.specs.declared.cartridges.Part.{Part}
use Rattle.tape_types.specs.Cartridges.{items_of}
use Rattle.mount_recover.specs.declared.endings.Run.{Run}
use Rattle.mount_recover.proofs.EndingLemmas.{end_told, ended_told, next_ahead, none_is, run_is, took_end, took_mark, took_run}
use Rattle.mount_recover.proofs.endings.read_index_here.Goals as goal

pub returns-in-Ok-false-clause-told : goal.returns-in-Ok-false-clause-told
returns-in-Ok-false-clause-told g c = λ held bs ahead some all.
    let yes : true ≡ false = sym (c.in-Ok-false.ensures.told (record { part = ahead.part; pos = c.args.mark }) held ahead.head ahead.held ahead.index.opens) ∙ c.in-Ok-false.field-0-test in
    cc yes

pub returns-in-Ok-false-clause-took : goal.returns-in-Ok-false-clause-took
returns-in-Ok-false-clause-took g c = took_mark g.D.Drive c.args.mark c.args.positions c.args.drive.now c.read_mark_here.new.drive c.requires.range.1 c.in-Ok-false.ensures.looks

pub returns-in-Err-clause-took : goal.returns-in-Err-clause-took
returns-in-Err-clause-took g c = took_mark g.D.Drive c.args.mark c.args.positions c.args.drive.now c.read_mark_here.new.drive c.requires.range.1 c.in-Err.ensures.looks

pub returns-in-Ok-None-clause-told : goal.returns-in-Ok-None-clause-told
returns-in-Ok-None-clause-told g c = λ held bs ahead some all. absurd
    (none_is c.in-Ok-None.field-0 _ _ bs c.in-Ok-None.field-0-is
    (c.in-Ok-None.ensures.told held bs
    (next_ahead g.D.Drive c.args.mark c.args.positions c.args.drive.now c.read_mark_here.new.drive held bs c.in-Ok-true.ensures.looks.held
    (c.in-Ok-true.ensures.head c.in-Ok-true.field-0-test) ahead)))

pub returns-in-Ok-None-clause-took : goal.returns-in-Ok-None-clause-took
returns-in-Ok-None-clause-took g c =
    took_run g.D.Drive c.args.mark c.args.positions c.args.drive.now c.read_mark_here.new.drive c.read_to_mark.new.drive c.requires.range.1
    c.in-Ok-true.ensures.looks (c.in-Ok-true.ensures.head c.in-Ok-true.field-0-test) c.in-Ok-None.ensures.took

pub returns-in-Err-read_to_mark-clause-took : goal.returns-in-Err-read_to_mark-clause-took
returns-in-Err-read_to_mark-clause-took g c =
    took_run g.D.Drive c.args.mark c.args.positions c.args.drive.now c.read_mark_here.new.drive c.read_to_mark.new.drive c.requires.range.1
    c.in-Ok-true.ensures.looks (c.in-Ok-true.ensures.head c.in-Ok-true.field-0-test) c.in-Err-read_to_mark.ensures.took

pub returns-in-Ok-clause-told : goal.returns-in-Ok-clause-told
returns-in-Ok-clause-told g c = λ held bs ahead some.
    let there = next_ahead g.D.Drive c.args.mark c.args.positions c.args.drive.now c.read_mark_here.new.drive held bs c.in-Ok-true.ensures.looks.held
    (c.in-Ok-true.ensures.head c.in-Ok-true.field-0-test) ahead in
    let heads = subst (λ (o : Option Run). IfSome o (λ run. (part : Part)
    → g.D.Drive.head c.read_mark_here.new.drive ≡ Some (record { part = part; pos = c.args.mark + 1 })
    → g.D.Drive.head c.read_to_mark.new.drive ≡ Some (record { part = part; pos = run.after }))) c.in-Ok-Some.field-0-is c.in-Ok-Some.ensures.head in
    ended_told (items_of ahead.part held) c.args.mark bs c.read_to_mark.new.document.items c.in-Ok-Some.run' c.in-Ok.ends c.ending_of.result
    ahead.index some
    (run_is c.in-Ok-Some.field-0 c.in-Ok-Some.run' _ _ bs c.in-Ok-Some.field-0-is (c.in-Ok-Some.ensures.told held bs there))
    (end_told g.D.Drive c.args.mark c.args.positions c.args.drive.now c.read_mark_here.new.drive c.read_to_mark.new.drive c.in-Ok-Some.run' c.in-Ok.ends held bs ahead
    c.in-Ok-true.ensures.looks.held c.in-Ok-Some.ensures.took.looks.held (c.in-Ok-true.ensures.head c.in-Ok-true.field-0-test) heads c.in-Ok.ensures.told)
    c.ending_of.ensures.some c.ending_of.ensures.none

pub returns-in-Ok-clause-took : goal.returns-in-Ok-clause-took
returns-in-Ok-clause-took g c =
    took_end g.D.Drive c.args.mark c.args.positions c.args.drive.now c.read_mark_here.new.drive c.read_to_mark.new.drive c.requires.range.1
    c.in-Ok-true.ensures.looks (c.in-Ok-true.ensures.head c.in-Ok-true.field-0-test) c.in-Ok-Some.ensures.took c.is_end_here.new.drive c.in-Ok.ensures.looks

pub returns-in-Err-is_end_here-clause-took : goal.returns-in-Err-is_end_here-clause-took
returns-in-Err-is_end_here-clause-took g c =
    took_end g.D.Drive c.args.mark c.args.positions c.args.drive.now c.read_mark_here.new.drive c.read_to_mark.new.drive c.requires.range.1
    c.in-Ok-true.ensures.looks (c.in-Ok-true.ensures.head c.in-Ok-true.field-0-test) c.in-Ok-Some.ensures.took c.is_end_here.new.drive c.in-Err-is_end_here.ensures.looks
