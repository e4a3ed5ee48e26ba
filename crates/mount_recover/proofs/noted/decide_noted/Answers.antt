use Rattle.cartridge_meaning.proofs.OneFault.{found_no_fault}
use Rattle.mount_recover.proofs.ByNotes.{chosen_by_notes, none_lacks, noted_ends, noted_forms, noted_sound, noted_within}
use Rattle.mount_recover.proofs.noted.decide_noted.Goals as goal

pub returns-in_default-clause-none : goal.returns-in_default-clause-none
returns-in_default-clause-none c = λ held n limits told are all noted. absurd
    (none_lacks c.args.labels.now n limits c.args.lasts noted c.in_default.ensures.none)

pub returns-in-Ok-clause-found : goal.returns-in-Ok-clause-found
returns-in-Ok-clause-found c = λ held n limits told are all noted.
    chosen_by_notes c.args.labels.now c.args.lasts c.in-Ok.choice held n limits
    (c.in-Ok.ensures.found held
    (noted_forms c.args.labels.now n limits c.args.lasts noted c.in-Some.ends c.in-Some.ensures.some held told are all)
    (noted_ends c.args.labels.now n limits c.args.lasts noted c.in-Some.ends c.in-Some.ensures.some held told are all) are)
    told are all noted

pub returns-in-Ok-clause-any : goal.returns-in-Ok-clause-any
returns-in-Ok-clause-any c = λ n limits noted.
    c.in-Ok.ensures.any limits (noted_within c.args.labels.now n limits c.args.lasts noted c.in-Some.ends c.in-Some.ensures.some)
    (noted_sound c.args.labels.now n limits c.args.lasts noted)

pub returns-in-Err-clause-none : goal.returns-in-Err-clause-none
returns-in-Err-clause-none c = λ held n limits told are all noted found.
    found_no_fault held c.in-Err.field-0 found
    (c.in-Err.ensures.refused held
    (noted_forms c.args.labels.now n limits c.args.lasts noted c.in-Some.ends c.in-Some.ensures.some held told are all)
    (noted_ends c.args.labels.now n limits c.args.lasts noted c.in-Some.ends c.in-Some.ensures.some held told are all) are)
