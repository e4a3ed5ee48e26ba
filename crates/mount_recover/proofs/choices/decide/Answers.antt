use Rattle.mount_recover.specs.Lasts.{IsFirstOutside}
use Rattle.mount_recover.proofs.ChoiceLemmas.{err_counts, err_faults, no_index, ok_decided, ok_sound}
use Rattle.mount_recover.proofs.choices.decide.Goals as goal

pub returns-in-None-clause-refused : goal.returns-in-None-clause-refused
returns-in-None-clause-refused c = λ held forms ends are. no_index held c.args.labels.now c.args.ends c.args.lasts forms ends are c.in-None.ensures.chosen

pub returns-in-Some-clause-found : goal.returns-in-Some-clause-found
returns-in-Some-clause-found c =
    ok_decided c.args.labels.now c.args.ends c.args.lasts c.in-Some.choice c.in-Some.ensures.chosen c.in-Some.ensures.ends c.check.result c.check.ensures.fits

pub returns-in-Some-clause-refused : goal.returns-in-Some-clause-refused
returns-in-Some-clause-refused c =
    err_faults c.args.labels.now c.args.ends c.args.lasts c.in-Some.choice c.in-Some.ensures.chosen c.in-Some.ensures.ends c.check.result c.check.ensures.refused

pub returns-in-Some-clause-any : goal.returns-in-Some-clause-any
returns-in-Some-clause-any c =
    ok_sound c.args.labels.now c.args.ends c.args.lasts c.in-Some.choice c.in-Some.ensures.chosen c.in-Some.ensures.ends c.check.result c.check.ensures.fits

pub returns-in-Some-clause-counts : goal.returns-in-Some-clause-counts
returns-in-Some-clause-counts c =
    err_counts c.check.result (IsFirstOutside c.args.labels.now.ip c.in-Some.choice.ends.ip c.in-Some.choice.ends.dp c.in-Some.choice.index.nodes) c.check.ensures.refused
