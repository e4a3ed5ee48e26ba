use Rattle.tape_types.proofs.CivilLemmas.{found_text, missing_text, no_civil_text}
use Rattle.tape_types.proofs.ShownLemmas.{civil-found, civil_in-none}
use Rattle.tape_types.proofs.times.parse_time.Goals as goal

pub returns-in-Some-clause-some : goal.returns-in-Some-clause-some
returns-in-Some-clause-some c =
    found_text c.args.text.now c.in-Some.civil c.moment_of.result c.in-Some.ensures.some c.moment_of.ensures.some

pub returns-in-Some-clause-none : goal.returns-in-Some-clause-none
returns-in-Some-clause-none c =
    missing_text c.args.text.now c.in-Some.civil c.moment_of.result c.in-Some.ensures.some c.in-Some.ensures.places c.moment_of.ensures.none

pub returns-in-None-clause-none : goal.returns-in-None-clause-none
returns-in-None-clause-none c = no_civil_text c.args.text.now c.in-None.ensures.none

pub returns-in-Some-clause-civil : goal.returns-in-Some-clause-civil
returns-in-Some-clause-civil c =
    civil-found c.args.text.now c.in-Some.civil c.moment_of.result c.in-Some.ensures.some c.in-Some.ensures.places c.moment_of.ensures.some c.moment_of.ensures.exists

pub returns-in-None-clause-civil : goal.returns-in-None-clause-civil
returns-in-None-clause-civil c = civil_in-none c.args.text.now c.in-None.ensures.none
