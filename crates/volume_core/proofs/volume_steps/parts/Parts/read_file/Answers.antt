use Rattle.std.proofs.Common.{subst}
use Rattle.plain_tree.specs.declared.calls.Call.TheVariants as calls
use Rattle.volume_core.specs.VolumeSteps.Seen.{seen_parts}
use Rattle.volume_core.specs.VolumeSteps.Wanted.{IsFetched}
use Rattle.volume_core.proofs.VolumeSteps.AwaitLemmas.{may_want}
use Rattle.volume_core.proofs.VolumeSteps.SubmitLemmas.{no_memory_here}
use Rattle.volume_core.proofs.volume_steps.parts.Parts.read_file.Goals as goal

pub read_on-requires-clause-may : goal.read_on-requires-clause-may
read_on-requires-clause-may g c =
    let read = c.in-Ok.fetched.reading in
    let wanted = c.in-Ok.fetched.wanted in
    let found = c.in-Ok.fetched.found in
    let path = c.requires.file.0 in
    may_want c.args.asked.who path c.args.offset c.args.count read wanted found (seen_parts c.args.self.now)
    c.requires.can c.requires.stands c.requires.wants
    (subst (λ n. IsFetched c.args.self.now.stock c.args.self.now.cache n path c.args.offset c.args.count read wanted found) c.len-here.ensures.len
    (c.in-Ok.ensures path c.requires.file.1))

pub returns-in-Ok-clause-submits : goal.returns-in-Ok-clause-submits
returns-in-Ok-clause-submits g c path readable =
    let read = c.in-Ok.fetched.reading in
    let wanted = c.in-Ok.fetched.wanted in
    let found = c.in-Ok.fetched.found in
    c.read_on.ensures.submits path c.args.offset c.args.count (readable.free c.args.offset c.args.count)
    (subst (λ n. IsFetched c.args.self.now.stock c.args.self.now.cache n path c.args.offset c.args.count read wanted found) c.len-here.ensures.len
    (c.in-Ok.ensures path readable))

pub returns-in-Err-clause-submits : goal.returns-in-Err-clause-submits
returns-in-Err-clause-submits g c path readable =
    no_memory_here g.D.Drive c.args.asked.who c.args.asked.nth (calls.Read path c.args.offset c.args.count)
    c.args.asked.at c.void.result (seen_parts c.args.self.now) (seen_parts c.void.new.self) c.requires.can c.void.ensures
