use Rattle.std.proofs.Common.{refl, subst, Option}
use Rattle.std.specs.Prelude.{IfSome}
use Rattle.ltfs_label.specs.declared.Label.{Label}
use Rattle.mount_recover.specs.Labels.{IsSpelled}
use Rattle.std.proofs.lemmas.Option.{MatchOption-at_some, MatchOption-at_none}
use Rattle.mount_recover.proofs.labels.find_label.Goals as goal

pub returns-in-Ok-Some-clause-found : goal.returns-in-Ok-Some-clause-found
returns-in-Ok-Some-clause-found g c = λ held h. MatchOption-at_some _ _ c.in-Ok-Some.found c.in-Ok-Some.field-0-is (c.in-Ok-Some.ensures.told held h)

pub returns-in-Ok-None-clause-refused : goal.returns-in-Ok-None-clause-refused
returns-in-Ok-None-clause-refused g c = λ held h. (refl, MatchOption-at_none _ _ c.in-Ok-None.field-0-is (c.in-Ok-None.ensures.told held h))

pub returns-in-Ok-Some-clause-spelled : goal.returns-in-Ok-Some-clause-spelled
returns-in-Ok-Some-clause-spelled g c = subst (λ (o : Option Label). IfSome o IsSpelled) c.in-Ok-Some.field-0-is c.in-Ok-Some.ensures.spelled
