use Rattle.std.proofs.Common.{Option, Vec, Global, ℕ, ◌∙◌, subst}
use Rattle.std.specs.Option.{option_map}
use Rattle.held_volume.proofs.syncs.admit_due.Goals as goal
use Rattle.held_volume.specs.Syncs.{IsDocument}
use Rattle.held_volume.specs.Closed.{IsDpDocument}
use Rattle.held_volume.proofs.CloseLemmas.{dp_admitted, dp_refused, dp_still}
use Rattle.held_volume.proofs.Syncing.{sync_admitted, sync_still}

pub returns-in_default-clause-applied : goal.returns-in_default-clause-applied
returns-in_default-clause-applied c tree early g on st at i told =
    sync_still tree c.args.layout.now c.args.frame.now early g on st at i
    (subst (λ (due : Option (Vec ℕ Global)). IsDocument g st at (option_map (λ (doc : Vec ℕ Global). doc.items) due)) c.in_default.is told)

pub returns-in-Ok-clause-applied : goal.returns-in-Ok-clause-applied
returns-in-Ok-clause-applied c tree early g on st at i told =
    let is = subst (λ (due : Option (Vec ℕ Global)). IsDocument g st at (option_map (λ (doc : Vec ℕ Global). doc.items) due)) c.in-Some.is told in
    sync_admitted tree c.args.layout.now c.admit_document.new.layout c.args.frame.now c.admit_document.new.frame at c.as_slice.result.now early g on st i
    (is.0, c.as_slice.ensures.value ∙ is.1) c.in-Ok.field-0 (c.in-Ok.ensures {u = tt})

pub returns-in_default-clause-closes : goal.returns-in_default-clause-closes
returns-in_default-clause-closes c tree early g on st at i told =
    dp_still tree c.args.layout.now c.args.frame.now early g on st at i
    (subst (λ (due : Option (Vec ℕ Global)). IsDpDocument g st at (option_map (λ (doc : Vec ℕ Global). doc.items) due)) c.in_default.is told)

pub returns-in-Ok-clause-closes : goal.returns-in-Ok-clause-closes
returns-in-Ok-clause-closes c tree early g on st at i told =
    let is = subst (λ (due : Option (Vec ℕ Global)). IsDpDocument g st at (option_map (λ (doc : Vec ℕ Global). doc.items) due)) c.in-Some.is told in
    dp_admitted tree c.args.layout.now c.admit_document.new.layout c.args.frame.now c.admit_document.new.frame at c.as_slice.result.now early g on st i
    (is.0, c.as_slice.ensures.value ∙ is.1) c.in-Ok.field-0 (c.in-Ok.ensures {u = tt})

pub returns-in-Err-clause-closes : goal.returns-in-Err-clause-closes
returns-in-Err-clause-closes c tree early g on st at i told =
    let is = subst (λ (due : Option (Vec ℕ Global)). IsDpDocument g st at (option_map (λ (doc : Vec ℕ Global). doc.items) due)) c.in-Some.is told in
    dp_refused tree c.args.layout.now c.admit_document.new.layout c.args.frame.now c.admit_document.new.frame at c.as_slice.result.now early g on st i
    (is.0, c.as_slice.ensures.value ∙ is.1) c.in-Err.e (c.in-Err.ensures {u = tt})
