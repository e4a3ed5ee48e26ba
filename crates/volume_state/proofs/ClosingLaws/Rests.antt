-- That a crash leaves no more than at the start as long as nothing was asked of the tape.
use Rattle.std.proofs.Common.{◌≡◌, List, [], ◌∷◌, None, Some, refl, sym, ap, subst, ◌∙◌}
use Rattle.tape_types.specs.declared.cartridges.Cartridge.{Cartridge}
use Rattle.tape_types.specs.declared.cartridges.Limits.{Limits}
use Rattle.tape_drive.specs.declared.drive.Drive.{Ghosts}
use Rattle.session_script.specs.declared.logs.Event.{Event}
use Rattle.session_script.specs.declared.logs.Event.TheVariants as events
use Rattle.space_laws.specs.Space.{Space}
use Rattle.space_laws.specs.Standing.{Standing}
use Rattle.promises.specs.ServingPromise.Served.{Fixed, View}
use Rattle.promises.specs.CrashLaws.Changes.{AreDriven, IsDriven}
use Rattle.promises.specs.CrashLaws.Laws.{AddsOps}
use Rattle.promises.specs.CrashLaws.Safe.{space_now}
use Rattle.promises.proofs.CrashLaws.Placing.{standings_go_on}
use Rattle.volume_state.specs.PlanLaws.Planned.{Items}
use Rattle.volume_state.specs.ClosingLaws.Ready.{GoesOnBy, IsStepOnTape, IsTapeReady, LeavesNoMore, VolumesRest}
use Rattle.volume_state.proofs.ClosingLaws.Asked.{ask_made, on_here, rules_here, unasked_by, void_space}

module _ {D : Type 0} (drive : Ghosts D) where
  -- from one volume to the next
  abbrev LeavesOn : View D → View D → Type 0
  LeavesOn old new = (image : Cartridge) → drive.leaves new.drive image → drive.leaves old.drive image

  at_first : (old new : View D) → new.fixed ≡ old.fixed → LeavesOn old new
      → ((image : Cartridge) → drive.leaves old.drive image → drive.leaves old.fixed.first image)
      → (image : Cartridge) → drive.leaves new.drive image → drive.leaves new.fixed.first image
  at_first old new fixed on was image left =
      subst (λ (f : Fixed D). drive.leaves f.first image) (sym fixed) (was image (on image left))

  submitted : (limits : Limits) (old new : View D) → LeavesNoMore drive limits old → AddsOps limits old new
      → new.fixed ≡ old.fixed → new.drive ≡ old.drive → new.on ≡ old.on → GoesOnBy old new
      → LeavesNoMore drive limits new
  submitted limits old new was adds fixed same on goes unchanged without =
      let made = ask_made limits old new adds fixed on goes in
      let un = unasked_by (rules_here limits old new) (on_here limits old new) (space_now limits old)
      (space_now limits new) made.0 made.2 unchanged without in
      at_first old new fixed (λ image left. subst (λ (d : D). drive.leaves d image) same left)
      (was un.changed un.admitted)

  -- ---- steps

  -- where no op stands the head only reads
  step_leaves : (old new : View D) (e : Event) → IsDriven drive old new e → old.ops ≡ [] → LeavesOn old new
  step_leaves old new (events.Wants ticket place) did none = absurd did
  step_leaves old new (events.Queues place) did none = absurd did
  step_leaves old new (events.Syncs ticket) did none = absurd did
  step_leaves old new (events.Synced ticket) did none = absurd did
  step_leaves old new (events.Drains who) did none = absurd did
  step_leaves old new (events.Rests who) did none = absurd did
  step_leaves old new (events.Served ticket place fault) did none = did.2.looks.reads.leaves
  step_leaves old new (events.Worked place None) did none =
      absurd (let wrong : did.0 ∷ new.ops ≡ [] = sym did.2 ∙ none in cc)
  step_leaves old new (events.Worked place (Some told)) did none =
      absurd (let wrong : did.0 ∷ did.1 ≡ [] = sym did.3 ∙ none in cc)

  steps_leave : (planned : Items) (old new : View D) (added : List Event) → IsStepOnTape drive planned old new added
      → AreDriven drive old new added → old.ops ≡ [] → LeavesOn old new
  steps_leave planned old new [] step did none = λ image left.
      subst (λ (d : D). drive.leaves d image) (step.still refl) left
  steps_leave planned old new (e ∷ answers) step did none = step_leaves old new e did none

  -- with the same space
  stepped : (planned : Items) (limits : Limits) (old new : View D) (added : List Event)
      → IsTapeReady drive planned limits old → LeavesNoMore drive limits old
      → IsStepOnTape drive planned old new added → space_now limits new ≡ space_now limits old
      → LeavesNoMore drive limits new
  stepped planned limits old new added ready was step same unchanged without =
      let changed = sym (ap (λ (s : Space). s.changed) same) ∙ unchanged in
      let admitted = sym (ap (λ (s : Space). s.admitted) same) ∙ without in
      at_first old new step.fixed
      (steps_leave planned old new added step step.driven (ready.untouched changed admitted).0) (was changed admitted)

  -- a crash leaves no more than at the start as long as nothing was asked of the tape
  pub volumes_rest : VolumesRest drive
  volumes_rest = record {
    begins = λ limits fixed next same without image left. left;
    submitted = submitted;
    turned = λ planned limits old new added ready was step history.
        stepped planned limits old new added ready was step
        (ap (λ (s : Standing). s.space) (standings_go_on.stepped limits old new added step.fixed history step.on));
    voided = λ planned limits old new added placed ready was step history fate.
        stepped planned limits old new added ready was step
        (void_space limits old new added placed step.fixed history fate step.on);
  }
