-- What a close finds on tape that has no index to write on the data partition, or none at all.
use Rattle.std.proofs.Common.{◌≡◌, ⊎_elim, inl, inr, true, false, List, [], ◌∷◌, ◌++◌, Option, Some, None, refl}
use Rattle.std.proofs.Common.{sym, ap, subst, ◌∙◌}
use Rattle.std.proofs.lemmas.Option.{same_Some}
use Rattle.tape_types.specs.declared.cartridges.Cartridge.{Cartridge}
use Rattle.tape_types.specs.declared.cartridges.Limits.{Limits}
use Rattle.tape_types.specs.declared.cartridges.Part.TheVariants.{Dp}
use Rattle.tape_types.specs.declared.moments.Moment.{Moment}
use Rattle.tape_drive.specs.declared.drive.Drive.{Ghosts}
use Rattle.tape_layout.specs.declared.ops.Op.{Op}
use Rattle.cartridge_meaning.specs.Mounts.{Mounts}
use Rattle.head_core.specs.Steps.{AfterOp, IsOpStep}
use Rattle.head_core.specs.declared.work.StepDone.{StepDone}
use Rattle.head_core.specs.declared.work.StepDone.TheVariants as outcome
use Rattle.session_script.specs.declared.logs.Event.{Event}
use Rattle.session_script.specs.declared.logs.Event.TheVariants as events
use Rattle.space_laws.specs.Space.{Space}
use Rattle.space_laws.specs.Standing.{Standing}
use Rattle.promises.specs.ServingPromise.Ends.{begun}
use Rattle.promises.specs.ServingPromise.Served.{Fixed, View}
use Rattle.promises.specs.CrashLaws.Changes.{AreDriven, IsDriven}
use Rattle.promises.specs.CrashLaws.Laws.{AddsOps}
use Rattle.promises.specs.CrashLaws.Safe.{space_now}
use Rattle.promises.proofs.CrashLaws.Placing.{standings_go_on}
use Rattle.volume_state.specs.PlanLaws.Planned.{IsOnWay, Items, mounted_items, with_ops}
use Rattle.volume_state.specs.ClosingLaws.Ready.{GoesOnBy, HasDpIndex, IsStepOnTape, IsTapeReady, TapesStayReady}
use Rattle.volume_state.specs.ClosingLaws.Whole.{IsWhole}
use Rattle.volume_state.proofs.ClosingLaws.Asked.{IsGiven, ask_made, given_one, had_one, on_here, rules_here, unasked_by}
use Rattle.volume_state.proofs.ClosingLaws.Asked.{void_space}
use Rattle.volume_state.proofs.ClosingLaws.Wholes.{whole_done, whole_failed, whole_grows, whole_indexed, wholes_stay}

module _ {D : Type 0} (drive : Ghosts D) where
  -- whatever cartridge the drive tells
  abbrev IsWholeAt : Items → List Op → D → Type 0
  IsWholeAt planned asked d = (c : Cartridge) → drive.held d ≡ Some c → IsWhole Dp planned asked c

  begins : (planned : Items) (limits : Limits) (fixed : Fixed D) (next : Option Moment)
      → ((c : Cartridge) → drive.held fixed.first ≡ Some c
      → Mounts c fixed.mounted × (planned Dp ≡ mounted_items c Dp))
      → IsTapeReady drive planned limits (begun fixed next)
  begins planned limits fixed next mounted = record {
    whole = λ has c told none. ⊎_elim
        (λ (done : fixed.mounted.dp_done ≡ true).
        let its = mounted c told in wholes_stay.begins c fixed.mounted its.0 done refl ∙ sym its.1)
        (λ is. absurd (never is)) has;
    untouched = λ same without. (refl, refl);
  }
    where
      never : (space_now limits (begun fixed next)).admitted ≡ true → ⊥
      never is = let wrong : false ≡ true = is in cc

  -- ---- submissions

  asked_whole : (planned : Items) (limits : Limits) (old new : View D) (asked : List Op)
      → (HasDpIndex old (space_now limits old) → IsWholeAt planned old.ops old.drive) → new.ops ≡ old.ops ++ asked
      → IsGiven limits old new → IsWholeAt (with_ops asked planned) new.ops old.drive
  asked_whole planned limits old new asked whole are (inl had) c told =
      subst (λ (l : List Op). IsWhole Dp (with_ops asked planned) l c) (sym are)
      (whole_grows Dp planned old.ops asked c (whole had c told))
  asked_whole planned limits old new asked whole are (inr (text, is)) c told =
      subst (λ (l : List Op). IsWhole Dp (with_ops asked planned) l c) (sym is)
      (whole_indexed (with_ops asked planned) old.ops (rules_here limits old new) (on_here limits old new)
      (space_now limits old) text c)

  same_first : (old new : View D) → new.fixed ≡ old.fixed → drive.held new.fixed.first ≡ drive.held old.fixed.first
  same_first old new fixed = ap (λ (f : Fixed D). drive.held f.first) fixed

  asked_untouched : (planned : Items) (limits : Limits) (old new : View D) → IsTapeReady drive planned limits old
      → AddsOps limits old new → new.fixed ≡ old.fixed → new.drive ≡ old.drive → new.on ≡ old.on → GoesOnBy old new
      → (space_now limits new).changed ≡ false → (space_now limits new).admitted ≡ false
      → (new.ops ≡ []) × (drive.held new.drive ≡ drive.held new.fixed.first)
  asked_untouched planned limits old new ready adds fixed same on goes unchanged without =
      let made = ask_made limits old new adds fixed on goes in
      let un = unasked_by (rules_here limits old new) (on_here limits old new) (space_now limits old)
      (space_now limits new) made.0 made.2 unchanged without in
      let was = ready.untouched un.changed un.admitted in (
        made.1 ∙ ap (λ (l : List Op). l ++ made.0) was.0 ∙ un.none,
        ap (λ (d : D). drive.held d) same ∙ was.1 ∙ sym (same_first old new fixed),
      )

  submitted : (planned : Items) (limits : Limits) (old new : View D) (asked : List Op)
      → IsTapeReady drive planned limits old → new.ops ≡ old.ops ++ asked → AddsOps limits old new
      → new.fixed ≡ old.fixed → new.drive ≡ old.drive → new.on ≡ old.on → GoesOnBy old new
      → IsTapeReady drive (with_ops asked planned) limits new
  submitted planned limits old new asked ready are adds fixed same on goes = record {
    whole = λ has c told. asked_whole planned limits old new asked ready.whole are
        (given_one limits old new adds fixed on goes has) c (sym (ap (λ (d : D). drive.held d) same) ∙ told);
    untouched = λ unchanged without.
        asked_untouched planned limits old new ready adds fixed same on goes unchanged without;
  }

  -- ---- steps

  -- what is told behind an op was told before it
  before_op : (op : Op) (end : StepDone) (old new : D) (c : Cartridge) → IsOpStep drive op end old new
      → drive.held new ≡ Some c → (before : Cartridge) × (drive.held old ≡ Some before) × AfterOp op end before c
  before_op op end old new c step told = by (drive.held old) refl
    where
      by : (held : Option Cartridge) → drive.held old ≡ held
          → (before : Cartridge) × (drive.held old ≡ Some before) × AfterOp op end before c
      by None is = absurd (let wrong : None ≡ Some c = sym (step.made.untold is) ∙ told in cc)
      by (Some before) is =
          let it = step.told before is in
          (before, is, subst (λ (d : Cartridge). AfterOp op end before d) (same_Some it.0 c (sym it.1 ∙ told)) it.2)

  module _ (planned : Items) (old new : View D) (way : (c : Cartridge) → drive.held old.drive ≡ Some c
      → IsOnWay planned old.ops c) where
    -- ops that stand elsewhere
    with_list : (l : List Op) → old.ops ≡ l → IsWholeAt planned old.ops old.drive → IsWholeAt planned l old.drive
    with_list l is whole c told = subst (λ (l : List Op). IsWhole Dp planned l c) is (whole c told)

    step_whole : (e : Event) → IsDriven drive old new e → IsWholeAt planned old.ops old.drive
        → IsWholeAt planned new.ops new.drive
    step_whole (events.Wants ticket place) did whole = absurd did
    step_whole (events.Queues place) did whole = absurd did
    step_whole (events.Syncs ticket) did whole = absurd did
    step_whole (events.Synced ticket) did whole = absurd did
    step_whole (events.Drains who) did whole = absurd did
    step_whole (events.Rests who) did whole = absurd did
    step_whole (events.Served ticket place fault) did whole = λ c told.
        with_list new.ops (sym did.1) whole c (sym did.2.looks.held ∙ told)
    step_whole (events.Worked place None) did whole = λ c told.
        let was = before_op did.0 did.1 old.drive new.drive c did.3 told in
        whole_done Dp planned did.0 new.ops did.1 was.0 c
        (subst (λ (l : List Op). IsOnWay planned l was.0) did.2 (way was.0 was.1)) was.2 did.4
        (with_list (did.0 ∷ new.ops) did.2 whole was.0 was.1)
    step_whole (events.Worked place (Some told)) did whole = λ c told_now.
        let was = before_op did.0 (outcome.Failed did.2) old.drive new.drive c did.5 told_now in
        subst (λ (l : List Op). IsWhole Dp planned l c) (sym (did.4 ∙ did.3))
        (whole_failed Dp planned did.0 did.1 did.2 was.0 c was.2 (with_list (did.0 ∷ did.1) did.3 whole was.0 was.1))

    -- where no op stands none is done
    step_untouched : (e : Event) → IsDriven drive old new e → old.ops ≡ []
        → (new.ops ≡ []) × (drive.held new.drive ≡ drive.held old.drive)
    step_untouched (events.Wants ticket place) did none = absurd did
    step_untouched (events.Queues place) did none = absurd did
    step_untouched (events.Syncs ticket) did none = absurd did
    step_untouched (events.Synced ticket) did none = absurd did
    step_untouched (events.Drains who) did none = absurd did
    step_untouched (events.Rests who) did none = absurd did
    step_untouched (events.Served ticket place fault) did none = (did.1 ∙ none, did.2.looks.held)
    step_untouched (events.Worked place None) did none =
        absurd (let wrong : did.0 ∷ new.ops ≡ [] = sym did.2 ∙ none in cc)
    step_untouched (events.Worked place (Some told)) did none =
        absurd (let wrong : did.0 ∷ did.1 ≡ [] = sym did.3 ∙ none in cc)

  stepped_whole : (planned : Items) (old new : View D) (added : List Event) → IsStepOnTape drive planned old new added
      → AreDriven drive old new added → IsWholeAt planned old.ops old.drive → IsWholeAt planned new.ops new.drive
  stepped_whole planned old new [] step did whole = λ c told.
      subst (λ (l : List Op). IsWhole Dp planned l c) (sym did)
      (whole c (sym (ap (λ (d : D). drive.held d) (step.still refl)) ∙ told))
  stepped_whole planned old new (e ∷ answers) step did whole = step_whole planned old new step.way e did whole

  stepped_untouched : (planned : Items) (old new : View D) (added : List Event)
      → IsStepOnTape drive planned old new added → AreDriven drive old new added → old.ops ≡ []
      → (new.ops ≡ []) × (drive.held new.drive ≡ drive.held old.drive)
  stepped_untouched planned old new [] step did none =
      (did ∙ none, ap (λ (d : D). drive.held d) (step.still refl))
  stepped_untouched planned old new (e ∷ answers) step did none =
      step_untouched planned old new step.way e did none

  -- with the same space
  stepped : (planned : Items) (limits : Limits) (old new : View D) (added : List Event)
      → IsTapeReady drive planned limits old → IsStepOnTape drive planned old new added
      → space_now limits new ≡ space_now limits old → IsTapeReady drive planned limits new
  stepped planned limits old new added ready step same = record {
    whole = λ has. stepped_whole planned old new added step step.driven
        (ready.whole (had_one limits old new step.fixed same has));
    untouched = λ unchanged without.
        let was = ready.untouched (sym (ap (λ (s : Space). s.changed) same) ∙ unchanged)
        (sym (ap (λ (s : Space). s.admitted) same) ∙ without) in
        let did = stepped_untouched planned old new added step step.driven was.0 in
        (did.0, did.1 ∙ was.1 ∙ sym (same_first old new step.fixed));
  }

  -- where no index is due on the data partition, it ends where it is planned to
  pub tapes_stay_ready : TapesStayReady drive
  tapes_stay_ready = record {
    begins = begins;
    submitted = submitted;
    turned = λ planned limits old new added ready step history.
        stepped planned limits old new added ready step
        (ap (λ (s : Standing). s.space) (standings_go_on.stepped limits old new added step.fixed history step.on));
    voided = λ planned limits old new added placed ready step history fate.
        stepped planned limits old new added ready step
        (void_space limits old new added placed step.fixed history fate step.on);
  }
