-- A submission in the words of what it adds to the view.
use Rattle.std.proofs.Common.{◌≡◌, ℕ, ◌+◌, ◌-◌, ◌^◌, ◌≤◌, ◌<◌, true, false, List, [], ◌∷◌, ◌++◌, length, map, Option, Some, None, append-nil, refl, sym, ap, subst, ◌∙◌, arith}
use Rattle.std.specs.Prelude.{slice_get}
use Rattle.std.proofs.lemmas.List.Elements.{All-cons}
use Rattle.tape_types.specs.declared.cartridges.Cartridge.{Cartridge}
use Rattle.tape_types.specs.declared.cartridges.Limits.{Limits}
use Rattle.tape_types.specs.declared.cartridges.Place.{Place}
use Rattle.tape_types.specs.declared.moments.Moment.{Moment}
use Rattle.tape_drive.specs.declared.drive.Drive.{Ghosts}
use Rattle.tape_layout.specs.declared.ops.Op.{Op}
use Rattle.plain_tree.specs.History.{call_at}
use Rattle.plain_tree.specs.declared.calls.Call.{Call}
use Rattle.plain_tree.specs.declared.calls.Call.TheVariants.{Read, Sync, Write}
use Rattle.plain_tree.specs.declared.calls.Fate.{Fate}
use Rattle.plain_tree.specs.declared.calls.Fate.TheVariants as fates
use Rattle.plain_tree.specs.declared.calls.Placed.{Placed}
use Rattle.session_script.specs.Grammar.{calls_of}
use Rattle.session_script.specs.declared.logs.Event.{Event}
use Rattle.session_script.specs.declared.logs.Event.TheVariants.{Wants, Queues, Drains}
use Rattle.session_script.specs.declared.logs.Reply.{Reply}
use Rattle.space_laws.specs.Laws.{may_write_index}
use Rattle.space_laws.specs.Space.{Space}
use Rattle.space_laws.specs.Standing.{Given, Standing, admitted_at, ask_of}
use Rattle.space_laws.proofs.PlainAsks.{of_other}
use Rattle.promises.specs.ServingPromise.Served.{View}
use Rattle.promises.specs.ServingPromise.Submits.{IsOfDone, IsOfFate, Places, Submits, call_of, fate_for, queues_at}
use Rattle.promises.specs.declared.serving_promise.answers.Submitted.{Submitted}
use Rattle.promises.specs.declared.serving_promise.answers.Submitted.TheVariants as submitted
use Rattle.promises.specs.CrashLaws.Changes.{AreQuiet, HasHeaded, IsAsked, IsPlaced, is_quiet}
use Rattle.promises.specs.CrashLaws.Laws.{AddsOps, AsksNoIndex, IsNextDue, IsSafeNow, SubmitsAreSafe, next_ask, next_ops, IsSafeWith}
use Rattle.promises.specs.CrashLaws.Safe.{IsSafe, given_by, seen_by, space_now, standing_now, Planned}
use Rattle.promises.proofs.CrashLaws.Placing.{calls_are_safe, follows_none, none_safe, same_standing}
use Rattle.promises.proofs.CrashLaws.Submitted.{submissions_are_safe}

-- ---- quiet events

no_events : AreQuiet []
no_events = λ k d less. absurd (omega (arith, less))

quiet_queues : (places : List Place) → AreQuiet (queues_at places)
quiet_queues [] = no_events
quiet_queues (p ∷ places) = All-cons (λ (e : Event). is_quiet e ≡ true) (Queues p) (queues_at places) refl (quiet_queues places)

quiet_wants : (here : ℕ) (places : List Place) → AreQuiet (map (λ place. Wants here place) places)
quiet_wants here [] = no_events
quiet_wants here (p ∷ places) = All-cons (λ (e : Event). is_quiet e ≡ true) (Wants here p) (map (λ place. Wants here place) places) refl (quiet_wants here places)

quiet_drain : (who : ℕ) → AreQuiet (Drains who ∷ [])
quiet_drain who = All-cons (λ (e : Event). is_quiet e ≡ true) (Drains who) [] refl no_events

quiet_by : (added others : List Event) → added ≡ others → AreQuiet others → AreQuiet added
quiet_by added others is quiet = subst AreQuiet (sym is) quiet

-- ---- only a sync asks for an index

abbrev AsksNone : Given → Standing → Call → Moment → Type 0
AsksNone g st call at = AsksNoIndex (ask_of g st call at)

module _ {D : Type 0} (drive : Ghosts D)
    (only_now : (d : D) (image : Cartridge) → drive.commands d < 2 ^ 64 - 1 → drive.left_since d (drive.commands d) image → drive.leaves d image)
    (planned : Planned) (old new : View D) (who nth : ℕ) (answer : Submitted) (safe : IsSafeNow drive planned (drive.limits old.fixed.first) old)
    (s : Submits (seen_by drive old.fixed.first) (seen_by drive new.drive) old new who nth answer) (adds : AddsOps (drive.limits old.fixed.first) old new)
    (headed : HasHeaded new) (size : 1 ≤ old.fixed.mounted.label.block)
    (due : (p : Placed) → new.history ≡ old.history ++ p ∷ [] → p.fate ≡ fates.Done → call_at (calls_of old.fixed.script) p ≡ Some Sync
    → (space_now (drive.limits old.fixed.first) old).changed ≡ true → IsNextDue planned (drive.limits old.fixed.first) old p.at) where
  abbrev limits : Limits
  limits = drive.limits old.fixed.first

  -- so it is safe, with the ops that were added
  abbrev Result : Type 0
  Result = (asked : List Op) × (new.ops ≡ old.ops ++ asked) × IsSafeWith drive planned limits asked new

  abbrev g : Given
  g = given_by limits old

  abbrev st : Standing
  st = standing_now limits old

  asks_none : (call : Call) (at : Moment) → may_write_index call ≡ false → AsksNone g st call at
  asks_none call at other = of_other AsksNoIndex tt tt (λ wanted bytes. tt) g st call at other

  asked_by : (p : Placed) (ops : List Op) (added : List Event) → s.added ≡ added → new.history ≡ old.history ++ p ∷ []
      → admitted_at g old.on old.history (length old.history) p ≡ ops → IsPlaced drive old new p ops added
  asked_by p ops added added_is history is = subst (λ (l : List Event). IsPlaced drive old new p ops l) added_is (record {
    asks = record { fixed = s.fixed; drive_is = s.drive; on = s.on; ops = adds.placed p history ∙ ap (λ (l : List Op). old.ops ++ l) is; adds = s.adds };
    history = history;
  })

  void_ops : (p : Placed) → p.fate ≡ fates.Void → admitted_at g old.on old.history (length old.history) p ≡ []
  void_ops p fate = rw fate refl

  none_ops : (p : Placed) → p.fate ≡ fates.Done → call_at g.calls p ≡ None → admitted_at g old.on old.history (length old.history) p ≡ []
  none_ops p fate is = rw (fate, is) refl

  done_ops : (p : Placed) (call : Call) → p.fate ≡ fates.Done → call_at g.calls p ≡ Some call
      → admitted_at g old.on old.history (length old.history) p ≡ next_ops limits old (next_ask limits old call p.at)
  done_ops p call fate is = rw (fate, is) refl

  ops_by : (p : Placed) (ops : List Op) → new.history ≡ old.history ++ p ∷ [] → admitted_at g old.on old.history (length old.history) p ≡ ops
      → new.ops ≡ old.ops ++ ops
  ops_by p ops history is = adds.placed p history ∙ ap (λ (l : List Op). old.ops ++ l) is

  -- a call that is no sync
  quiet_call : (p : Placed) (call : Call) (added : List Event) → s.added ≡ added → new.history ≡ old.history ++ p ∷ [] → p.fate ≡ fates.Done
      → call_at g.calls p ≡ Some call → AreQuiet added → AsksNone g st call p.at → Result
  quiet_call p call added added_is history fate is quiet none = (
    next_ops limits old (next_ask limits old call p.at),
    ops_by p (next_ops limits old (next_ask limits old call p.at)) history (done_ops p call fate is),
    (calls_are_safe drive only_now).done planned limits old new p call added safe
        (asked_by p (next_ops limits old (next_ask limits old call p.at)) added added_is history (done_ops p call fate is)) quiet fate is none,
  )

  by_call : (p : Placed) (call : Option Call) → new.history ≡ old.history ++ p ∷ [] → p.fate ≡ fates.Done → call_at g.calls p ≡ call
      → IsOfDone (length old.history) old.events call s.added → Result
  by_call p None history fate is of = (
    [],
    ops_by p [] history (none_ops p fate is),
    (
      planned,
      follows_none planned,
      none_safe drive only_now planned limits old new p [] safe (asked_by p [] [] of history (none_ops p fate is)) no_events fate is,
    ),
  )
  by_call p (Some (Write path offset bytes)) history fate is of =
      quiet_call p (Write path offset bytes) (queues_at of.0) of.1 history fate is (quiet_queues of.0)
      (asks_none (Write path offset bytes) p.at refl)
  by_call p (Some (Read path offset count)) history fate is of =
      quiet_call p (Read path offset count) (map (λ place. Wants (length old.history) place) of.0) of.1 history fate is (quiet_wants (length old.history) of.0)
      (asks_none (Read path offset count) p.at refl)
  by_call p (Some Sync) history fate is of = (
    next_ops limits old (next_ask limits old Sync p.at),
    ops_by p (next_ops limits old (next_ask limits old Sync p.at)) history (done_ops p Sync fate is),
    (calls_are_safe drive only_now).synced planned limits old new p (queues_at of.0) safe
        (asked_by p (next_ops limits old (next_ask limits old Sync p.at)) _ of.1 history (done_ops p Sync fate is)) (quiet_queues of.0) headed fate is size
        (due p history fate is),
  )
  by_call p (Some call) history fate is of =
      quiet_call p call [] of history fate is no_events (asks_none call p.at refl)

  -- the call of what was placed
  call_is : (fate : Fate) (reply : Option Reply) (places : Places old new who nth fate reply) → call_at g.calls places.placed ≡ call_of old who nth
  call_is fate reply places =
      ap (λ (w : ℕ). slice_get (calls_of old.fixed.script w) places.placed.nth) places.who_is ∙ ap (λ (n : ℕ). slice_get (calls_of old.fixed.script who) n) places.nth_is

  by_fate : (fate : Fate) (reply : Option Reply) → Places old new who nth fate reply
      → IsOfFate fate (length old.history) old.events (call_of old who nth) s.added → Result
  by_fate fates.Done reply places of = by_call places.placed (call_of old who nth) places.history places.fate_is (call_is fates.Done reply places) of
  by_fate fates.Void reply places of = (
    [],
    ops_by places.placed [] places.history (void_ops places.placed places.fate_is),
    (
      planned,
      follows_none planned,
      (calls_are_safe drive only_now).void planned limits old new places.placed [] safe
          (asked_by places.placed [] [] of places.history (void_ops places.placed places.fate_is)) no_events places.fate_is,
    ),
  )

  drained : IsSafeNow drive planned limits old → new.history ≡ old.history → s.added ≡ Drains who ∷ [] → Result
  drained before history added = (
    [],
    adds.unplaced history ∙ sym (append-nil old.ops),
    (
      planned,
      follows_none planned,
      subst (λ (x : Space). IsSafe drive planned x new) (sym (ap (λ (x : Standing). x.space) same))
          ((submissions_are_safe drive only_now).unplaced planned st.space old new (Drains who ∷ []) before asks history (quiet_drain who)),
    ),
  )
    where
      same : standing_now limits new ≡ st
      same = same_standing limits old new s.fixed s.on history

      asks : IsAsked drive old new [] (Drains who ∷ [])
      asks = subst (λ (l : List Event). IsAsked drive old new [] l) added
          (record { fixed = s.fixed; drive_is = s.drive; on = s.on; ops = adds.unplaced history ∙ sym (append-nil old.ops); adds = s.adds })

module _ {D : Type 0} (drive : Ghosts D)
    (only_now : (d : D) (image : Cartridge) → drive.commands d < 2 ^ 64 - 1 → drive.left_since d (drive.commands d) image → drive.leaves d image) where
  -- each submission keeps a volume safe, by what it adds to the view
  pub submits_are_safe : SubmitsAreSafe drive
  submits_are_safe planned old new who nth (submitted.Ready reply) safe s adds headed size due =
      by_fate drive only_now planned old new who nth (submitted.Ready reply) safe s adds headed size due (fate_for reply) (Some reply) s.placing s.of_it
  submits_are_safe planned old new who nth (submitted.Wait ticket) safe s adds headed size due =
      by_fate drive only_now planned old new who nth (submitted.Wait ticket) safe s adds headed size due fates.Done None s.placing.1 s.of_it.1
  submits_are_safe planned old new who nth submitted.Drain safe s adds headed size due =
      drained drive only_now planned old new who nth submitted.Drain safe s adds headed size due safe s.placing.history s.of_it
