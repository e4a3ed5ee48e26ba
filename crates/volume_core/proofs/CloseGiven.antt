-- What is known of a volume that is closed.
use Rattle.std.proofs.Common.{◌≡◌, ⊎_elim, ℕ, ◌==◌, ◌||◌, true, List, [], ◌∷◌, map, Option, Some, None}
use Rattle.std.proofs.Common.{slice_get, refl, sym, ap, ◌∙◌, arith}
use Rattle.std.specs.List.{list_any}
use Rattle.std.proofs.lemmas.Bool.{eq-eqb, or_right}
use Rattle.std.proofs.lemmas.Option.{slice_get_cases, slice_get_within}
use Rattle.tape_types.specs.declared.moments.Moment.{Moment}
use Rattle.tape_drive.specs.declared.drive.Drive.{Ghosts}
use Rattle.head_queue.specs.EventLaws.Trail.{after_all}
use Rattle.head_queue.specs.EventLaws.Waiting.{Waiter}
use Rattle.promises.specs.ServingPromise.Served.{Fixed, View, is_waiting}
use Rattle.promises.proofs.OrderLaws.PhaseLaw.{nothing_waits}
use Rattle.promises.specs.CrashLaws.Laws.{CanServe}
use Rattle.promises.specs.CrashLaws.Safe.{wait_of, waits_after}
use Rattle.promises.specs.PromiseLaws.Kept.{CanRead}
use Rattle.volume_state.specs.StateLaws.Parts.{Parts, view_of}
use Rattle.volume_state.specs.ClosingLaws.Closing.{IsNear}
use Rattle.volume_state.proofs.ClosingLaws.Nears.{closes_can_tell}
use Rattle.volume_core.specs.Promised.{CanClose}
use Rattle.volume_core.proofs.Admitted as admitted

-- ---- no sync waits

listed : (s : Waiter) (syncs : List Waiter) → list_any (λ (w : Waiter). w.ticket == s.ticket) (s ∷ syncs) ≡ true
listed s syncs = ap (λ b. b || list_any (λ (w : Waiter). w.ticket == s.ticket) syncs) (eq-eqb s.ticket s.ticket refl)

module _ {D : Type 0} (drive : Ghosts D) (fixed : Fixed D) (next : Option Moment) (at : Moment) (p : Parts D)
    (can : CanClose drive fixed next at p) where
  abbrev v : View D
  v = view_of fixed next p

  all_there : (k : ℕ) → slice_get p.listed.replies k ≡ Some None → ⊥
  all_there k none =
      let order = can.runs.kept.order in
      let done = (nothing_waits drive v order).0 can.nothing in
      ⊎_elim
      (λ found.
      let h = done.handed k found.0 found.2 in
      let wrong : Some (Some h.0) ≡ Some None = sym h.1 ∙ none in
      let inner : Some h.0 ≡ None = cc in
      cc inner)
      (λ past. omega (arith, order.count, slice_get_within p.listed.replies k None none, past.0))
      (slice_get_cases p.listed.history k).1

  -- no sync waits in a volume that is closed
  pub no_waits : waits_after p.trail.events ≡ []
  no_waits = by (after_all p.trail.events).syncs refl
    where
      by : (syncs : List Waiter) → (after_all p.trail.events).syncs ≡ syncs → waits_after p.trail.events ≡ []
      by [] is = ap (map wait_of) is
      by (s ∷ syncs) is =
          let waits : is_waiting (after_all p.trail.events) s.ticket ≡ true =
          or_right (list_any (λ r. r.ticket == s.ticket) (after_all p.trail.events).requests)
          (list_any (λ w. w.ticket == s.ticket) (after_all p.trail.events).syncs)
          (ap (list_any (λ w. w.ticket == s.ticket)) is ∙ listed s syncs) in
          absurd (all_there s.ticket (can.runs.kept.order.orderly.waiting.waits s.ticket waits))

  -- ---- what the drive told at the start

  -- a cartridge that can be served can be read
  pub reads_too : CanServe drive fixed → CanRead drive fixed
  reads_too serve = record {
    held = serve.held;
    told = serve.told;
    reads_as = serve.reads_as.0.reads;
    reached = serve.reached;
    sure = serve.sure;
  }

  -- the last index of a volume that is closed is near
  pub near : CanRead drive fixed → IsNear (admitted.st drive fixed next at p).space
  near read = (closes_can_tell drive).near fixed.first v can.runs.tied.limits can.runs.tied.mount
      (can.runs.kept.truth read)
