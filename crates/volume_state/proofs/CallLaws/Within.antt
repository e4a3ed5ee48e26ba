-- A session waits for a place that the history has.
use Rattle.std.specs.Prelude.{ℕ, ◌≡◌, ◌==◌, ◌<◌, ◌≤◌, true, false, List, Contains, length}
use Rattle.std.proofs.Common.{⊎_elim, refl, sym, ap, ◌∙◌}
use Rattle.std.proofs.lemmas.Bool.{cases_lt, eq-eqb}
use Rattle.std.proofs.lemmas.List.Folds.{list_any-from_Any}
use Rattle.std.proofs.lemmas.Option.{slice_get_past}
use Rattle.tape_drive.specs.declared.drive.Drive.{Ghosts}
use Rattle.plain_tree.specs.declared.calls.Placed.{Placed}
use Rattle.promises.specs.ServingPromise.Marks.{phase, waits}
use Rattle.promises.specs.ServingPromise.Served.{View}
use Rattle.promises.specs.OrderLaws.Laws.{IsInOrder}
use Rattle.promises.proofs.OrderLaws.PhaseLaw.{phases_plain}
use Rattle.promises.proofs.OrderLaws.Picked.{has_picked, passes}
use Rattle.promises.proofs.OrderLaws.Rising.{has}

contains_has : (xs : List ℕ) (k : ℕ) → Contains xs k → has k xs ≡ true
contains_has xs k there = list_any-from_Any (λ x. x == k) xs (there.0, k, there.1, there.2, eq-eqb k k refl)

-- a session waits for a place that the history has
pub waits_within : {D : Type 0} (drive : Ghosts D) (v : View D) → IsInOrder drive v → (who k : ℕ) → phase who v.marks ≡ waits k
    → k < length v.history
waits_within drive v order who k waiting = ⊎_elim (λ less. less) (λ past. absurd (by past)) (cases_lt k (length v.history))
  where
    by : length v.history ≤ k → ⊥
    by past =
        let placed = ((phases_plain drive v order who).waits_for k).0 waiting in
        let no : false ≡ true = sym (ap (passes (λ (p : Placed). p.who == who)) (slice_get_past v.history k past))
        ∙ sym (has_picked (λ (p : Placed). p.who == who) v.history k) ∙ ap (has k) (sym (order.orderly.marks.places who))
        ∙ contains_has _ k placed.placed in
        cc
