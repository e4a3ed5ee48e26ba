-- All that is kept of a served volume over each call, and what each call shows for it beside what it adds.
use Rattle.std.specs.Prelude.{ℕ, ◌≡◌, ◌≤◌, ◌++◌, ◌∷◌, [], true, List, Some}
use Rattle.tape_types.specs.declared.cartridges.Limits.{Limits}
use Rattle.tape_drive.specs.declared.drive.Drive.{Ghosts}
use Rattle.cartridge_meaning.specs.Carried.{carried}
use Rattle.plain_tree.specs.History.{call_at}
use Rattle.plain_tree.specs.declared.calls.Call.TheVariants.{Sync}
use Rattle.plain_tree.specs.declared.calls.Fate.TheVariants as fates
use Rattle.plain_tree.specs.declared.calls.Placed.{Placed}
use Rattle.session_script.specs.Grammar.{calls_of}
use Rattle.session_script.specs.declared.logs.Event.{Event}
use Rattle.promises.specs.ServingPromise.Meanings.{cartridges}
use Rattle.promises.specs.ServingPromise.Served.{CanTell, Fixed, View}
use Rattle.promises.specs.declared.serving_promise.answers.Drained.{Drained}
use Rattle.promises.specs.declared.serving_promise.answers.Submitted.{Submitted}
use Rattle.promises.specs.OrderLaws.Kept.{seen}
use Rattle.promises.specs.OrderLaws.Laws.{IsInOrder}
use Rattle.promises.specs.OrderLaws.Sides.{DrainsInOrder, SubmitsInOrder, TurnsInOrder}
use Rattle.promises.specs.ReplyLaws.Within.{AnswersTruly, DrainsWithin, StaysTrue, SubmitsWithin}
use Rattle.promises.specs.CrashLaws.Changes.{AreDriven}
use Rattle.promises.specs.CrashLaws.Laws.{AddsOps, CanServe, IsNextDue, IsSafeNow}
use Rattle.promises.specs.CrashLaws.Safe.{Follows, Planned, space_now}
use Rattle.tape_layout.specs.declared.ops.Op.{Op}

-- the drive tells a cartridge that reads as the tree, and a crash leaves just that one
abbrev pub CanRead : {D : Type 0} → Ghosts D → Fixed D → Type 0
CanRead drive fixed = CanTell
    (λ c. cartridges.Reads c (carried fixed.mounted.index) fixed.tree fixed.mounted.newest) fixed.since
    (seen drive fixed.first)

-- what is planned of both partitions, where the cartridge stood for the tree and was sound at the start
abbrev pub Plan : {D : Type 0} → Ghosts D → Fixed D → Type 0
Plan drive fixed = CanServe drive fixed → Planned

-- The order of a served volume, over every drive; the truth of its replies and ops, where the drive told a cartridge
-- that read as its tree; and that it is safe from crashes, where that cartridge stood for the tree and was sound.
pub record IsKept {D : Type 0} (drive : Ghosts D) (fixed : Fixed D) (plan : Plan drive fixed) (v : View D)
    : Type 0 where
  pub fixed_is : v.fixed ≡ fixed
  pub order : IsInOrder drive v
  pub truth : CanRead drive fixed → StaysTrue (seen drive fixed.first) v
  pub safe : (can : CanServe drive fixed) → IsSafeNow drive (plan can) (drive.limits fixed.first) v

-- ---- what a call shows

-- the index of a sync is due that is placed next, where anything changed before it
abbrev pub SyncsAreDue : {D : Type 0} → Limits → Planned → View D → View D → Type 0
SyncsAreDue limits p old new = (placed : Placed) → new.history ≡ old.history ++ placed ∷ []
    → placed.fate ≡ fates.Done → call_at (calls_of old.fixed.script) placed ≡ Some Sync
    → (space_now limits old).changed ≡ true → IsNextDue p limits old placed.at

pub record SubmitsRightly {D : Type 0} (drive : Ghosts D) (fixed : Fixed D) (plan : Plan drive fixed)
    (old new : View D) (who nth : ℕ) (added : List Event) (answer : Submitted) : Type 0 where
  pub order : SubmitsInOrder old new added answer
  pub truth : CanRead drive fixed → SubmitsWithin (seen drive fixed.first) old new who nth answer
  pub ops : CanServe drive fixed → AddsOps (drive.limits fixed.first) old new
  pub size : CanServe drive fixed → 1 ≤ fixed.mounted.label.block
  pub due : (can : CanServe drive fixed) → SyncsAreDue (drive.limits fixed.first) (plan can) old new

pub record TurnsRightly {D : Type 0} (drive : Ghosts D) (fixed : Fixed D) (old new : View D)
    (added : List Event) : Type 0 where
  pub order : TurnsInOrder (seen drive old.drive) (seen drive new.drive) old new added
  pub truth : CanRead drive fixed → AnswersTruly (seen drive fixed.first) old new
  pub driven : CanServe drive fixed → AreDriven drive old new added

pub record DrainsRightly {D : Type 0} (drive : Ghosts D) (fixed : Fixed D) (old new : View D) (who : ℕ)
    (made : List Event) (answer : Drained) : Type 0 where
  pub order : DrainsInOrder (seen drive old.drive) (seen drive new.drive) old new who made answer
  pub truth : CanRead drive fixed → DrainsWithin (seen drive fixed.first) old new who answer
  pub driven : CanServe drive fixed → AreDriven drive old new made

-- ---- what it gets

-- the ops that were added are planned too
abbrev pub Grows : {D : Type 0} → View D → View D → Planned → Planned → Type 0
Grows old new p q = (asked : List Op) × (new.ops ≡ old.ops ++ asked) × Follows p q asked

-- it is kept with a plan that has grown by the ops that were added
pub record IsKeptOn {D : Type 0} (drive : Ghosts D) (fixed : Fixed D) (plan : Plan drive fixed)
    (old new : View D) : Type 0 where
  pub next : Plan drive fixed
  pub grows : (can : CanServe drive fixed) → Grows old new (plan can) (next can)
  pub kept : IsKept drive fixed next new
