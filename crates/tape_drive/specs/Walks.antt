-- A walk back over a record.
use Rattle.std.specs.Prelude.{ℕ, ◌-◌, ◌<◌, ◌≡◌, ◌⊎◌, Bool, true, false, if◌then◌else◌, List, ◌++◌, length, Some}
use Rattle.tape_types.specs.declared.cartridges.Part.{Part}
use Rattle.tape_types.specs.declared.cartridges.Item.{Item}
use Rattle.tape_drive.specs.declared.record.Act.{Act}
use Rattle.tape_drive.specs.declared.record.Act.TheVariants.{Put, Flushed, Noted, Settled}
use Rattle.tape_drive.specs.declared.crash.Walk.{Walk}
use Rattle.tape_drive.specs.Record.{front}
use Rattle.tape_drive.specs.Images.{is_same}

-- over an item that was put, in this partition or not: to after it, to within its cut, or to before it
abbrev pub PutSteps : Bool → Bool → ℕ → List Item → Walk → Walk → Type 0
PutSteps true own moment gone old new =
    ((old.count - 2 < moment) × (new.items.items ≡ old.items.items) × (new.next ≡ old.next))
    ⊎ ((old.count - 2 ≡ moment) × (new.items.items ≡ (if own then front old.items.items else old.items.items))
    × (new.next ≡ (if own then Some (length old.items.items - 1) else old.next)))
PutSteps false own moment gone old new =
    (moment < old.count - 2) × (new.count ≡ old.count - 2)
    × (new.items.items ≡ (if own then front old.items.items ++ gone else old.items.items))
    × (new.next ≡ (if own then Some (length old.items.items - 1) else old.next))

-- nothing has changed
pub record Stays (old new : Walk) : Type 0 where
  pub count : new.count ≡ old.count
  pub items : new.items.items ≡ old.items.items
  pub next : new.next ≡ old.next

-- over an act
abbrev pub Steps : Bool → Part → ℕ → Act → Walk → Walk → Type 0
Steps reached part moment (Put p gone failed) old new = PutSteps reached (is_same part p) moment gone old new
Steps true part moment Flushed old new = Stays old new
Steps false part moment Flushed old new = ⊥
Steps true part moment (Noted p before) old new = ⊥
Steps false part moment (Noted p before) old new = Stays old new
Steps true part moment Settled old new = ⊥
Steps false part moment Settled old new = Stays old new
